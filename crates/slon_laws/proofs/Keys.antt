-- What changes and actions do to one row.
use Rattle.std.proofs.Common.{◌≡◌, ℕ, Bool, true, false, cond, List, [], ◌∷◌, Option, Some, None, refl, sym, ap, ◌∙◌}
use Rattle.std.specs.Prelude.{◌&&◌}
use Rattle.std.specs.List.{AllByRecursion}
use Rattle.std.specs.Option.{option_map}
use Rattle.std.specs.Str.{bytes_eq}
use Rattle.std.specs.Ordering.{is_eq}
use Rattle.std.specs.Cmp.Lexicographic.{nat_list_cmp_total}
use Rattle.std.specs.FinMap.{get, insert, get-insert, get-remove}
use Rattle.std.proofs.lemmas.Bool.{and_right}
use Rattle.std.proofs.lemmas.Slice.Eq.{bytes_eq-Decides}
use Rattle.std.proofs.lemmas.Map.Text.{is_eq-slice_cmp}
use Rattle.slon_base.specs.Keeper.{key_cmp}
use Rattle.slon_model.specs.Rows.{Row, Rows, Action, Change, Put, Set, Remove, updated, set_found, apply, touches}
use Rattle.slon_model.specs.Rows.{is_on, play_rows}
use Rattle.slon_laws.specs.Keys.{change_at}

-- the test of the map is the test of changes
pub key_test : (k key : List ℕ) → is_eq (key_cmp k key) ≡ bytes_eq k key
key_test = is_eq-slice_cmp

-- a row put
pub get-put : (rows : Rows) (key : List ℕ) (row : Row) (k : List ℕ) →
    get (insert rows key row) k ≡ cond (bytes_eq k key) (Some row) (get rows k)
get-put rows key row k =
    get-insert nat_list_cmp_total rows key row k ∙ ap (λ b. cond b (Some row) (get rows k)) (key_test k key)

-- a change that finds its row
get-found : (key : List ℕ) (columns : List (ℕ × List ℕ)) (rows : Rows) (k : List ℕ) (o : Option Row) →
    get rows key ≡ o →
    get (set_found key columns rows o) k ≡ cond (bytes_eq k key) (option_map (updated columns) (get rows k))
    (get rows k)
get-found key columns rows k None is =
    elim (bytes_eq k key)
    as (λ b. bytes_eq k key ≡ b → get rows k ≡ cond b (option_map (updated columns) (get rows k)) (get rows k)) [
      | true ↦ λ same. let none : get rows k ≡ None = ap (get rows) ((bytes_eq-Decides k key).0 same) ∙ is in
          none ∙ ap (option_map (updated columns)) (sym none)
      | false ↦ λ other. refl
    ] refl
get-found key columns rows k (Some row) is =
    get-put rows key (updated columns row) k
    ∙ elim (bytes_eq k key)
    as (λ b. bytes_eq k key ≡ b → cond b (Some (updated columns row)) (get rows k)
    ≡ cond b (option_map (updated columns) (get rows k)) (get rows k)) [
      | true ↦ λ same. ap (option_map (updated columns)) (sym (ap (get rows) ((bytes_eq-Decides k key).0 same) ∙ is))
      | false ↦ λ other. refl
    ] refl

-- a change changes the row that it touches, and no other
pub get-apply : (c : Change) (rows : Rows) (k : List ℕ) →
    get (apply c rows) k ≡ cond (touches k c) (change_at c (get rows k)) (get rows k)
get-apply (Put key row) rows k = get-put rows key row k
get-apply (Set key columns) rows k = get-found key columns rows k (get rows key) refl
get-apply (Remove key) rows k =
    get-remove nat_list_cmp_total rows key k ∙ ap (λ b. cond b None (get rows k)) (key_test k key)

-- a change that is made or not
pub get-step : (b : Bool) (c : Change) (rows : Rows) (k : List ℕ) →
    get (cond b (apply c rows) rows) k ≡ cond (b && touches k c) (change_at c (get rows k)) (get rows k)
get-step true c rows k = get-apply c rows k
get-step false c rows k = refl

alike : (p r s t : Bool) → ((s && t) ≡ true → p ≡ r) → ((p && s) && t) ≡ ((r && s) && t)
alike p r true true same = ap (λ b. (b && true) && true) (same refl)
alike p r s false same = and_right (p && s) false refl ∙ sym (and_right (r && s) false refl)
alike p r false t same = ap (λ b. b && t) (and_right p false refl ∙ sym (and_right r false refl))

-- one action of the played ones, at a row
pub get-played : (test : Action → Bool) (table k : List ℕ) (a : Action) (rest : List Action) (start : Rows) →
    get (play_rows test table (a ∷ rest) start) k ≡ cond ((test a && bytes_eq table a.table) && touches k a.change)
    (change_at a.change (get (play_rows test table rest start) k)) (get (play_rows test table rest start) k)
get-played test table k a rest start =
    get-step (test a && bytes_eq table a.table) a.change (play_rows test table rest start) k

-- tests that agree on the actions on a row make the same row of what was alike
pub played_at : (p r : Action → Bool) (table k : List ℕ) (actions : List Action) (one other : Rows) →
    AllByRecursion (λ a. is_on table k a ≡ true → p a ≡ r a) actions × (get one k ≡ get other k) →
    get (play_rows p table actions one) k ≡ get (play_rows r table actions other) k
played_at p r table k [] one other alikes = alikes.1
played_at p r table k (a ∷ rest) one other alikes =
    get-played p table k a rest one
    ∙ ap (λ b. cond b (change_at a.change (get (play_rows p table rest one) k)) (get (play_rows p table rest one) k))
    (alike (p a) (r a) (bytes_eq table a.table) (touches k a.change) alikes.0.0)
    ∙ ap (λ o. cond ((r a && bytes_eq table a.table) && touches k a.change) (change_at a.change o) o)
    (played_at p r table k rest one other (alikes.0.1, alikes.1))
    ∙ sym (get-played r table k a rest other)

-- tests that agree on the actions on a row make the same row
pub agree_at : (p r : Action → Bool) (table k : List ℕ) (actions : List Action) (start : Rows) →
    AllByRecursion (λ a. is_on table k a ≡ true → p a ≡ r a) actions →
    get (play_rows p table actions start) k ≡ get (play_rows r table actions start) k
agree_at p r table k actions start agree = played_at p r table k actions start start (agree, refl)
