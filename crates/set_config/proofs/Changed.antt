-- The row of a set that is changed, if there is one.
use Rattle.std.proofs.Common.{◌≡◌, ℕ, Bool, true, false, cond, List, [], ◌∷◌, Option, Some, None, refl, sym, ap}
use Rattle.std.proofs.Common.{◌∙◌, option_map, is_some}
use Rattle.std.specs.Prelude.{◌==◌, if◌then◌else◌, map}
use Rattle.slon_base.specs.Keeper.{Store}
use Rattle.node_rows.specs.declared.rows.SetRow.{SetRow}
use Rattle.slon_model.specs.Maps.{Map, entry_at, with_entry}
use Rattle.slon_model.specs.Events.{Feed, Taken}
use Rattle.slon_model.specs.Config.{Config, live_set, set_row, changed_set, handed, taken_over}
use Rattle.set_config.specs.Holds.{Shows}
use Rattle.set_config.proofs.Entries.{eq_of, entry-with}
use Rattle.set_config.proofs.Holding.{same_sets}

-- the entry at an id, changed
abbrev changed : {X : Type 0} → ℕ → (X → X) → Map X → Map X
changed id f es = map (λ e. if e.0 == id then (e.0, f e.1) else e) es

entry-changed : {X : Type 0} (q id : ℕ) (f : X → X) (es : Map X) →
    entry_at q (changed id f es) ≡ cond (q == id) (option_map f (entry_at q es)) (entry_at q es)
entry-changed {X} q id f [] = by (q == id)
  where
    nothing : Option X
    nothing = None

    by : (b : Bool) → nothing ≡ cond b nothing nothing
    by true = refl
    by false = refl
entry-changed {X} q id f (e ∷ es) =
    one (e.0 == id)
    ∙ ap (cond (q == e.0) (Some (cond (e.0 == id) (f e.1) e.1))) (entry-changed q id f es)
    ∙ elim (q == e.0) as (λ t. (q == e.0) ≡ t →
    cond t (Some (cond (e.0 == id) (f e.1) e.1)) (cond (q == id) (option_map f (entry_at q es)) (entry_at q es))
    ≡ cond (q == id) (option_map f (cond t (Some e.1) (entry_at q es))) (cond t (Some e.1) (entry_at q es))) [
      | true ↦ λ is. ap (λ k. Some (cond (k == id) (f e.1) e.1)) (sym (eq_of q e.0 is)) ∙ both (q == id)
      | false ↦ λ other. refl
    ] refl
  where
    one : (b : Bool) → cond (q == (cond b (e.0, f e.1) e).0) (Some (cond b (e.0, f e.1) e).1)
        (entry_at q (changed id f es))
        ≡ cond (q == e.0) (Some (cond b (f e.1) e.1)) (entry_at q (changed id f es))
    one true = refl
    one false = refl

    both : (b : Bool) → Some (cond b (f e.1) e.1) ≡ cond b (Some (f e.1)) (Some e.1)
    both true = refl
    both false = refl

-- ---- the set has no row, or this one

no_change : {X : Type 0} (q id : ℕ) (f : X → X) (es : Map X) → entry_at id es ≡ None →
    entry_at q (changed id f es) ≡ entry_at q es
no_change q id f es none =
    entry-changed q id f es
    ∙ elim (q == id) as (λ b. (q == id) ≡ b → cond b (option_map f (entry_at q es)) (entry_at q es)
    ≡ entry_at q es) [
      | true ↦ λ is. let here = ap (λ k. entry_at k es) (eq_of q id is) ∙ none in
          ap (option_map f) here ∙ sym here
      | false ↦ λ other. refl
    ] refl

change_here : {X : Type 0} (q id : ℕ) (f : X → X) (x : X) (es : Map X) → entry_at id es ≡ Some x →
    entry_at q (changed id f es) ≡ entry_at q (with_entry id (f x) es)
change_here q id f x es is =
    entry-changed q id f es
    ∙ elim (q == id) as (λ b. (q == id) ≡ b → cond b (option_map f (entry_at q es)) (entry_at q es)
    ≡ cond b (Some (f x)) (entry_at q es)) [
      | true ↦ λ same. ap (option_map f) (ap (λ k. entry_at k es) (eq_of q id same) ∙ is)
      | false ↦ λ other. refl
    ] refl
    ∙ sym (entry-with q id (f x) es)

pub shows_unchanged : {base : Store} (c : Config) (set : ℕ) (f : SetRow → SetRow) → None ≡ entry_at set c.sets →
    (m : Store) → Shows base c m → Shows base (changed_set set f c) m
shows_unchanged c set f none m s =
    same_sets (changed set f c.sets) (λ q. no_change q set f c.sets (sym none)) s

pub shows_changed : {base : Store} (c : Config) (set : ℕ) (f : SetRow → SetRow) (row : SetRow) →
    Some row ≡ entry_at set c.sets → (m : Store) →
    Shows base (record c { sets = with_entry set (f row) c.sets }) m → Shows base (changed_set set f c) m
shows_changed c set f row is m s =
    same_sets (changed set f c.sets) (λ q. change_here q set f row c.sets (sym is)) s

-- ---- sets that are taken over

pub live_is : (row : SetRow) → row.live ≡ is_some (live_set (Some row))
live_is row = by row.live
  where
    by : (b : Bool) → b ≡ is_some (cond b (Some row) None)
    by true = refl
    by false = refl

-- a set that is handed is live as it was
live_handed : (q set origin era : ℕ) (feeds : List Feed) (c : Config) →
    is_some (set_row q (handed set origin era feeds c)) ≡ is_some (set_row q c)
live_handed q set origin era feeds c =
    ap (λ o. is_some (live_set o)) (entry-changed q set hand c.sets) ∙ by (q == set) (entry_at q c.sets)
  where
    hand : SetRow → SetRow
    hand row = record row { origin = origin; era = era }

    by : (b : Bool) (o : Option SetRow) → is_some (live_set (cond b (option_map hand o) o))
        ≡ is_some (live_set o)
    by false o = refl
    by true None = refl
    by true (Some row) = elim row.live as
        (λ l. is_some (cond l (Some (record row { origin = origin; era = era })) None)
        ≡ is_some (cond l (Some row) None)) [ true ↦ refl | false ↦ refl ]

pub live_taken : (q backup : ℕ) (sets : List Taken) (c : Config) →
    is_some (set_row q (taken_over backup sets c)) ≡ is_some (set_row q c)
live_taken q backup [] c = refl
live_taken q backup (s ∷ more) c =
    elim (is_some (set_row s.0 c)) as (λ b. is_some
    (set_row q (cond b (handed s.0 backup s.1.0 s.1.1 (taken_over backup more c)) (taken_over backup more c)))
    ≡ is_some (set_row q c)) [
      | true ↦ live_handed q s.0 backup s.1.0 s.1.1 (taken_over backup more c) ∙ live_taken q backup more c
      | false ↦ live_taken q backup more c
    ]
