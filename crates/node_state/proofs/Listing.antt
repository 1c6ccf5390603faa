-- The rows of a space that holds a map, and the ids of its rows.
use Rattle.std.proofs.Common.{◌≡◌, ◌⊎◌, ℕ, ◌<◌, Bool, true, false, cond, T, List, [], ◌∷◌, Option, Some, None, refl}
use Rattle.std.proofs.Common.{sym, ap, subst, ◌∙◌, ◌^◌, inl, inr, arith, length}
use Rattle.std.specs.Prelude.{◌==◌, ◌&&◌, Result, Ok, Err, IfOk, IfErr}
use Rattle.std.specs.List.{AllByRecursion}
use Rattle.std.specs.Option.{option_map}
use Rattle.std.specs.Ordering.{is_eq, is_lt}
use Rattle.std.specs.FinMap.{get, entries, entries_sorted, get-entries}
use Rattle.std.specs.FinMap.Entries.{find, is_sorted, below_all}
use Rattle.std.proofs.lemmas.Bool.Decides.{nat_tests}
use Rattle.slon_base.specs.Codec.{number_bytes, AllAre}
use Rattle.slon_base.specs.Keeper.{Space, Store, key_cmp, after}
use Rattle.slon_base.proofs.Order.{Entries, same_keys, equal_of, find-after, find_none}
use Rattle.slon_base.proofs.Spelled.{length-number_bytes}
use Rattle.store_rows.specs.Rows.{IsId}
use Rattle.store_rows.specs.Scan.{ranged, spelled_rows}
use Rattle.store_rows.specs.Space.{IsSpace, AllOf}
use Rattle.store_rows.specs.Steps.{Gives, IsOfSpace}
use Rattle.store_rows.specs.declared.stop.Stop.{Stop}
use Rattle.store_rows.proofs.Listing.{AllHave, listed, after_below}
use Rattle.slon_base.proofs.Numbers.{numbers_ordered}
use Rattle.slon_model.specs.Maps.{Map, entry_at, ids}
use Rattle.slon_model.specs.Snapshots.{Rising}
use Rattle.log_switch.proofs.Numbered.{find_number}
use Rattle.event_store.specs.Formed.{Lacks, Reads}
use Rattle.node_state.specs.Handed.{AreRowsOf}
use Rattle.event_store.specs.Ordered.{IsOrdered}
use Rattle.node_state.proofs.Formed.{none_lacks, stops_at}

-- no prefix is in front of a key that lacks it
pub ranged_all : (es : Entries) → ranged [] es ≡ es
ranged_all [] = refl
ranged_all (e ∷ es) = ap (λ l. e ∷ l) (ranged_all es)

-- ---- tests

pub self_eq : (a : ℕ) → (a == a) ≡ true
self_eq a = grind (arith, nat_tests)

pub differ_of : (a b : ℕ) → a < b → (b == a) ≡ false
differ_of a b less = grind (arith, nat_tests)

-- ---- what stands at the ids of a map that ascends

-- each entry is what stands at its id
abbrev pub AreAt : {X : Type 0} → Map X → Map X → Type 0
AreAt es all = AllAre (λ e. entry_at e.0 all ≡ Some e.1) es

pub past_first : {X : Type 0} (e : ℕ × X) (es fs : Map X) → AllByRecursion (λ y. e.0 < y) (ids fs) → AreAt fs es →
    AreAt fs (e ∷ es)
past_first e es [] above at = tt
past_first e es (f ∷ fs) above at = (
  ap (λ b. cond b (Some e.1) (entry_at f.0 es)) (differ_of e.0 f.0 above.0) ∙ at.0,
  past_first e es fs above.1 at.1,
)

pub all_at : {X : Type 0} (es : Map X) → Rising (ids es) → AreAt es es
all_at [] rising = tt
all_at (e ∷ es) rising = (
  ap (λ b. cond b (Some e.1) (entry_at e.0 es)) (self_eq e.0),
  past_first e es es rising.0 (all_at es rising.1),
)

-- each of them can be spelled
can_all : {X : Type 0} (Can : X → Type 0) (es all : Map X) → AllAre (λ e. IsId e.0) es → AreAt es all →
    ((i : ℕ) → IsId i → AllOf Can (entry_at i all)) → AllAre (λ e. IsId e.0 × Can e.1) es
can_all Can [] all one at can = tt
can_all Can (e ∷ es) all one at can =
    ((one.0, subst (AllOf Can) at.0 (can e.0 one.0)), can_all Can es all one.1 at.1 can)

-- ---- the rows of a map, as they are spelled

abbrev rows_of : {X : Type 0} → (X → List ℕ) → Map X → Entries
rows_of value es = spelled_rows [] number_bytes value es

both : (a b : Bool) → T a → T b → T (a && b)
both true b s t = t
both false b s t = absurd s

below_rows : {X : Type 0} (value : X → List ℕ) (n : ℕ) (es : Map X) → AllAre (λ e. IsId e.0) es →
    AllByRecursion (λ y. n < y) (ids es) → T (below_all key_cmp (number_bytes n) (rows_of value es))
below_rows value n [] one above = tt
below_rows value n (e ∷ es) one above =
    let less = numbers_ordered n e.0 above.0 (omega (arith, one.0.1)) in
    both _ _ (subst T (sym (ap is_lt less)) tt) (below_rows value n es one.1 above.1)

sorted_rows : {X : Type 0} (value : X → List ℕ) (es : Map X) → AllAre (λ e. IsId e.0) es → Rising (ids es) →
    T (is_sorted key_cmp (rows_of value es))
sorted_rows value [] one rising = tt
sorted_rows value (e ∷ es) one rising =
    both _ _ (below_rows value e.0 es one.1 rising.0) (sorted_rows value es one.1 rising.1)

have_none : {X : Type 0} (value : X → List ℕ) (es : Map X) → AllHave [] (rows_of value es)
have_none value [] = tt
have_none value (e ∷ es) = (refl, have_none value es)

-- ids are numbers
small_ids : {X : Type 0} (es : Map X) → AllAre (λ e. IsId e.0) es → AllAre (λ e. e.0 < 2 ^ 63) es
small_ids [] one = tt
small_ids (e ∷ es) one = (omega (arith, one.0.1), small_ids es one.1)

-- a look for an id
find_row : {X : Type 0} (value : X → List ℕ) (i : ℕ) (es : Map X) → IsId i → AllAre (λ e. IsId e.0) es →
    find key_cmp (number_bytes i) (rows_of value es) ≡ option_map value (entry_at i es)
find_row value i es id one = find_number value [] i es (omega (arith, id.1)) (small_ids es one)

-- a key that is spelled by an id
abbrev IsSpelt : List ℕ → Type 0
IsSpelt q = (i : ℕ) × IsId i × (q ≡ number_bytes i)

-- a look for any key
find_any : {X : Type 0} (value : X → List ℕ) (q : List ℕ) (es : Map X) → AllAre (λ e. IsId e.0) es →
    (find key_cmp q (rows_of value es) ≡ None) ⊎ IsSpelt q
find_any value q [] one = inl refl
find_any {X} value q (e ∷ es) one =
    step (is_eq (key_cmp q (number_bytes e.0))) refl (find_any value q es one.1)
  where
    step : (b : Bool) → is_eq (key_cmp q (number_bytes e.0)) ≡ b →
        (find key_cmp q (rows_of value es) ≡ None) ⊎ IsSpelt q →
        (cond b (Some (value e.1)) (find key_cmp q (rows_of value es)) ≡ None) ⊎ IsSpelt q
    step true is rest = inr (e.0, one.0, same_keys q (number_bytes e.0) (equal_of _ is))
    step false is rest = rest

-- ---- a space that holds a map

-- the map ascends, and the space holds it
pub record HoldsMap {X : Type 0} (value : X → List ℕ) (Can : X → Type 0) (es : Map X) (space : Space) : Type 0 where
  pub ordered : IsOrdered es
  pub holds : IsSpace number_bytes IsId value Can (λ i. entry_at i es) space

look_alike : {X : Type 0} {value : X → List ℕ} {Can : X → Type 0} (es : Map X) (space : Space) →
    HoldsMap value Can es space → (q : List ℕ) → find key_cmp q (rows_of value es) ≡ get space q
look_alike {X} {value} {Can} es space held q = by (find_any value q es held.ordered.ids_are) (get space q) refl
  where
    at : IsSpelt q → find key_cmp q (rows_of value es) ≡ get space q
    at (i, id, is) =
        subst (λ k. find key_cmp k (rows_of value es) ≡ get space k) (sym is)
        (find_row value i es id held.ordered.ids_are ∙ sym (held.holds.lookups i id))

    by : (find key_cmp q (rows_of value es) ≡ None) ⊎ IsSpelt q → (o : Option (List ℕ)) → get space q ≡ o →
        find key_cmp q (rows_of value es) ≡ get space q
    by (inr spelt) o is = at spelt
    by (inl none) None is = none ∙ sym is
    by (inl none) (Some v) is = at (held.holds.keys q v is)

no_empty : {X : Type 0} (value : X → List ℕ) (es : Map X) → AllAre (λ e. IsId e.0) es →
    find key_cmp [] (rows_of value es) ≡ None
no_empty value es one = by (find_any value [] es one)
  where
    by : (find key_cmp [] (rows_of value es) ≡ None) ⊎ IsSpelt [] → find key_cmp [] (rows_of value es) ≡ None
    by (inl none) = none
    by (inr (i, id, is)) = absurd (omega (arith, ap length is, length-number_bytes i))

look_after : {X : Type 0} {value : X → List ℕ} {Can : X → Type 0} (es : Map X) (space : Space) →
    HoldsMap value Can es space → (q : List ℕ) →
    find key_cmp q (rows_of value es) ≡ find key_cmp q (after [] (entries space))
look_after {value = value} es space held [] =
    no_empty value es held.ordered.ids_are
    ∙ sym (find_none [] [] (after [] (entries space)) (λ g less. less)
    (after_below [] (entries space) (entries_sorted space)))
look_after es space held (x ∷ xs) =
    look_alike es space held (x ∷ xs) ∙ get-entries space (x ∷ xs)
    ∙ sym (find-after (x ∷ xs) [] (entries space) refl)

-- the pairs of the space are the rows of the map, and each of them can be spelled
pub held_rows : {X : Type 0} {value : X → List ℕ} {Can : X → Type 0} (es : Map X) (space : Space) →
    HoldsMap value Can es space →
    AllAre (λ e. IsId e.0 × Can e.1) es × (after [] (entries space) ≡ spelled_rows [] number_bytes value es)
held_rows {value = value} {Can} es space held = (
  can_all Can es es held.ordered.ids_are (all_at es held.ordered.rising) held.holds.spelled,
  sym (ranged_all (after [] (entries space)))
      ∙ listed [] [] space (rows_of value es) (sorted_rows value es held.ordered.ids_are held.ordered.rising)
      (have_none value es) (λ q has. look_after es space held q),
)

-- ---- what a scan of a space reads

-- the rows are read where all pairs are rows
pub rows_formed : {X : Type 0} (value : X → List ℕ) (Can : X → Type 0) (space : ℕ) (m : Store)
    (result : Result (List (ℕ × X)) Stop) → IfErr result (IsOfSpace space) →
    IfOk result (λ rows. AllAre (λ e. IsId e.0 × Can e.1) rows
    × (ranged [] (after [] (entries (m space))) ≡ spelled_rows [] number_bytes value rows)) →
    ((rows : List (ℕ × X)) → AllAre (λ e. IsId e.0 × Can e.1) rows →
    ranged [] (after [] (entries (m space))) ≡ spelled_rows [] number_bytes value rows →
    Gives (λ found. found ≡ rows) result) → Reads (Lacks space (AreRowsOf value Can space m)) result
rows_formed value Can space m (Ok rows) of found gives = none_lacks (record {
  found = rows;
  can = found.0;
  spelled = sym (ranged_all (after [] (entries (m space)))) ∙ found.1;
})
rows_formed value Can space m (Err stop) of found gives =
    stops_at space (AreRowsOf value Can space m) stop of
    (λ are. gives are.found are.can (ranged_all (after [] (entries (m space))) ∙ are.spelled))

-- the ids of rows that can be spelled
pub ids_only : {X : Type 0} (Can : X → Type 0) (es : List (ℕ × X)) → AllAre (λ e. IsId e.0 × Can e.1) es →
    AllAre (λ e. IsId e.0) es
ids_only Can [] can = tt
ids_only Can (e ∷ es) can = (can.0.0, ids_only Can es can.1)

-- the rows that were read, under another name
pub rows_as : {X : Type 0} (value : X → List ℕ) (Can : X → Type 0) (space : ℕ) (m : Store) {read : List (ℕ × X)}
    (rows : List (ℕ × X)) → read ≡ rows → AllAre (λ e. IsId e.0 × Can e.1) read →
    after [] (entries (m space)) ≡ spelled_rows [] number_bytes value read →
    (are : AreRowsOf value Can space m) × (are.found ≡ rows)
rows_as value Can space m rows is can spelled = (record { found = _; can = can; spelled = spelled }, is)
