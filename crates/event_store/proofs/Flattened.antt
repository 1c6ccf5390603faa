-- The rows of the space of confirmations are, in their order, all that a node knows of how far nodes are.
use Rattle.std.proofs.Common.{◌≡◌, ◌⊎◌, inl, inr, ℕ, ◌<◌, Bool, true, false, cond, T, List, [], ◌∷◌, ◌++◌, length}
use Rattle.std.proofs.Common.{flat_map, Option, Some, None, refl, sym, ap, subst, ◌∙◌, arith, option_map, unwrap_or}
use Rattle.std.proofs.Common.{length-append, Result, Ok, Err}
use Rattle.std.specs.Prelude.{◌==◌, ◌&&◌, IfOk, IfErr}
use Rattle.std.specs.List.{AllByRecursion}
use Rattle.std.specs.Ordering.{is_eq, is_lt}
use Rattle.std.specs.declared.cmp.Ordering.TheVariants.{Less}
use Rattle.std.specs.FinMap.{get, entries, entries_sorted, get-entries}
use Rattle.std.specs.FinMap.Entries.{find, is_sorted, below_all}
use Rattle.std.proofs.lemmas.Bool.{false≢true, false_from_ne_true}
use Rattle.slon_base.specs.Codec.{number_bytes, AllAre}
use Rattle.slon_base.specs.Keeper.{Space, Store, key_cmp, after}
use Rattle.slon_base.proofs.Order.{Entries, same_keys, equal_of, tied, find-after, find_none}
use Rattle.slon_base.proofs.Spelled.{length-number_bytes}
use Rattle.store_rows.specs.Rows.{IsId}
use Rattle.store_rows.specs.Scan.{ranged, spelled_rows}
use Rattle.store_rows.specs.Space.{AllOf}
use Rattle.store_rows.specs.Steps.{Gives, IsOfSpace}
use Rattle.store_rows.specs.declared.stop.Stop.{Stop}
use Rattle.store_rows.proofs.Listing.{AllHave, listed, after_below}
use Rattle.slon_model.specs.Maps.{Map, Map2, ids, entry_at, pair_at}
use Rattle.slon_model.specs.Snapshots.{Rising}
use Rattle.slon_model.specs.Deeds.{told_progress}
use Rattle.set_config.specs.Holds.{AreIds, pair_key}
use Rattle.set_config.specs.Loaded.{same_pair, IsPairBefore, Ascend}
use Rattle.set_config.specs.Rows.{row_of}
use Rattle.set_config.proofs.Entries.{eq_of, not_eq, pair_unique}
use Rattle.set_config.proofs.Keyed.{pair_test}
use Rattle.set_config.proofs.Ordering.{first_before, second_before}
use Rattle.set_config.proofs.Ranges.{are_map, both_are}
use Rattle.event_store.specs.Formed.{Lacks, Reads}
use Rattle.event_store.specs.Giving.{Confirmation, IsConfirmation, AreConfirmations, HearsOfOthers}
use Rattle.event_store.specs.Ordered.{IsOrdered, AreOrdered}
use Rattle.event_store.specs.Spellings.{IsStored}
use Rattle.event_store.specs.Streams.{Streams, confirmed_at}
use Rattle.event_store.specs.Telling.{confirmed_in, confirmations_of}
use Rattle.event_store.proofs.Formed.{none_lacks, stops_at}
use Rattle.event_store.proofs.Listed.{Confirms}
use Rattle.event_store.proofs.NewNodes.{all_told}
use Rattle.event_store.proofs.Regular.{told_ordered}

-- all rows of a map by two ids
abbrev flat : Map2 ℕ → List Confirmation
flat told = flat_map confirmed_in told

pub all_append : {X : Type 0} (P : X → Type 0) (xs ys : List X) → AllAre P xs → AllAre P ys → AllAre P (xs ++ ys)
all_append P [] ys one two = two
all_append P (x ∷ xs) ys one two = (one.0, all_append P xs ys one.1 two)

-- ---- the rows ascend

behind_second : (origin least : ℕ) (cs : Map ℕ) → AllByRecursion (λ y. least < y) (ids cs) →
    AllAre (λ f. IsPairBefore (origin, least) f.0) (confirmed_in (origin, cs))
behind_second origin least [] above = tt
behind_second origin least (c ∷ cs) above = (inr (refl, above.0), behind_second origin least cs above.1)

behind_first : (i : ℕ × ℕ) (origin : ℕ) (cs : Map ℕ) → i.0 < origin →
    AllAre (λ f. IsPairBefore i f.0) (confirmed_in (origin, cs))
behind_first i origin [] less = tt
behind_first i origin (c ∷ cs) less = (inl less, behind_first i origin cs less)

behind_all : (i : ℕ × ℕ) (told : Map2 ℕ) → AllByRecursion (λ y. i.0 < y) (ids told) →
    AllAre (λ f. IsPairBefore i f.0) (flat told)
behind_all i [] above = tt
behind_all i (e ∷ es) above =
    all_append (λ f. IsPairBefore i f.0) (confirmed_in e) (flat es) (behind_first i e.0 e.1 above.0)
    (behind_all i es above.1)

row_ascends : (origin : ℕ) (cs : Map ℕ) → Rising (ids cs) → Ascend IsPairBefore (confirmed_in (origin, cs))
row_ascends origin [] rising = tt
row_ascends origin (c ∷ cs) rising = (behind_second origin c.0 cs rising.0, row_ascends origin cs rising.1)

row_before : (origin : ℕ) (cs : Map ℕ) (told : Map2 ℕ) → AllByRecursion (λ y. origin < y) (ids told) →
    AllAre (λ e. AllAre (λ f. IsPairBefore e.0 f.0) (flat told)) (confirmed_in (origin, cs))
row_before origin [] told above = tt
row_before origin (c ∷ cs) told above = (behind_all (origin, c.0) told above, row_before origin cs told above)

ascend_append : (xs ys : List Confirmation) → Ascend IsPairBefore xs → Ascend IsPairBefore ys →
    AllAre (λ e. AllAre (λ f. IsPairBefore e.0 f.0) ys) xs → Ascend IsPairBefore (xs ++ ys)
ascend_append [] ys one two before = two
ascend_append (x ∷ xs) ys one two before =
    (all_append (λ f. IsPairBefore x.0 f.0) xs ys one.0 before.0, ascend_append xs ys one.1 two before.1)

flat_ascends : (told : Map2 ℕ) → Rising (ids told) → AllAre (λ e. IsOrdered e.1) told →
    Ascend IsPairBefore (flat told)
flat_ascends [] rising rows = tt
flat_ascends (e ∷ es) rising rows =
    ascend_append (confirmed_in e) (flat es) (row_ascends e.0 e.1 rows.0.rising)
    (flat_ascends es rising.1 rows.1) (row_before e.0 e.1 es rising.0)

row_ids : (origin : ℕ) (cs : Map ℕ) → IsId origin → AllAre (λ c. IsId c.0) cs →
    AllAre (λ r. AreIds r.0) (confirmed_in (origin, cs))
row_ids origin [] one all = tt
row_ids origin (c ∷ cs) one all = ((one, all.0), row_ids origin cs one all.1)

flat_ids : (told : Map2 ℕ) → AllAre (λ e. IsId e.0) told → AllAre (λ e. IsOrdered e.1) told →
    AllAre (λ r. AreIds r.0) (flat told)
flat_ids [] firsts rows = tt
flat_ids (e ∷ es) firsts rows =
    all_append (λ r. AreIds r.0) (confirmed_in e) (flat es) (row_ids e.0 e.1 firsts.0 rows.0.ids_are)
    (flat_ids es firsts.1 rows.1)

-- ---- what stands in them for two ids

other_row : (j : ℕ × ℕ) (origin : ℕ) (cs : Map ℕ) (rest : List Confirmation) → (j.0 == origin) ≡ false →
    row_of same_pair j (confirmed_in (origin, cs) ++ rest) ≡ row_of same_pair j rest
other_row j origin [] rest other = refl
other_row j origin (c ∷ cs) rest other =
    ap (λ b. cond (b && (j.1 == c.0)) (Some c.1) (row_of same_pair j (confirmed_in (origin, cs) ++ rest))) other
    ∙ other_row j origin cs rest other

same_row : (j : ℕ × ℕ) (origin : ℕ) (cs : Map ℕ) (rest : List Confirmation) → (j.0 == origin) ≡ true →
    row_of same_pair j rest ≡ None →
    row_of same_pair j (confirmed_in (origin, cs) ++ rest) ≡ entry_at j.1 cs
same_row j origin [] rest same none = none
same_row j origin (c ∷ cs) rest same none =
    ap (λ b. cond (b && (j.1 == c.0)) (Some c.1) (row_of same_pair j (confirmed_in (origin, cs) ++ rest))) same
    ∙ ap (cond (j.1 == c.0) (Some c.1)) (same_row j origin cs rest same none)

none_below : (j : ℕ × ℕ) (told : Map2 ℕ) → AllByRecursion (λ y. j.0 < y) (ids told) →
    row_of same_pair j (flat told) ≡ None
none_below j [] above = refl
none_below j (e ∷ es) above =
    other_row j e.0 e.1 (flat es) (not_eq j.0 e.0 (λ same. omega (arith, same, above.0))) ∙ none_below j es above.1

flat_row : (j : ℕ × ℕ) (told : Map2 ℕ) → Rising (ids told) → row_of same_pair j (flat told) ≡ pair_at j.0 j.1 told
flat_row j [] rising = refl
flat_row j (e ∷ es) rising =
    elim (j.0 == e.0) as (λ b. (j.0 == e.0) ≡ b → row_of same_pair j (confirmed_in e ++ flat es)
    ≡ entry_at j.1 (unwrap_or (cond b (Some e.1) (entry_at j.0 es)) [])) [
      | true ↦ λ is. same_row j e.0 e.1 (flat es) is
          (none_below j es (subst (λ k. AllByRecursion (λ y. k < y) (ids es)) (sym (eq_of j.0 e.0 is)) rising.0))
      | false ↦ λ is. other_row j e.0 e.1 (flat es) is ∙ flat_row j es rising.1
    ] refl

before_differ : (i j : ℕ × ℕ) → IsPairBefore i j → j ≡ i → ⊥
before_differ i j (inl less) same = omega (arith, less, ap (λ k. k.0) same)
before_differ i j (inr (first, less)) same = omega (arith, less, ap (λ k. k.1) same)

-- where rows ascend, each is what stands for its ids
each_found : (rows : List Confirmation) → Ascend IsPairBefore rows →
    AllAre (λ r. row_of same_pair r.0 rows ≡ Some r.1) rows
each_found [] ascend = tt
each_found (r ∷ rs) ascend = (
  ap (λ b. cond b (Some r.1) (row_of same_pair r.0 rs)) (pair_test.itself r.0),
  are_map rs (λ d both. ap (λ b. cond b (Some r.1) (row_of same_pair d.0 rs))
      (false_from_ne_true _ (λ is. before_differ r.0 d.0 both.0 (pair_test.of d.0 r.0 is))) ∙ both.1)
      (both_are (λ d. IsPairBefore r.0 d.0) (λ d. row_of same_pair d.0 rs ≡ Some d.1) rs ascend.0
      (each_found rs ascend.1)),
)

-- ---- the rows as they are spelled

abbrev spelled : List Confirmation → Entries
spelled rows = spelled_rows [] pair_key number_bytes rows

key_before : (i j : ℕ × ℕ) → AreIds j → IsPairBefore i j → key_cmp (pair_key i) (pair_key j) ≡ Less
key_before i j are (inl less) = first_before i j less are.0
key_before i j are (inr (first, less)) =
    subst (λ k. key_cmp (pair_key (k, i.1)) (pair_key j) ≡ Less) (sym first) (second_before j.0 i.1 j.1 less are.1)

both : (a b : Bool) → T a → T b → T (a && b)
both true b s t = t
both false b s t = absurd s

below_rows : (i : ℕ × ℕ) (rows : List Confirmation) → AllAre (λ r. AreIds r.0) rows →
    AllAre (λ f. IsPairBefore i f.0) rows → T (below_all key_cmp (pair_key i) (spelled rows))
below_rows i [] are before = tt
below_rows i (r ∷ rs) are before =
    both _ _ (subst T (sym (ap is_lt (key_before i r.0 are.0 before.0))) tt) (below_rows i rs are.1 before.1)

sorted_rows : (rows : List Confirmation) → AllAre (λ r. AreIds r.0) rows → Ascend IsPairBefore rows →
    T (is_sorted key_cmp (spelled rows))
sorted_rows [] are ascend = tt
sorted_rows (r ∷ rs) are ascend = both _ _ (below_rows r.0 rs are.1 ascend.0) (sorted_rows rs are.1 ascend.1)

have_none : (rows : List Confirmation) → AllHave [] (spelled rows)
have_none [] = tt
have_none (r ∷ rs) = (refl, have_none rs)

-- a look for the key of two ids
find_row : (j : ℕ × ℕ) (rows : List Confirmation) → AreIds j → AllAre (λ r. AreIds r.0) rows →
    find key_cmp (pair_key j) (spelled rows) ≡ option_map number_bytes (row_of same_pair j rows)
find_row j [] one are = refl
find_row j (r ∷ rs) one are =
    let here = λ (b : Bool). cond b (Some (number_bytes r.1)) (find key_cmp (pair_key j) (spelled rs)) in
    elim (same_pair j r.0) as (λ b. same_pair j r.0 ≡ b → here (is_eq (key_cmp (pair_key j) (pair_key r.0)))
    ≡ option_map number_bytes (cond b (Some r.1) (row_of same_pair j rs))) [
      | true ↦ λ is. ap (λ k. here (is_eq (key_cmp (pair_key j) (pair_key k)))) (sym (pair_test.of j r.0 is))
          ∙ ap here (tied (pair_key j))
      | false ↦ λ other. ap here (false_from_ne_true _ (λ ties.
          let same = pair_unique j r.0 one are.0 (same_keys (pair_key j) (pair_key r.0) (equal_of _ ties)) in
          false≢true (sym other ∙ ap (same_pair j) (sym same) ∙ pair_test.itself j)))
          ∙ find_row j rs one are.1
    ] refl

-- a key that is spelled by two ids
abbrev IsSpelt : List ℕ → Type 0
IsSpelt q = (i : ℕ × ℕ) × AreIds i × (q ≡ pair_key i)

-- a look for any key
find_any : (q : List ℕ) (rows : List Confirmation) → AllAre (λ r. AreIds r.0) rows →
    (find key_cmp q (spelled rows) ≡ None) ⊎ IsSpelt q
find_any q [] are = inl refl
find_any q (r ∷ rs) are = step (is_eq (key_cmp q (pair_key r.0))) refl (find_any q rs are.1)
  where
    step : (b : Bool) → is_eq (key_cmp q (pair_key r.0)) ≡ b →
        (find key_cmp q (spelled rs) ≡ None) ⊎ IsSpelt q →
        (cond b (Some (number_bytes r.1)) (find key_cmp q (spelled rs)) ≡ None) ⊎ IsSpelt q
    step true is rest = inr (r.0, are.0, same_keys q (pair_key r.0) (equal_of _ is))
    step false is rest = rest

no_empty : (rows : List Confirmation) → AllAre (λ r. AreIds r.0) rows → find key_cmp [] (spelled rows) ≡ None
no_empty rows are = by (find_any [] rows are)
  where
    by : (find key_cmp [] (spelled rows) ≡ None) ⊎ IsSpelt [] → find key_cmp [] (spelled rows) ≡ None
    by (inl none) = none
    by (inr (i, one, is)) =
        absurd (omega (arith, ap length is, length-number_bytes i.0, length-append {A = ℕ}))

-- ---- a space that holds what a node knows

-- the streams of the node are in order, and the space holds what is confirmed in them
pub record Knows (s : Streams) (space : Space) : Type 0 where
  pub id : IsId s.own
  pub others : HearsOfOthers s
  pub progress : IsOrdered s.progress
  pub told : AreOrdered s.told
  pub holds : Confirms (confirmed_at s) space

-- what the node knows, as a map
abbrev known : Streams → Map2 ℕ
known s = told_progress s.own s.progress s.told

ordered : {s : Streams} {space : Space} → Knows s space → AreOrdered (known s)
ordered {s} k = told_ordered s.own s.progress s.told k.id k.progress k.told

known_ids : {s : Streams} {space : Space} → Knows s space → AllAre (λ r. AreIds r.0) (confirmations_of s)
known_ids {s} k = let are = ordered k in flat_ids (known s) are.firsts.ids_are are.seconds

known_ascends : {s : Streams} {space : Space} → Knows s space → Ascend IsPairBefore (confirmations_of s)
known_ascends {s} k = let are = ordered k in flat_ascends (known s) are.firsts.rising are.seconds

-- for two ids the rows have what is confirmed
known_row : {s : Streams} {space : Space} (k : Knows s space) (j : ℕ × ℕ) → AreIds j →
    row_of same_pair j (confirmations_of s) ≡ confirmed_at s j
known_row {s} k j one = flat_row j (known s) (ordered k).firsts.rising ∙ all_told s j one k.others

known_can : {s : Streams} {space : Space} → Knows s space → AllAre IsConfirmation (confirmations_of s)
known_can {s} k =
    let rows = confirmations_of s in
    are_map rows (λ r of. (
      of.0,
      subst (AllOf IsStored) (sym (known_row k r.0 of.0) ∙ of.1)
          (k.holds.spelled r.0 of.0),
    ))
    (both_are (λ r. AreIds r.0) (λ r. row_of same_pair r.0 rows ≡ Some r.1) rows (known_ids k)
    (each_found rows (known_ascends k)))

look_alike : {s : Streams} {space : Space} → Knows s space → (q : List ℕ) →
    find key_cmp q (spelled (confirmations_of s)) ≡ get space q
look_alike {s} {space} k q = by (find_any q (confirmations_of s) (known_ids k)) (get space q) refl
  where
    at : IsSpelt q → find key_cmp q (spelled (confirmations_of s)) ≡ get space q
    at (i, one, is) =
        subst (λ key. find key_cmp key (spelled (confirmations_of s)) ≡ get space key) (sym is)
        (find_row i (confirmations_of s) one (known_ids k) ∙ ap (option_map number_bytes) (known_row k i one)
        ∙ sym (k.holds.lookups i one))

    by : (find key_cmp q (spelled (confirmations_of s)) ≡ None) ⊎ IsSpelt q → (o : Option (List ℕ)) →
        get space q ≡ o → find key_cmp q (spelled (confirmations_of s)) ≡ get space q
    by (inr spelt) o is = at spelt
    by (inl none) None is = none ∙ sym is
    by (inl none) (Some v) is = at (k.holds.keys q v is)

look_after : {s : Streams} {space : Space} → Knows s space → (q : List ℕ) →
    find key_cmp q (spelled (confirmations_of s)) ≡ find key_cmp q (after [] (entries space))
look_after {s} {space} k [] =
    no_empty (confirmations_of s) (known_ids k)
    ∙ sym (find_none [] [] (after [] (entries space)) (λ g less. less)
    (after_below [] (entries space) (entries_sorted space)))
look_after {s} {space} k (x ∷ xs) =
    look_alike k (x ∷ xs) ∙ get-entries space (x ∷ xs) ∙ sym (find-after (x ∷ xs) [] (entries space) refl)

-- the pairs of the space are the rows of what the node knows, and each of them can be spelled
pub known_rows : {s : Streams} (space : Space) → Knows s space →
    AllAre IsConfirmation (confirmations_of s)
    × (ranged [] (after [] (entries space)) ≡ spelled_rows [] pair_key number_bytes (confirmations_of s))
known_rows {s} space k = (
  known_can k,
  listed [] [] space (spelled (confirmations_of s)) (sorted_rows (confirmations_of s) (known_ids k) (known_ascends k))
      (have_none (confirmations_of s)) (λ q has. look_after k q),
)

-- ---- what a scan of the space reads

-- all pairs of the space are these rows
abbrev AreRows : Store → List Confirmation → Type 0
AreRows m rows = ranged [] (after [] (entries (m 11))) ≡ spelled_rows [] pair_key number_bytes rows

pub rows_found : (m : Store) (result : Result (List Confirmation) Stop) →
    IfOk result (λ rows. AllAre IsConfirmation rows × AreRows m rows) → IfOk result (AreRows m)
rows_found m (Ok rows) found = found.1
rows_found m (Err stop) found = tt

-- the rows are read where all pairs are rows
pub rows_formed : (m : Store) (result : Result (List Confirmation) Stop) → IfErr result (IsOfSpace 11) →
    IfOk result (λ rows. AllAre IsConfirmation rows × AreRows m rows) →
    ((rows : List Confirmation) → AllAre IsConfirmation rows → AreRows m rows →
    Gives (λ found. found ≡ rows) result) → Reads (Lacks 11 (AreConfirmations m)) result
rows_formed m (Ok rows) of found gives = none_lacks (record { rows = rows; can = found.0; spelled = found.1 })
rows_formed m (Err stop) of found gives =
    stops_at 11 (AreConfirmations m) stop of (λ are. gives are.rows are.can are.spelled)
