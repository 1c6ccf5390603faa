-- The rows of one origin in a store that holds a log.
use Rattle.std.proofs.Common.{◌≡◌, ◌⊎◌, ℕ, ◌<◌, ◌≤◌, ◌^◌, Bool, true, false, cond, T, List, [], ◌∷◌, ◌++◌, length, drop}
use Rattle.std.proofs.Common.{Option, Some, None, refl, sym, ap, subst, ◌∙◌, inl, inr, arith}
use Rattle.std.specs.Prelude.{◌-◌, ◌==◌, ◌&&◌, not, nat_eq}
use Rattle.std.specs.List.{AllByRecursion, starts_with}
use Rattle.std.specs.Option.{option_map}
use Rattle.std.specs.Cmp.{tied_itself}
use Rattle.std.specs.Cmp.Lexicographic.{nat_list_cmp_total}
use Rattle.std.specs.Ordering.{ordering_reverse}
use Rattle.std.specs.declared.cmp.Ordering.TheVariants.{Less, Equal, Greater}
use Rattle.std.specs.FinMap.{get, entries, entries_sorted}
use Rattle.std.specs.FinMap.Entries.{find, is_sorted, below_all}
use Rattle.std.proofs.lemmas.Bool.{cases_lt}
use Rattle.std.proofs.lemmas.Bool.Decides.{nat_tests}
use Rattle.slon_base.specs.Codec.{number_bytes, AllAre}
use Rattle.slon_base.specs.Keeper.{Store, key_cmp, after}
use Rattle.slon_base.proofs.Order.{Entries, less_of, front_of, back_of, behind, prefixed}
use Rattle.slon_base.proofs.Spelled.{number_front, length-number_bytes}
use Rattle.store_rows.specs.Rows.{IsId}
use Rattle.store_rows.specs.Scan.{ranged, spelled_rows}
use Rattle.store_rows.specs.Space.{AllOf}
use Rattle.store_rows.proofs.Listing.{AllHave, have_ranged, after_sorted, after_below, sorted_ranged}
use Rattle.slon_base.proofs.Numbers.{numbers_ordered}
use Rattle.change_capture.specs.declared.log_row.LogRow.{LogRow}
use Rattle.change_capture.specs.Spellings.{log_row_bytes, CanLogRow}
use Rattle.slon_model.specs.Maps.{entry_at, ids}
use Rattle.slon_model.specs.Rows.{member}
use Rattle.slon_model.specs.Snapshots.{Snapshot, Rising, sees}
use Rattle.log_switch.specs.Between.{is_between, bound, passed, if_passes, ArePassed, CanBeLogged, AreOf, SeesBelow}
use Rattle.log_switch.proofs.Numbered.{cancel, find_number}
use Rattle.log_switch.proofs.Ranges.{all_ranged, below_each, find_in, all_there}
use Rattle.log_switch.specs.Holds.{Logged, IsNumbered, log_key, logged_at, HoldsLog}

-- ---- keys with one front

less_number : (p : List ℕ) (a b : ℕ) → a < 2 ^ 63 → b < 2 ^ 63 →
    key_cmp (p ++ number_bytes a) (p ++ number_bytes b) ≡ Less → a < b
less_number p a b one two less = by (cases_lt a b)
  where
    is : key_cmp (number_bytes a) (number_bytes b) ≡ Less
    is = sym (cancel p (number_bytes a) (number_bytes b)) ∙ less

    more : (b < a) ⊎ (a ≤ b) → b ≤ a → a < b
    more (inl lt) le =
        let other = numbers_ordered b a lt (omega (arith, one)) in
        let bad : Less ≡ Greater =
        sym is ∙ nat_list_cmp_total.antisymm (number_bytes a) (number_bytes b) ∙ ap ordering_reverse other in
        absurd cc
    more (inr le) ge =
        let same : a ≡ b = omega arith in
        let bad : Less ≡ Equal =
        sym is ∙ ap (λ k. key_cmp (number_bytes a) (number_bytes k)) (sym same)
        ∙ tied_itself nat_list_cmp_total (number_bytes a) in
        absurd cc

    by : (a < b) ⊎ (b ≤ a) → a < b
    by (inl lt) = lt
    by (inr le) = more (cases_lt b a) le

-- the numbers of rows whose keys ascend
rows_above : (p : List ℕ) (a : ℕ) (rows : List (ℕ × LogRow)) → a < 2 ^ 63 → AllAre (λ r. r.0 < 2 ^ 63) rows →
    T (below_all key_cmp (p ++ number_bytes a) (spelled_rows p number_bytes log_row_bytes rows)) →
    AllByRecursion (λ y. a < y) (ids rows)
rows_above p a [] one small below = tt
rows_above p a (r ∷ rs) one small below = (
  less_number p a r.0 one small.0 (less_of _ (front_of _ _ below)),
  rows_above p a rs one small.1 (back_of _ _ below),
)

rows_rise : (p : List ℕ) (rows : List (ℕ × LogRow)) → AllAre (λ r. r.0 < 2 ^ 63) rows →
    T (is_sorted key_cmp (spelled_rows p number_bytes log_row_bytes rows)) → Rising (ids rows)
rows_rise p [] small sorted = tt
rows_rise p (r ∷ rs) small sorted = (
  rows_above p r.0 rs small.0 small.1 (front_of _ _ sorted),
  rows_rise p rs small.1 (back_of _ _ sorted),
)

-- the keys of the rows from a number on come after that of the bound
is_behind : (p : List ℕ) (first n : ℕ) → first ≤ n → n < 2 ^ 63 →
    key_cmp (p ++ bound first) (p ++ number_bytes n) ≡ Less
is_behind p first n from small = cancel p (bound first) (number_bytes n) ∙ by (first == 0) refl
  where
    by : (b : Bool) → (first == 0) ≡ b → key_cmp (cond b [] (number_bytes (first - 1))) (number_bytes n) ≡ Less
    by true is = behind [] (number_bytes n) (omega (arith, length-number_bytes n))
    by false is =
        let some : 0 < first = grind (arith, nat_tests) in
        numbers_ordered (first - 1) n (omega (arith, some, from)) (omega (arith, small))

-- and no key of a row below that number does
rows_from : (p : List ℕ) (last n : ℕ) (rows : List (ℕ × LogRow)) → n ≤ last → last < 2 ^ 63 →
    AllAre (λ r. r.0 < 2 ^ 63) rows →
    AllAre (λ e. key_cmp (p ++ number_bytes last) e.0 ≡ Less) (spelled_rows p number_bytes log_row_bytes rows) →
    AllByRecursion (λ y. n < y) (ids rows)
rows_from p last n [] le one small below = tt
rows_from p last n (r ∷ rs) le one small below =
    (omega (arith, le, less_number p last r.0 one small.0 below.0), rows_from p last n rs le one small.1 below.1)

-- ---- the rows of an origin

-- these pairs are rows of the log, each with its number
record AreRead (origin : ℕ) (items : List Logged) (es : Entries) : Type 0 where
  rows : List (ℕ × LogRow)
  can : AllAre CanBeLogged rows
  stand : AllAre (λ r. logged_at items (origin, r.0) ≡ Some r.1) rows
  spelled : es ≡ spelled_rows (number_bytes origin) number_bytes log_row_bytes rows

-- one pair of the log of an origin
record IsRead (origin : ℕ) (items : List Logged) (e : List ℕ × List ℕ) : Type 0 where
  row : ℕ × LogRow
  can : CanBeLogged row
  stands : logged_at items (origin, row.0) ≡ Some row.1
  spelled : e ≡ (number_bytes origin ++ number_bytes row.0, log_row_bytes row.1)

read_one : (origin : ℕ) (items : List Logged) (m : Store) (e : List ℕ × List ℕ) → IsId origin → HoldsLog items m →
    starts_with nat_eq e.0 (number_bytes origin) ≡ true → get (m 15) e.0 ≡ Some e.1 → IsRead origin items e
read_one origin items m e id held has there = of (held.keys e.0 e.1 there)
  where
    at : (i : ℕ × ℕ) → IsNumbered i → e.0 ≡ log_key i → i.0 ≡ origin → (o : Option LogRow) →
        logged_at items i ≡ o → AllOf CanLogRow o → Some e.1 ≡ option_map log_row_bytes o → IsRead origin items e
    at i one key mine None stands can is = absurd cc
    at i one key mine (Some row) stands can is =
        let value : e.1 ≡ log_row_bytes row = cc in
        let keyed = key ∙ ap (λ o. number_bytes o ++ number_bytes i.1) mine in
        record {
          row = (i.1, row);
          can = (one.1, can);
          stands = ap (λ o. logged_at items (o, i.1)) (sym mine) ∙ stands;
          spelled = λ k. (keyed k, value k);
        }

    of : (i : ℕ × ℕ) × IsNumbered i × (e.0 ≡ log_key i) → IsRead origin items e
    of (i, one, key) =
        let front = number_front i.0 origin (number_bytes i.1) (drop (length (number_bytes origin)) e.0)
        (omega (arith, one.0.1)) (omega (arith, id.1)) (sym key ∙ prefixed (number_bytes origin) e.0 has) in
        at i one key front.0 (logged_at items i) refl (held.spelled i one)
        (sym there ∙ ap (get (m 15)) key ∙ held.lookups i one)

read_all : (origin : ℕ) (items : List Logged) (m : Store) (es : Entries) → IsId origin → HoldsLog items m →
    AllHave (number_bytes origin) es → AllAre (λ e. get (m 15) e.0 ≡ Some e.1) es → AreRead origin items es
read_all origin items m [] id held have there = record { rows = []; can = tt; stand = tt; spelled = refl }
read_all origin items m (e ∷ es) id held have there =
    let one = read_one origin items m e id held have.0 there.0 in
    let rest = read_all origin items m es id held have.1 there.1 in
    record {
      rows = one.row ∷ rest.rows;
      can = (one.can, rest.can);
      stand = (one.stands, rest.stand);
      spelled = λ k. one.spelled k ∷ rest.spelled k;
    }

range_of : ℕ → ℕ → Store → Entries
range_of origin first m =
    ranged (number_bytes origin) (after (number_bytes origin ++ bound first) (entries (m 15)))

-- all pairs in the range are rows of the origin
read_log : (origin first : ℕ) (items : List Logged) (m : Store) → IsId origin → HoldsLog items m →
    AreRead origin items (range_of origin first m)
unfolding range_of
read_log origin first items m id held =
    let front = number_bytes origin in
    let key = front ++ bound first in
    read_all origin items m (range_of origin first m) id held (have_ranged front (after key (entries (m 15))))
    (all_there front key (m 15))

pub small_of : (rows : List (ℕ × LogRow)) → AllAre CanBeLogged rows → AllAre (λ r. r.0 < 2 ^ 63) rows
small_of [] can = tt
small_of (r ∷ rs) can = (can.0.0, small_of rs can.1)

-- what stands at a number among the rows stands in the log
entry_stands : (origin : ℕ) (items : List Logged) (n : ℕ) (rows : List (ℕ × LogRow)) →
    AllAre (λ r. logged_at items (origin, r.0) ≡ Some r.1) rows → (x : LogRow) → entry_at n rows ≡ Some x →
    logged_at items (origin, n) ≡ Some x
entry_stands origin items n [] stand x is = absurd cc
entry_stands origin items n (r ∷ rs) stand x is =
    step (n == r.0) refl is (entry_stands origin items n rs stand.1 x)
  where
    step : (b : Bool) → (n == r.0) ≡ b → cond b (Some r.1) (entry_at n rs) ≡ Some x →
        (entry_at n rs ≡ Some x → logged_at items (origin, n) ≡ Some x) → logged_at items (origin, n) ≡ Some x
    step true same is later =
        let number : n ≡ r.0 = grind (arith, nat_tests) in
        ap (λ k. logged_at items (origin, k)) number ∙ stand.0 ∙ is
    step false other is later = later is

entries_are : (origin first : ℕ) (items : List Logged) (m : Store) → IsId origin × HoldsLog items m →
    (read : AreRead origin items (range_of origin first m)) → (n : ℕ) → (first ≤ n) × (n < 2 ^ 63) →
    entry_at n read.rows ≡ logged_at items (origin, n)
unfolding range_of
entries_are origin first items m (id, held) read n (from, small) =
    by (entry_at n read.rows) refl (logged_at items (origin, n)) refl
  where
    look : option_map log_row_bytes (entry_at n read.rows) ≡ option_map log_row_bytes (logged_at items (origin, n))
    look =
        sym (find_number log_row_bytes (number_bytes origin) n read.rows small (small_of read.rows read.can))
        ∙ ap (find key_cmp (number_bytes origin ++ number_bytes n)) (sym read.spelled)
        ∙ find_in (number_bytes origin) (bound first) (number_bytes n) (m 15)
        (is_behind (number_bytes origin) first n from small)
        ∙ held.lookups (origin, n) (id, small)

    by : (a : Option LogRow) → entry_at n read.rows ≡ a → (b : Option LogRow) → logged_at items (origin, n) ≡ b →
        entry_at n read.rows ≡ logged_at items (origin, n)
    by (Some x) is b at = is ∙ sym (entry_stands origin items n read.rows read.stand x is)
    by None is None at = is ∙ sym at
    by None is (Some y) at =
        let bad : None ≡ Some (log_row_bytes y) =
        ap (option_map log_row_bytes) (sym is) ∙ look ∙ ap (option_map log_row_bytes) at in
        absurd cc

-- ---- the rows that pass

above_passed : (p : LogRow → Bool) (a : ℕ) (rows : List (ℕ × LogRow)) → AllByRecursion (λ y. a < y) (ids rows) →
    AllByRecursion (λ y. a < y) (ids (passed p rows))
above_passed p a [] above = tt
above_passed p a (r ∷ rs) above =
    elim (p r.1) as (λ b. AllByRecursion (λ y. a < y) (ids (cond b (r ∷ passed p rs) (passed p rs)))) [
      | true ↦ (above.0, above_passed p a rs above.1)
      | false ↦ above_passed p a rs above.1
    ]

pub rise_passed : (p : LogRow → Bool) (rows : List (ℕ × LogRow)) → Rising (ids rows) → Rising (ids (passed p rows))
rise_passed p [] rising = tt
rise_passed p (r ∷ rs) rising =
    elim (p r.1) as (λ b. Rising (ids (cond b (r ∷ passed p rs) (passed p rs)))) [
      | true ↦ (above_passed p r.0 rs rising.0, rise_passed p rs rising.1)
      | false ↦ rise_passed p rs rising.1
    ]

pub small_passed : (p : LogRow → Bool) (rows : List (ℕ × LogRow)) → AllAre (λ r. r.0 < 2 ^ 63) rows →
    AllAre (λ r. r.0 < 2 ^ 63) (passed p rows)
small_passed p [] small = tt
small_passed p (r ∷ rs) small =
    elim (p r.1) as (λ b. AllAre (λ (x : ℕ × LogRow). x.0 < 2 ^ 63) (cond b (r ∷ passed p rs) (passed p rs))) [
      | true ↦ (small.0, small_passed p rs small.1)
      | false ↦ small_passed p rs small.1
    ]

pub none_above : (n : ℕ) (rows : List (ℕ × LogRow)) → AllByRecursion (λ y. n < y) (ids rows) → entry_at n rows ≡ None
none_above n [] above = refl
none_above n (r ∷ rs) above =
    let other : (n == r.0) ≡ false = differ n r.0 above.0 in
    ap (λ b. cond b (Some r.1) (entry_at n rs)) other ∙ none_above n rs above.1
  where
    differ : (a b : ℕ) → a < b → (a == b) ≡ false
    differ a b less = grind (arith, nat_tests)

pub entry_passed : (p : LogRow → Bool) (n : ℕ) (rows : List (ℕ × LogRow)) → Rising (ids rows) →
    entry_at n (passed p rows) ≡ if_passes p (entry_at n rows)
entry_passed p n [] rising = refl
entry_passed p n (r ∷ rs) rising = step (p r.1) refl (n == r.0) refl (entry_passed p n rs rising.1)
  where
    step : (b : Bool) → p r.1 ≡ b → (t : Bool) → (n == r.0) ≡ t →
        entry_at n (passed p rs) ≡ if_passes p (entry_at n rs) →
        entry_at n (cond b (r ∷ passed p rs) (passed p rs)) ≡ if_passes p (cond t (Some r.1) (entry_at n rs))
    step true holds true same rest =
        ap (λ t. cond t (Some r.1) (entry_at n (passed p rs))) same
        ∙ sym (ap (λ b. cond b (Some r.1) None) holds)
    step true holds false other rest = ap (λ t. cond t (Some r.1) (entry_at n (passed p rs))) other ∙ rest
    step false fails true same rest =
        let number : r.0 ≡ n = grind (arith, nat_tests) in
        let above = subst (λ k. AllByRecursion (λ y. k < y) (ids rs)) number rising.0 in
        rest ∙ ap (if_passes p) (none_above n rs above) ∙ sym (ap (λ b. cond b (Some r.1) None) fails)
    step false fails false other rest = rest

-- ---- what is selected of a log

-- what stands below the number in the log does not pass
abbrev pub NonePass : (LogRow → Bool) → ℕ → ℕ → List Logged → Type 0
NonePass p origin first items =
    (n : ℕ) → n < first → (row : LogRow) → logged_at items (origin, n) ≡ Some row → p row ≡ false

none_passes : (p : LogRow → Bool) (origin first : ℕ) (items : List Logged) → NonePass p origin first items → (n : ℕ) →
    n < first → if_passes p (logged_at items (origin, n)) ≡ None
none_passes p origin first items none n less = by (logged_at items (origin, n)) refl
  where
    by : (o : Option LogRow) → logged_at items (origin, n) ≡ o → if_passes p o ≡ None
    by None is = refl
    by (Some row) is = ap (λ b. cond b (Some row) None) (none n less row is)

-- no row below the number is read
none_read : (origin first : ℕ) (items : List Logged) (m : Store) → first < 2 ^ 63 →
    (read : AreRead origin items (range_of origin first m)) → (n : ℕ) → n < first → entry_at n read.rows ≡ None
unfolding range_of
none_read origin first items m fits read n less = none_above n read.rows (by (first == 0) refl below)
  where
    front : List ℕ
    front = number_bytes origin

    below : AllAre (λ e. key_cmp (number_bytes origin ++ bound first) e.0 ≡ Less)
        (spelled_rows (number_bytes origin) number_bytes log_row_bytes read.rows)
    below =
        subst (AllAre (λ e. key_cmp (number_bytes origin ++ bound first) e.0 ≡ Less)) read.spelled
        (all_ranged (λ e. key_cmp (number_bytes origin ++ bound first) e.0 ≡ Less) (number_bytes origin) _
        (below_each (number_bytes origin ++ bound first) _
        (after_below (number_bytes origin ++ bound first) (entries (m 15)) (entries_sorted (m 15)))))

    by : (b : Bool) → (first == 0) ≡ b →
        AllAre (λ e. key_cmp (number_bytes origin ++ cond b [] (number_bytes (first - 1))) e.0 ≡ Less)
        (spelled_rows (number_bytes origin) number_bytes log_row_bytes read.rows) →
        AllByRecursion (λ y. n < y) (ids read.rows)
    by true is all = absurd (grind (arith, nat_tests))
    by false is all =
        rows_from (number_bytes origin) (first - 1) n read.rows (omega (arith, less)) (omega (arith, fits))
        (small_of read.rows read.can) all

-- the rows of an origin from a number on in a store that holds a log, and those of them that pass
pub record IsSelected (p : LogRow → Bool) (origin first : ℕ) (items : List Logged) (m : Store) : Type 0 where
  pub all : List (ℕ × LogRow)
  pub are_of : AreOf origin first m all
  pub are_passed : ArePassed p origin items (passed p all)

pub selected : (p : LogRow → Bool) (origin first : ℕ) (items : List Logged) (m : Store) →
    IsId origin × (first < 2 ^ 63) → HoldsLog items m → NonePass p origin first items →
    IsSelected p origin first items m
unfolding range_of
selected p origin first items m (id, fits) held none =
    let read = read_log origin first items m id held in
    let front = number_bytes origin in
    let key = front ++ bound first in
    let small = small_of read.rows read.can in
    let sorted =
    sorted_ranged front (after key (entries (m 15))) (after_sorted key (entries (m 15)) (entries_sorted (m 15))) in
    let rising =
    rows_rise front read.rows small (subst (λ es. T (is_sorted key_cmp es)) read.spelled sorted) in
    record {
      all = read.rows;
      are_of = record { can = read.can; spelled = read.spelled };
      are_passed = record {
        rising = rise_passed p read.rows rising;
        small = small_passed p read.rows small;
        rows_are = λ n little. entry_passed p n read.rows rising ∙ by read n little (cases_lt n first);
      };
    }
  where
    by : (read : AreRead origin items (range_of origin first m)) → (n : ℕ) → n < 2 ^ 63 → (n < first) ⊎ (first ≤ n) →
        if_passes p (entry_at n read.rows) ≡ if_passes p (logged_at items (origin, n))
    by read n little (inl less) =
        ap (if_passes p) (none_read origin first items m fits read n less)
        ∙ sym (none_passes p origin first items none n less)
    by read n little (inr from) = ap (if_passes p) (entries_are origin first items m (id, held) read n (from, little))

-- a row that the old snapshot sees is not between the two
pub none_between : (tables : List ℕ) (old new : Snapshot) (origin first : ℕ) (items : List Logged) →
    SeesBelow first old origin items → NonePass (is_between tables old new) origin first items
none_between tables old new origin first items seen n less row is =
    ap (λ b. member row.table tables && sees new row.xid && not b) (seen n less row is)
    ∙ by (member row.table tables) (sees new row.xid)
  where
    by : (a b : Bool) → (a && b && not true) ≡ false
    by true true = refl
    by true false = refl
    by false b = refl

-- the pairs behind the spelled key
pub of_key : {m : Store} {rows : List (ℕ × LogRow)} (origin first : ℕ) (prefix key : List ℕ) →
    prefix ≡ number_bytes origin → key ≡ number_bytes origin ++ bound first → AreOf origin first m rows →
    ranged prefix (after key (entries (m 15))) ≡ spelled_rows prefix number_bytes log_row_bytes rows
of_key {m} {rows} origin first prefix key is at are =
    subst (λ k. ranged k (after key (entries (m 15))) ≡ spelled_rows k number_bytes log_row_bytes rows) (sym is)
    (subst (λ k. ranged (number_bytes origin) (after k (entries (m 15)))
    ≡ spelled_rows (number_bytes origin) number_bytes log_row_bytes rows) (sym at) are.spelled)

-- what passes can be logged too
pub can_passed : (p : LogRow → Bool) (rows : List (ℕ × LogRow)) → AllAre (λ r. (r.0 < 2 ^ 63) × CanLogRow r.1) rows →
    AllAre (λ r. CanLogRow r.1) (passed p rows)
can_passed p [] can = tt
can_passed p (r ∷ rs) can =
    elim (p r.1) as (λ b. AllAre (λ (x : ℕ × LogRow). CanLogRow x.1) (cond b (r ∷ passed p rs) (passed p rs))) [
      | true ↦ (can.0.1, can_passed p rs can.1)
      | false ↦ can_passed p rs can.1
    ]
