-- What is read of a node's log between two snapshots: the rows of the log are those of the definition.
use Rattle.std.proofs.Common.{◌≡◌, ◌∙◌, ℕ, ◌<◌, ◌^◌, Bool, true, false, cond, List, [], ◌∷◌, Option, Some, None, refl}
use Rattle.std.proofs.Common.{sym, ap, subst, map, filter}
use Rattle.std.specs.Prelude.{◌==◌, ◌&&◌, ◌||◌, nat_lt, not, option_map}
use Rattle.std.specs.Cmp.{nat_eq_equiv}
use Rattle.std.specs.List.{AllByRecursion}
use Rattle.std.specs.Str.{bytes_eq}
use Rattle.std.proofs.lemmas.Bool.{eqb-true, ltb-true}
use Rattle.slon_base.specs.Codec.{AllAre}
use Rattle.slon_base.specs.Keeper.{Store}
use Rattle.store_rows.proofs.Spaces.{empty_space}
use Rattle.slon_model.specs.Maps.{Map, entry_at, ids, with_entry}
use Rattle.slon_model.specs.Rows.{member}
use Rattle.slon_model.specs.Snapshots.{Rising, Snapshot, sees}
use Rattle.slon_model.specs.Deeds.{Logged, Node}
use Rattle.slon_model.specs.Following.{delta, is_new, is_on_one, numbered}
use Rattle.slon_laws.specs.Spelled.{AreWritten, IsWritten, logs_in}
use Rattle.slon_laws.proofs.Following.{delta_has}
use Rattle.slon_laws.proofs.Lists.{all_filtered, all_mapped, all_with}
use Rattle.change_capture.specs.declared.log_row.LogRow.{LogRow}
use Rattle.change_capture.specs.Spellings.{CanLogRow}
use Rattle.set_config.proofs.Entries.{entry-with}
use Rattle.log_switch.specs.Between.{ArePassed, CanBeLogged, if_passes, is_between, passed}
use Rattle.log_switch.specs.Holds.{HoldsLog, logged_at}
use Rattle.log_switch.proofs.Ranging.{entry_passed, none_above, rise_passed, small_passed}
use Rattle.event_store.proofs.Holding.{moved}
use Rattle.event_store.proofs.Ordered.{higher, lesser, rising_with}
use Rattle.node_state.specs.Held.{HoldsNode, action_as, items_of}
use Rattle.node_state.proofs.Listing.{self_eq}
use Rattle.node_change.specs.Done.{row_of}
use Rattle.node_store.specs.declared.logged.LoggedRows.{LoggedRows}
use Rattle.node_store.specs.Bringing.{HasLogged}
use Rattle.node_store.specs.Logged as read

-- ---- rows that ascend by their numbers

abbrev Numbered : Type 0
Numbered = Map LogRow

entry_first : (x : ℕ × LogRow) (xs : Numbered) → entry_at x.0 (x ∷ xs) ≡ Some x.1
entry_first x xs = ap (λ b. cond b (Some x.1) (entry_at x.0 xs)) (self_eq x.0)

entry_less : (n : ℕ) (y : ℕ × LogRow) (ys : Numbered) → n < y.0 → Rising (ids (y ∷ ys)) → entry_at n (y ∷ ys) ≡ None
entry_less n y ys less rising = none_above n (y ∷ ys) (less, lesser n y.0 (ids ys) less rising.0)

-- the same numbers stand in both
abbrev AreSame : Numbered → Numbered → Type 0
AreSame xs ys = (n : ℕ) → n < 2 ^ 63 → entry_at n xs ≡ entry_at n ys

-- Rows that ascend, with the number of the first one.
record Ascend (xs : Numbered) : Type 0 where
  rising : Rising (ids xs)
  small : AllAre (λ r. r.0 < 2 ^ 63) xs

behind_first : (x : ℕ × LogRow) (xs : Numbered) → Ascend (x ∷ xs) → Ascend xs
behind_first x xs a = record { rising = a.rising.1; small = a.small.1 }

-- the first of them is in the others too
not_less : (x y : ℕ × LogRow) (xs ys : Numbered) → Ascend (x ∷ xs) → Ascend (y ∷ ys) → AreSame (x ∷ xs) (y ∷ ys) →
    x.0 < y.0 → ⊥
not_less x y xs ys one two same less =
    let bad : Some x.1 ≡ None =
    sym (entry_first x xs) ∙ same x.0 one.small.0 ∙ entry_less x.0 y ys less two.rising in
    absurd cc

others_same : (x y : ℕ × LogRow) (xs ys : Numbered) → Ascend (x ∷ xs) → Ascend (y ∷ ys) →
    AreSame (x ∷ xs) (y ∷ ys) → x.0 ≡ y.0 → AreSame xs ys
others_same x y xs ys one two same equal n small = by (n == x.0) refl
  where
    by : (b : Bool) → (n == x.0) ≡ b → entry_at n xs ≡ entry_at n ys
    by true is =
        let number = eqb-true n x.0 is in
        none_above n xs (subst (λ k. AllByRecursion (λ z. k < z) (ids xs)) (sym number) one.rising.0)
        ∙ sym (none_above n ys (subst (λ k. AllByRecursion (λ z. k < z) (ids ys)) (sym (number ∙ equal)) two.rising.0))
    by false is =
        sym (ap (λ b. cond b (Some x.1) (entry_at n xs)) is) ∙ same n small
        ∙ ap (λ b. cond b (Some y.1) (entry_at n ys)) (ap (λ k. n == k) (sym equal) ∙ is)

first_same : (x y : ℕ × LogRow) (xs ys : Numbered) → Ascend (x ∷ xs) → AreSame (x ∷ xs) (y ∷ ys) → x.0 ≡ y.0 →
    x.1 ≡ y.1
first_same x y xs ys one same equal =
    let both : Some x.1 ≡ Some y.1 =
    sym (entry_first x xs) ∙ same x.0 one.small.0 ∙ ap (λ k. entry_at k (y ∷ ys)) equal ∙ entry_first y ys in
    cc

rows_same : (xs ys : Numbered) → Ascend xs → Ascend ys → AreSame xs ys → xs ≡ ys
rows_same [] [] one two same = refl
rows_same [] (y ∷ ys) one two same =
    let bad : None ≡ Some y.1 = same y.0 two.small.0 ∙ entry_first y ys in
    absurd cc
rows_same (x ∷ xs) [] one two same =
    let bad : Some x.1 ≡ None = sym (entry_first x xs) ∙ same x.0 one.small.0 in
    absurd cc
rows_same (x ∷ xs) (y ∷ ys) one two same =
    by (nat_lt x.0 y.0) refl (x.0 == y.0) refl
    (λ equal. rows_same xs ys (behind_first x xs one) (behind_first y ys two)
    (others_same x y xs ys one two same equal))
  where
    by : (before : Bool) → nat_lt x.0 y.0 ≡ before → (equal : Bool) → (x.0 == y.0) ≡ equal →
        (x.0 ≡ y.0 → xs ≡ ys) → x ∷ xs ≡ y ∷ ys
    by true less b is rest = absurd (not_less x y xs ys one two same (ltb-true x.0 y.0 less))
    by false not true is rest =
        let equal = eqb-true x.0 y.0 is in
        let value = first_same x y xs ys one same equal in
        λ i. (equal i, value i) ∷ rest equal i
    by false not false differ rest =
        absurd (not_less y x ys xs two one (λ n small. sym (same n small)) (higher x.0 y.0 not differ))

-- ---- the log of an origin by numbers

-- the row of what is logged
abbrev pub row_at : Logged → LogRow
row_at l = (row_of l).1

-- the rows, each at its number
abbrev rows_in : Map Logged → Numbered
rows_in es = map (λ e. (e.0, row_at e.1)) es

logged_is : (origin n : ℕ) (logs : List Logged) →
    logged_at (items_of logs) (origin, n) ≡ option_map row_at (entry_at n (numbered origin logs))
logged_is origin n [] = refl
logged_is origin n (l ∷ logs) = by (l.origin == origin) (logged_is origin n logs)
  where
    es : Map Logged
    es = numbered origin logs

    here : (b : Bool) (o : Option Logged) → cond b (Some (row_at l)) (option_map row_at o)
        ≡ option_map row_at (cond b (Some l) o)
    here true o = refl
    here false o = refl

    by : (b : Bool) → logged_at (items_of logs) (origin, n) ≡ option_map row_at (entry_at n es) →
        cond (b && l.action.number == n) (Some (row_at l)) (logged_at (items_of logs) (origin, n))
        ≡ option_map row_at (entry_at n (cond b (with_entry l.action.number l es) es))
    by true rest =
        ap (cond (l.action.number == n) (Some (row_at l))) rest
        ∙ ap (λ b. cond b (Some (row_at l)) (option_map row_at (entry_at n es)))
        (nat_eq_equiv.symm l.action.number n)
        ∙ here (n == l.action.number) (entry_at n es)
        ∙ ap (option_map row_at) (sym (entry-with n l.action.number l es))
    by false rest = rest

entry_in : (n : ℕ) (es : Map Logged) → entry_at n (rows_in es) ≡ option_map row_at (entry_at n es)
entry_in n [] = refl
entry_in n (e ∷ es) =
    elim (n == e.0) as (λ b. cond b (Some (row_at e.1)) (entry_at n (rows_in es))
    ≡ option_map row_at (cond b (Some e.1) (entry_at n es))) [
      | true ↦ refl
      | false ↦ entry_in n es
    ]

-- what is so of each entry, and of what is logged
numbered_are : (P : ℕ × Logged → Type 0) (origin : ℕ) → (logs : List Logged) →
    AllByRecursion (λ l. l.origin ≡ origin → P (l.action.number, l)) logs → AllByRecursion P (numbered origin logs)
numbered_are P origin [] all = tt
numbered_are P origin (l ∷ logs) all =
    elim (l.origin == origin) as (λ b. (l.origin == origin) ≡ b →
    AllByRecursion P (cond b (with_entry l.action.number l (numbered origin logs)) (numbered origin logs))) [
      | true ↦ λ is. all_with P l.action.number l (numbered origin logs) (all.0 (eqb-true l.origin origin is))
          (numbered_are P origin logs all.1)
      | false ↦ λ is. numbered_are P origin logs all.1
    ] refl

each_is : (P : Logged → Type 0) → ((l : Logged) → P l) → (logs : List Logged) → AllByRecursion P logs
each_is P is [] = tt
each_is P is (l ∷ logs) = (is l, each_is P is logs)

numbered_rise : (origin : ℕ) (logs : List Logged) → Rising (ids (numbered origin logs))
numbered_rise origin [] = tt
numbered_rise origin (l ∷ logs) =
    elim (l.origin == origin) as (λ b. Rising (ids (cond b (with_entry l.action.number l (numbered origin logs))
    (numbered origin logs)))) [
      | true ↦ rising_with l.action.number l (numbered origin logs) (numbered_rise origin logs)
      | false ↦ numbered_rise origin logs
    ]

ids_in : (es : Map Logged) → ids (rows_in es) ≡ ids es
ids_in [] = refl
ids_in (e ∷ es) = ap (λ ns. e.0 ∷ ns) (ids_in es)

small_in : (es : Map Logged) → AllByRecursion (λ e. e.0 < 2 ^ 63) es → AllAre (λ r. r.0 < 2 ^ 63) (rows_in es)
small_in [] all = tt
small_in (e ∷ es) all = (all.0, small_in es all.1)

rows_are : (es : Map Logged) → AllByRecursion (λ e. e.0 ≡ e.1.action.number) es →
    rows_in es ≡ map row_of (map (λ e. e.1) es)
rows_are [] all = refl
rows_are (e ∷ es) all = λ i. (all.0 i, row_at e.1) ∷ rows_are es all.1 i

written_small : (origin : ℕ) (logs : List Logged) → AreWritten logs →
    AllByRecursion (λ l. l.origin ≡ origin → l.action.number < 2 ^ 63) logs
written_small origin [] written = tt
written_small origin (l ∷ logs) written = (λ is. written.0.number, written_small origin logs written.1)

-- the rows of an origin, in their order
abbrev pub logs_from : ℕ → List Logged → List Logged
logs_from origin logs = map (λ e. e.1) (numbered origin logs)

passed_rows : (p : LogRow → Bool) (logs : List Logged) →
    passed p (map row_of logs) ≡ map row_of (filter (λ l. p (row_at l)) logs)
passed_rows p [] = refl
passed_rows p (l ∷ logs) =
    elim (p (row_at l)) as (λ b. cond b (row_of l ∷ passed p (map row_of logs)) (passed p (map row_of logs))
    ≡ map row_of (cond b (l ∷ filter (λ l. p (row_at l)) logs) (filter (λ l. p (row_at l)) logs))) [
      | true ↦ ap (λ rs. row_of l ∷ rs) (passed_rows p logs)
      | false ↦ passed_rows p logs
    ]

pub found_are : {p : LogRow → Bool} {origin : ℕ} (logs : List Logged) {rows : List (ℕ × LogRow)} → AreWritten logs →
    ArePassed p origin (items_of logs) rows → rows ≡ map row_of (filter (λ l. p (row_at l)) (logs_from origin logs))
found_are {p} {origin} logs {rows} written a =
    rows_same rows (passed p all) (record { rising = a.rising; small = a.small })
    (record { rising = rise_passed p all rising; small = small_passed p all (small_in es small) })
    (λ n small. a.rows_are n small
    ∙ ap (if_passes p) (logged_is origin n logs ∙ sym (entry_in n es)) ∙ sym (entry_passed p n all rising))
    ∙ ap (passed p) (rows_are es numbers) ∙ passed_rows p (logs_from origin logs)
  where
    es : Map Logged
    es = numbered origin logs

    all : Numbered
    all = rows_in es

    rising : Rising (ids all)
    rising = subst Rising (sym (ids_in es)) (numbered_rise origin logs)

    small : AllByRecursion (λ e. e.0 < 2 ^ 63) es
    small = numbered_are (λ e. e.0 < 2 ^ 63) origin logs (written_small origin logs written)

    numbers : AllByRecursion (λ e. e.0 ≡ e.1.action.number) es
    numbers =
        numbered_are (λ e. e.0 ≡ e.1.action.number) origin logs
        (each_is (λ l. l.origin ≡ origin → l.action.number ≡ l.action.number) (λ l is. refl) logs)

-- ---- the tables

-- those that pass one test and then another
filtered_twice : (f g h : Logged → Bool) → ((l : Logged) → (f l && g l) ≡ h l) → (logs : List Logged) →
    filter f (filter g logs) ≡ filter h logs
filtered_twice f g h both [] = refl
filtered_twice f g h both (l ∷ logs) = by (g l) refl (f l) refl (filtered_twice f g h both logs)
  where
    more : List Logged
    more = filter g logs

    passes : (b : Bool) → h l ≡ b → filter f more ≡ filter h logs →
        cond b (l ∷ filter f more) (filter f more) ≡ cond (h l) (l ∷ filter h logs) (filter h logs)
    passes true is rest = ap (λ ls. l ∷ ls) rest ∙ sym (ap (λ c. cond c (l ∷ filter h logs) (filter h logs)) is)
    passes false is rest = rest ∙ sym (ap (λ c. cond c (l ∷ filter h logs) (filter h logs)) is)

    by : (b : Bool) → g l ≡ b → (a : Bool) → f l ≡ a → filter f more ≡ filter h logs →
        filter f (cond b (l ∷ more) more) ≡ cond (h l) (l ∷ filter h logs) (filter h logs)
    by true is true also rest =
        ap (λ c. cond c (l ∷ filter f more) (filter f more)) also
        ∙ passes true (sym (both l) ∙ ap (λ a. a && g l) also ∙ is) rest
    by true is false not rest =
        ap (λ c. cond c (l ∷ filter f more) (filter f more)) not
        ∙ passes false (sym (both l) ∙ ap (λ a. a && g l) not) rest
    by false is true also rest = passes false (sym (both l) ∙ ap (λ a. a && g l) also ∙ is) rest
    by false is false not rest = passes false (sym (both l) ∙ ap (λ a. a && g l) not) rest

-- a table of such an id is among them
on_one_listed : (tables : Map (List ℕ)) (l : Logged) → is_on_one tables l ≡ true →
    member l.table_id (ids tables) ≡ true
on_one_listed [] l is = is
on_one_listed (t ∷ more) l is =
    ap (λ b. b || member l.table_id (ids more)) (nat_eq_equiv.symm l.table_id t.0)
    ∙ by (t.0 == l.table_id) (bytes_eq l.action.table t.1) (on_one_listed more l) is
  where
    by : (id same : Bool) → (is_on_one more l ≡ true → member l.table_id (ids more) ≡ true) →
        ((id && same) || is_on_one more l) ≡ true → (id || member l.table_id (ids more)) ≡ true
    by true same later is = refl
    by false same later is = later is

delta_is : (origin : ℕ) (tables : Map (List ℕ)) (old new : Snapshot) (logs : List Logged) →
    filter (is_on_one tables) (filter (λ l. is_between (ids tables) old new (row_at l)) (logs_from origin logs))
    ≡ delta origin tables old new logs
delta_is origin tables old new logs =
    filtered_twice (is_on_one tables) (λ l. is_between (ids tables) old new (row_at l))
    (λ l. is_on_one tables l && is_new old new l) (λ l. by l (is_on_one tables l) refl) (logs_from origin logs)
  where
    by : (l : Logged) (b : Bool) → is_on_one tables l ≡ b →
        (b && is_between (ids tables) old new (row_at l)) ≡ (b && is_new old new l)
    by l true is =
        ap (λ c. (c && sees new l.action.xid) && not (sees old l.action.xid)) (on_one_listed tables l is)
    by l false is = refl

delta_from : (origin : ℕ) (tables : Map (List ℕ)) (old new : Snapshot) (logs : List Logged) →
    AllByRecursion (λ l. l.origin ≡ origin) (delta origin tables old new logs)
delta_from origin tables old new logs =
    all_filtered (λ l. l.origin ≡ origin) (λ l. is_on_one tables l && is_new old new l) (logs_from origin logs)
    (all_mapped (λ (e : ℕ × Logged). e.1.origin ≡ origin) (λ l. l.origin ≡ origin) (λ e. e.1) (λ e has. has)
    (numbered origin logs)
    (numbered_are (λ e. e.1.origin ≡ origin) origin logs
    (each_is (λ l. l.origin ≡ origin → l.origin ≡ origin) (λ l is. is) logs)))

-- What is found of those that were found between the snapshots.
pub delta_found : (origin : ℕ) (tables : Map (List ℕ)) (old new : Snapshot) (logs : List Logged) (found : LoggedRows) →
    AreWritten logs → read.ArePassed (is_on_one tables)
    (filter (λ l. is_between (ids tables) old new (row_at l)) (logs_from origin logs)) found →
    HasLogged origin (delta origin tables old new logs) found.rows found.actions
delta_found origin tables old new logs found written a = record {
  rows_are = a.rows_are ∙ ap (map row_of) (delta_is origin tables old new logs);
  actions_are = a.actions_are ∙ ap (map (λ l. action_as l.action)) (delta_is origin tables old new logs);
  from = delta_from origin tables old new logs;
  written = delta_has (λ l. IsWritten l.action) (λ l. IsWritten l.action) tables (λ l has on. has) origin old new logs
      written;
}

pub between_written : (origin : ℕ) (test : Logged → Bool) (logs : List Logged) → AreWritten logs →
    AreWritten (filter test (logs_from origin logs))
between_written origin test logs written =
    all_filtered (λ l. IsWritten l.action) test (logs_from origin logs)
    (all_mapped (λ (e : ℕ × Logged). IsWritten e.1.action) (λ l. IsWritten l.action) (λ e. e.1) (λ e has. has)
    (numbered origin logs) (numbered_are (λ e. IsWritten e.1.action) origin logs (by logs written)))
  where
    by : (ls : List Logged) → AreWritten ls →
        AllByRecursion (λ l. l.origin ≡ origin → IsWritten l.action) ls
    by [] all = tt
    by (l ∷ ls) all = (λ is. all.0, by ls all.1)

-- ---- rows that are found

pub can_log_rows : (rows : List (ℕ × LogRow)) → AllAre (λ r. r.0 < 2 ^ 63) rows → AllAre (λ r. CanLogRow r.1) rows →
    AllByRecursion CanBeLogged rows
can_log_rows [] small can = tt
can_log_rows (r ∷ rs) small can = ((small.0, can.0), can_log_rows rs small.1 can.1)

-- what a database holds of the log of its node, or of none
pub holds_logs : (own : Option Node) (m : Store) → HoldsNode own m → HoldsLog (items_of (logs_in own)) m
holds_logs None m none = moved (sym (none 15 refl)) (empty_space (λ i. refl))
holds_logs (Some n) m held = held.log
