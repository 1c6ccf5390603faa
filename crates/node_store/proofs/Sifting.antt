-- Rows of a log that are looked through for those that are on tables, with their actions.
use Rattle.std.proofs.Common.{◌≡◌, ◌∙◌, ℕ, ◌≤◌, Bool, true, false, cond, List, [], ◌∷◌, ◌++◌, refl}
use Rattle.std.proofs.Common.{sym, ap, subst, arith, map, filter, append_assoc, length, length-append}
use Rattle.std.specs.Prelude.{◌==◌, ◌&&◌}
use Rattle.std.specs.List.{AllByRecursion, list_any}
use Rattle.std.specs.Str.{bytes_eq}
use Rattle.std.proofs.lemmas.List.{append-nil}
use Rattle.slon_base.specs.Codec.{IsText}
use Rattle.store_rows.specs.Steps.{IsOutside}
use Rattle.store_rows.specs.declared.stop.Stop.{Stop}
use Rattle.store_rows.specs.declared.stop.Stop.TheVariants.{NoMemory}
use Rattle.slon_model.specs.Maps.{Map}
use Rattle.slon_model.specs.Rows.{Change, Put, Set, Remove}
use Rattle.slon_model.specs.Spoken.{IsChange, greatest_column}
use Rattle.slon_model.specs.Deeds.{Logged}
use Rattle.slon_model.specs.Following.{is_on_one}
use Rattle.slon_model.proofs.Spoken.{table_name_text}
use Rattle.slon_laws.specs.Spelled.{AreWritten, IsWritten}
use Rattle.slon_laws.proofs.Lists.{all_appended}
use Rattle.change_capture.specs.declared.action.Action.{Action}
use Rattle.change_capture.specs.declared.log_row.LogRow.{LogRow}
use Rattle.change_capture.specs.Actions.{change_of}
use Rattle.change_capture.specs.Reading.{AreColumns, HasColumns, IsLogOf}
use Rattle.log_switch.specs.Between.{CanBeLogged}
use Rattle.change_apply.specs.Applied.{CanApply}
use Rattle.change_apply.proofs.Logged.{logged_words}
use Rattle.node_state.specs.Held.{action_as, change_as}
use Rattle.node_change.specs.Done.{row_of}
use Rattle.node_store.specs.declared.logged.LoggedRows.{LoggedRows}
use Rattle.node_store.specs.Bringing.{CanLogAll}
use Rattle.node_store.specs.Logged.{AreAllPassed, ArePassed, IsAdded}

-- ---- one row

few_columns : (columns : List (ℕ × List ℕ)) → AllByRecursion (λ c. c.0 ≤ greatest_column) columns → AreColumns columns
few_columns [] few = tt
few_columns (c ∷ cs) few = (omega (arith, few.0), few_columns cs few.1)

columns_few : (change : Change) → IsChange change → HasColumns (change_as change)
columns_few (Put key row) formed = tt
columns_few (Set key columns) formed = few_columns columns formed.2.1
columns_few (Remove key) formed = tt

-- the row of what is logged is that of its action
pub is_log_of : (l : Logged) {number : ℕ} {row : LogRow} → IsWritten l.action → (number, row) ≡ row_of l →
    IsLogOf number row (action_as l.action)
is_log_of l written is =
    subst (λ (r : ℕ × LogRow). IsLogOf r.0 r.1 (action_as l.action)) (sym is) (record {
      number = refl;
      can = record { table = written.named; columns = columns_few l.action.change written.formed };
      row = refl;
    })

-- A row with its action, which is what is logged as this.
pub record IsRowOf (l : Logged) (number : ℕ) (row : LogRow) (action : Action) : Type 0 where
  pub row_is : (number, row) ≡ row_of l
  pub action_is : action ≡ action_as l.action

same_test : (tables : Map (List ℕ)) (l : Logged) {number : ℕ} {row : LogRow} {action : Action} →
    IsRowOf l number row action →
    list_any (λ t. t.0 == row.table && bytes_eq action.table t.1) tables ≡ is_on_one tables l
same_test tables l {number} {row} {action} is = λ i.
    list_any (λ t. t.0 == LogRow.table (rows i) && bytes_eq (Action.table (is.action_is i)) t.1) tables
  where
    rows : row ≡ (row_of l).1
    rows = λ i. (is.row_is i).1

pub one_added : (tables : Map (List ℕ)) (l : Logged) {number : ℕ} {row : LogRow} {action : Action}
    {found new : LoggedRows} → IsRowOf l number row action →
    list_any (λ t. t.0 == row.table && bytes_eq action.table t.1) tables ≡ true →
    new.rows ≡ found.rows ++ (number, row) ∷ [] → new.actions ≡ found.actions ++ action ∷ [] →
    IsAdded (is_on_one tables) l found new
one_added tables l {found = found} is passes rows actions =
    let test = sym (sym (same_test tables l is) ∙ passes) in
    record {
      rows_are = rows ∙ ap (λ r. found.rows ++ r ∷ []) is.row_is
          ∙ ap (λ b. found.rows ++ map row_of (cond b (l ∷ []) [])) test;
      actions_are = actions ∙ ap (λ a. found.actions ++ a ∷ []) is.action_is
          ∙ ap (λ b. found.actions ++ map (λ k. action_as k.action) (cond b (l ∷ []) [])) test;
    }

pub none_added : (tables : Map (List ℕ)) (l : Logged) {number : ℕ} {row : LogRow} {action : Action}
    (found : LoggedRows) → IsRowOf l number row action →
    list_any (λ t. t.0 == row.table && bytes_eq action.table t.1) tables ≡ false →
    IsAdded (is_on_one tables) l found found
none_added tables l found is fails =
    let test = sym (sym (same_test tables l is) ∙ fails) in
    record {
      rows_are = sym (append-nil found.rows) ∙ ap (λ b. found.rows ++ map row_of (cond b (l ∷ []) [])) test;
      actions_are = sym (append-nil found.actions)
          ∙ ap (λ b. found.actions ++ map (λ k. action_as k.action) (cond b (l ∷ []) [])) test;
    }

-- with one more they can be spelled
pub can_added : {number : ℕ} {row : LogRow} (action : Action) {found new : LoggedRows} →
    CanBeLogged (number, row) → IsLogOf number row action → new.rows ≡ found.rows ++ (number, row) ∷ [] →
    new.actions ≡ found.actions ++ action ∷ [] → CanLogAll found.rows found.actions →
    CanLogAll new.rows new.actions
can_added {number} {row} action {found} can is rows actions all = record {
  same_number = omega (
    arith,
    ap (λ xs. length xs) actions,
    length-append found.actions (action ∷ []),
    all.same_number,
    length-append found.rows ((number, row) ∷ []),
    ap (λ rs. length rs) rows,
  );
  rows_can = subst (AllByRecursion CanBeLogged) (sym rows)
      (all_appended CanBeLogged found.rows ((number, row) ∷ []) all.rows_can (can, tt));
  actions_can = subst (AllByRecursion (λ a. IsText a.table × CanApply (change_of a.change))) (sym actions)
      (all_appended (λ a. IsText a.table × CanApply (change_of a.change)) found.actions (action ∷ []) all.actions_can
      ((table_name_text action.table is.can.table, logged_words action is can.1), tt));
}

-- ---- all rows

-- What was found among all of these, where these rows are left.
pub record IsSifted (test : Logged → Bool) (all : List Logged) (found : LoggedRows) (left : List (ℕ × LogRow)) : Type 0
  where
    pub rest : List Logged
    pub left_are : left ≡ map row_of rest
    pub written : AreWritten rest
    pub rows_are : found.rows ++ map row_of (filter test rest) ≡ map row_of (filter test all)
    pub actions_are : found.actions ++ map (λ l. action_as l.action) (filter test rest)
        ≡ map (λ l. action_as l.action) (filter test all)

pub none_sifted : (test : Logged → Bool) (all : List Logged) {rows : List (ℕ × LogRow)} (found : LoggedRows) →
    found.rows ≡ [] → found.actions ≡ [] → AreWritten all → rows ≡ map row_of all → IsSifted test all found rows
none_sifted test all found rows actions written are = record {
  rest = all;
  left_are = are;
  written = written;
  rows_are = ap (λ rs. rs ++ map row_of (filter test all)) rows;
  actions_are = ap (λ done. done ++ map (λ l. action_as l.action) (filter test all)) actions;
}

-- The first of the rows that are left, and the others.
record IsFirst (row : ℕ × LogRow) (left : List (ℕ × LogRow)) (rest : List Logged) : Type 0 where
  l : Logged
  more : List Logged
  splits : rest ≡ l ∷ more
  row_is : row ≡ row_of l
  left_are : left ≡ map row_of more

first_of : (row : ℕ × LogRow) (left : List (ℕ × LogRow)) (rest : List Logged) → row ∷ left ≡ map row_of rest →
    IsFirst row left rest
first_of row left [] is = absurd cc
first_of row left (l ∷ more) is =
    record { l = l; more = more; splits = refl; row_is = cc; left_are = cc }

split_first : {Y : Type 0} (f : Logged → Y) (test : Logged → Bool) (l : Logged) (more : List Logged) →
    map f (filter test (l ∷ [])) ++ map f (filter test more) ≡ map f (filter test (l ∷ more))
split_first f test l more =
    elim (test l) as (λ b. map f (cond b (l ∷ []) []) ++ map f (filter test more)
    ≡ map f (cond b (l ∷ filter test more) (filter test more))) [
      | true ↦ refl
      | false ↦ refl
    ]

moved_on : {Y : Type 0} {row : ℕ × LogRow} {left : List (ℕ × LogRow)} {rest : List Logged} (f : Logged → Y)
    (test : Logged → Bool) (first : IsFirst row left rest) (old new end : List Y) →
    new ≡ old ++ map f (filter test (first.l ∷ [])) → old ++ map f (filter test rest) ≡ end →
    new ++ map f (filter test first.more) ≡ end
moved_on f test first old new end is all =
    ap (λ ys. ys ++ map f (filter test first.more)) is
    ∙ append_assoc old (map f (filter test (first.l ∷ []))) (map f (filter test first.more))
    ∙ ap (λ ys. old ++ ys)
    (split_first f test first.l first.more ∙ ap (λ ls. map f (filter test ls)) (sym first.splits)) ∙ all

pub one_sifted : {test : Logged → Bool} {all : List Logged} {found : LoggedRows} {row : ℕ × LogRow}
    {left : List (ℕ × LogRow)} (new : LoggedRows) → IsSifted test all found (row ∷ left) →
    ((l : Logged) → IsWritten l.action → row ≡ row_of l → IsAdded test l found new) → IsSifted test all new left
one_sifted {test} {all} {found} {row} {left} new x on =
    let first = first_of row left x.rest x.left_are in
    let written = subst AreWritten first.splits x.written in
    let added = on first.l written.0 first.row_is in
    record {
      rest = first.more;
      left_are = first.left_are;
      written = written.1;
      rows_are = moved_on row_of test first found.rows new.rows (map row_of (filter test all)) added.rows_are
          x.rows_are;
      actions_are = moved_on (λ l. action_as l.action) test first found.actions new.actions
          (map (λ l. action_as l.action) (filter test all)) added.actions_are x.actions_are;
    }

-- what stops at the first of them
pub sifting_stops : {test : Logged → Bool} {all : List Logged} {found : LoggedRows} {row : ℕ × LogRow}
    {left : List (ℕ × LogRow)} {P : Type 0} → IsSifted test all found (row ∷ left) →
    ((l : Logged) → IsWritten l.action → row ≡ row_of l → P) → P
sifting_stops {row = row} {left} x on =
    let first = first_of row left x.rest x.left_are in
    on first.l (subst AreWritten first.splits x.written).0 first.row_is

pub all_sifted : {test : Logged → Bool} {all : List Logged} {found : LoggedRows} → IsSifted test all found [] →
    ArePassed test all found
all_sifted {test} {all} {found} x = by x.rest x.left_are x.rows_are x.actions_are
  where
    by : (rest : List Logged) → [] ≡ map row_of rest →
        found.rows ++ map row_of (filter test rest) ≡ map row_of (filter test all) →
        found.actions ++ map (λ l. action_as l.action) (filter test rest)
        ≡ map (λ l. action_as l.action) (filter test all) → ArePassed test all found
    by [] none rows actions = record {
      rows_are = sym (append-nil found.rows) ∙ rows;
      actions_are = sym (append-nil found.actions) ∙ actions;
    }
    by (l ∷ more) none rows actions = absurd cc

-- want of memory is no fault of a row
pub stop_outside : (stop : Stop) → stop ≡ NoMemory → IsOutside stop
stop_outside stop is = subst IsOutside (sym is) tt

-- none is found yet
pub none_can : {rows : List (ℕ × LogRow)} {actions : List Action} → rows ≡ [] → actions ≡ [] → CanLogAll rows actions
none_can rows actions = record {
  same_number = omega (arith, ap (λ xs. length xs) actions, ap (λ rs. length rs) rows);
  rows_can = subst (AllByRecursion CanBeLogged) (sym rows) tt;
  actions_can = subst (AllByRecursion (λ a. IsText a.table × CanApply (change_of a.change))) (sym actions) tt;
}

-- ---- rows that are all on the tables

-- All of these rows but the ones that are left are on one of these tables, and have these actions.
pub record AreDone (tables : Map (List ℕ)) (rows left : List (ℕ × LogRow)) (actions : List Action) : Type 0 where
  pub done : List (ℕ × LogRow)
  pub splits : done ++ left ≡ rows
  pub can : CanLogAll done actions
  pub left_can : AllByRecursion CanBeLogged left
  pub says : (logs : List Logged) → AreWritten logs → rows ≡ map row_of logs →
      IsSifted (is_on_one tables) logs (record { rows = done; actions = actions }) left

pub none_done : (tables : Map (List ℕ)) {rows : List (ℕ × LogRow)} {actions : List Action} →
    AllByRecursion CanBeLogged rows → actions ≡ [] → AreDone tables rows rows actions
none_done tables {rows} {actions} can none = record {
  done = [];
  splits = refl;
  can = none_can refl none;
  left_can = can;
  says = λ logs written are.
      none_sifted (is_on_one tables) logs (record { rows = []; actions = actions }) refl none written are;
}

pub one_done : {tables : Map (List ℕ)} {rows left : List (ℕ × LogRow)} {row : ℕ × LogRow} {action : Action}
    {actions new : List Action} → AreDone tables rows (row ∷ left) actions → IsLogOf row.0 row.1 action →
    list_any (λ t. t.0 == row.1.table && bytes_eq action.table t.1) tables ≡ true → new ≡ actions ++ action ∷ [] →
    ((l : Logged) → IsWritten l.action → row ≡ row_of l → action ≡ action_as l.action) → AreDone tables rows left new
one_done {tables} {row = row} {action} {new = new} x is passes added on =
    let rows = x.done ++ row ∷ [] in
    record {
      done = rows;
      splits = append_assoc x.done (row ∷ []) _ ∙ x.splits;
      can = can_added action x.left_can.0 is refl added x.can;
      left_can = x.left_can.1;
      says = λ logs written are. one_sifted (record { rows = rows; actions = new }) (x.says logs written are)
          (λ l written is.
          one_added tables l (record { row_is = is; action_is = on l written is }) passes refl added);
    }

pub all_done : {tables : Map (List ℕ)} {rows : List (ℕ × LogRow)} {actions : List Action} →
    AreDone tables rows [] actions → CanLogAll rows actions × ((logs : List Logged) → AreWritten logs →
    rows ≡ map row_of logs → AreAllPassed (is_on_one tables) logs rows actions)
all_done {tables} {rows} {actions} x =
    let whole = sym (append-nil x.done) ∙ x.splits in (
      subst (λ rs. CanLogAll rs actions) whole x.can,
      λ logs written are.
          subst (λ rs. AreAllPassed (is_on_one tables) logs rs actions) whole (all_sifted (x.says logs written are)),
    )
