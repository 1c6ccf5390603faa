-- Sets that are read together: what was logged on the tables of all of them has what was logged on those of each.
use Rattle.std.proofs.Common.{◌≡◌, ◌∙◌, ℕ, Bool, true, false, cond, List, [], ◌∷◌, ◌++◌, refl, sym, ap, subst, map}
use Rattle.std.proofs.Common.{filter, append_assoc, Result, Ok, Err, rules, arith, length, length-append}
use Rattle.std.specs.Prelude.{◌&&◌, ◌||◌, ◌==◌, OnOk}
use Rattle.std.specs.List.{AllByRecursion}
use Rattle.std.specs.Str.{bytes_eq}
use Rattle.std.proofs.lemmas.List.{append-nil}
use Rattle.std.proofs.lemmas.List.Folds.{list_any-append}
use Rattle.slon_model.specs.Maps.{Map}
use Rattle.slon_model.specs.Events.{Event}
use Rattle.slon_model.specs.Snapshots.{Snapshot}
use Rattle.slon_model.specs.Deeds.{Logged}
use Rattle.slon_model.specs.Following.{SetSync, delta, is_new, is_on_one, numbered}
use Rattle.slon_base.specs.Codec.{IsText}
use Rattle.slon_laws.specs.Spelled.{IsWritten}
use Rattle.slon_laws.proofs.Lists.{all_appended, all_filtered}
use Rattle.change_capture.specs.declared.action.Action.{Action}
use Rattle.change_capture.specs.declared.log_row.LogRow.{LogRow}
use Rattle.change_capture.specs.Actions.{change_of}
use Rattle.log_switch.specs.Between.{CanBeLogged}
use Rattle.change_apply.specs.Applied.{CanApply}
use Rattle.node_state.specs.Held.{action_as}
use Rattle.node_change.specs.Done.{row_of}
use Rattle.node_store.specs.declared.logged.LoggedRows.{LoggedRows}
use Rattle.node_store.specs.Bringing.{CanLogAll, HasLogged}
use Rattle.node_store.specs.Logged.{IsAdded}
use Rattle.remote_worker.specs.declared.keeping.KeptSet.{KeptSet}
use Rattle.remote_worker.specs.declared.loading.SetFetch.{SetFetch}
use Rattle.remote_worker.specs.declared.running.Run.{Run}
use Rattle.remote_worker.specs.Keeping.{Kept, seen_kept, taken_of}
use Rattle.remote_worker.specs.Loading.{HasFetch, HaveFetches}
use Rattle.remote_worker.specs.Running.{CanLogFound, CanRun, IsBeside, seen_run, sets_in, tables_in}
use Rattle.remote_worker.specs.Running.{taken_among, taken_run, taken_with}

-- ---- the tables of one set among those of all

-- what is on one of these tables is on one of the others
abbrev pub IsWithin : Map (List ℕ) → Map (List ℕ) → Type 0
IsWithin tables all = (l : Logged) → is_on_one tables l ≡ true → is_on_one all l ≡ true

or_first : (a b : Bool) → a ≡ true → (a || b) ≡ true
or_first true b is = refl
or_first false b is = absurd cc

or_second : (a b : Bool) → b ≡ true → (a || b) ≡ true
or_second true b is = refl
or_second false b is = is

on_either : (l : Logged) (one two : Map (List ℕ)) → is_on_one (one ++ two) l ≡ (is_on_one one l || is_on_one two l)
on_either l one two = list_any-append (λ t. t.0 == l.table_id && bytes_eq l.action.table t.1) one two

wider : (one : Map (List ℕ)) (all : Map (List ℕ)) (sets : List KeptSet) →
    AllByRecursion (λ k. IsWithin k.tables all) sets → AllByRecursion (λ k. IsWithin k.tables (one ++ all)) sets
wider one all [] within = tt
wider one all (k ∷ ks) within = (
  λ l on. on_either l one all ∙ or_second (is_on_one one l) (is_on_one all l) (within.0 l on),
  wider one all ks within.1,
)

all_within : (sets : List KeptSet) → AllByRecursion (λ k. IsWithin k.tables (tables_in sets)) sets
all_within [] = tt
all_within (k ∷ ks) = (
  λ l on. on_either l k.tables (tables_in ks) ∙ or_first (is_on_one k.tables l) (is_on_one (tables_in ks) l) on,
  wider k.tables (tables_in ks) ks (all_within ks),
)

-- ---- what was logged on them

-- two filters in turn are one by the narrower test
filtered_twice : (tables all : Map (List ℕ)) (new : Logged → Bool) → IsWithin tables all → (logs : List Logged) →
    filter (is_on_one tables) (filter (λ l. is_on_one all l && new l) logs)
    ≡ filter (λ l. is_on_one tables l && new l) logs
filtered_twice tables all new within [] = refl
filtered_twice tables all new within (l ∷ logs) =
    by (is_on_one tables l) refl (is_on_one all l) refl (new l) refl (filtered_twice tables all new within logs)
  where
    by : (a : Bool) → is_on_one tables l ≡ a → (b : Bool) → is_on_one all l ≡ b → (c : Bool) → new l ≡ c →
        filter (is_on_one tables) (filter (λ l. is_on_one all l && new l) logs)
        ≡ filter (λ l. is_on_one tables l && new l) logs →
        filter (is_on_one tables) (filter (λ l. is_on_one all l && new l) (l ∷ logs))
        ≡ filter (λ l. is_on_one tables l && new l) (l ∷ logs)
    by true a false b c is rest = let bad : true ≡ false = sym (within l a) ∙ b in absurd cc
    by true a true b true is rest = search (rules, a, b, is, rest)
    by true a true b false is rest = search (rules, a, b, is, rest)
    by false a true b true is rest = search (rules, a, b, is, rest)
    by false a true b false is rest = search (rules, a, b, is, rest)
    by false a false b c is rest = search (rules, a, b, is, rest)

delta_within : (origin : ℕ) (tables all : Map (List ℕ)) (old new : Snapshot) (logs : List Logged) →
    IsWithin tables all →
    filter (is_on_one tables) (delta origin all old new logs) ≡ delta origin tables old new logs
delta_within origin tables all old new logs within =
    filtered_twice tables all (is_new old new) within (map (λ e. e.1) (numbered origin logs))

-- ---- what is taken of them

-- what was logged of the sets of a run, in one reading
abbrev pub delta_run : Event → Run → List Logged → List Logged
delta_run e r logs = delta e.origin (tables_in (sets_in r)) (seen_kept r.first).before.seen e.taken logs

-- what is taken of one of them is what it is taken where it is read by itself
taken_one : (e : Event) (k : Kept) (all : Map (List ℕ)) (old : Snapshot) (logs : List Logged) →
    IsWithin k.tables all → k.before.seen ≡ old →
    taken_among (delta e.origin all old e.taken logs) k ≡ taken_of e logs k
taken_one e k all old logs within seen =
    ap (λ s. taken_among (delta e.origin all s e.taken logs) k) (sym seen)
    ∙ ap (λ rows. taken_with rows k) (delta_within e.origin k.tables all k.before.seen e.taken logs within)

taken_more : (e : Event) (all : Map (List ℕ)) (first : Kept) (logs : List Logged) (ks : List KeptSet) →
    AllByRecursion (λ k. IsWithin k.tables all) ks → AllByRecursion (λ k. IsBeside first (seen_kept k)) ks →
    map (taken_among (delta e.origin all first.before.seen e.taken logs)) (map seen_kept ks)
    ≡ taken_run e logs (map seen_kept ks)
taken_more e all first logs [] within beside = refl
taken_more e all first logs (k ∷ ks) within beside = λ i.
    taken_one e (seen_kept k) all first.before.seen logs within.0 beside.0.seen i
    ∷ taken_more e all first logs ks within.1 beside.1 i

pub all_taken : (e : Event) (r : Run) (logs : List Logged) → CanRun r →
    map (taken_among (delta_run e r logs)) (seen_run r) ≡ taken_run e logs (seen_run r)
all_taken e r logs can =
    taken_more e (tables_in (sets_in r)) (seen_kept r.first) logs (sets_in r) (all_within (sets_in r))
    (record { provider = refl; seen = refl }, can.beside)

-- ---- the copies of rows

-- what two facts give of a call that did its work
pub both_done : {T E P Q R : Type 0} (result : Result T E) → (P → Q → R) → OnOk result P → OnOk result Q → OnOk result R
both_done (Ok x) gives one two = gives one two
both_done (Err fault) gives one two = tt

-- What was copied of these, where these are left.
pub record IsParted (test : Logged → Bool) (all : List Logged) (part left : LoggedRows) : Type 0 where
  pub rest : List Logged
  pub rows_left : left.rows ≡ map row_of rest
  pub actions_left : left.actions ≡ map (λ l. action_as l.action) rest
  pub rows_are : part.rows ++ map row_of (filter test rest) ≡ map row_of (filter test all)
  pub actions_are : part.actions ++ map (λ l. action_as l.action) (filter test rest)
      ≡ map (λ l. action_as l.action) (filter test all)

split_first : {Y : Type 0} (f : Logged → Y) (test : Logged → Bool) (l : Logged) (more : List Logged) →
    map f (filter test (l ∷ [])) ++ map f (filter test more) ≡ map f (filter test (l ∷ more))
split_first f test l more =
    elim (test l) as (λ b. map f (cond b (l ∷ []) []) ++ map f (filter test more)
    ≡ map f (cond b (l ∷ filter test more) (filter test more))) [
      | true ↦ refl
      | false ↦ refl
    ]

moved_on : {Y : Type 0} (f : Logged → Y) (test : Logged → Bool) (l : Logged) (more : List Logged)
    (old new end : List Y) →
    (new ≡ old ++ map f (filter test (l ∷ []))) × (old ++ map f (filter test (l ∷ more)) ≡ end) →
    new ++ map f (filter test more) ≡ end
moved_on f test l more old new end (is, all) =
    ap (λ ys. ys ++ map f (filter test more)) is
    ∙ append_assoc old (map f (filter test (l ∷ []))) (map f (filter test more))
    ∙ ap (λ ys. old ++ ys) (split_first f test l more) ∙ all

-- one more was looked at
pub one_parted : {test : Logged → Bool} {all : List Logged} {part : LoggedRows} {row : ℕ × LogRow} {action : Action}
    {rows : List (ℕ × LogRow)} {actions : List Action} (new : LoggedRows) →
    IsParted test all part (record { rows = row ∷ rows; actions = action ∷ actions }) →
    ((l : Logged) → row ≡ row_of l → action ≡ action_as l.action → IsAdded test l part new) →
    IsParted test all new (record { rows = rows; actions = actions })
one_parted {test} {all} {part} {row} {action} {rows} {actions} new x on =
    by x.rest x.rows_left x.actions_left x.rows_are x.actions_are
  where
    by : (rest : List Logged) → row ∷ rows ≡ map row_of rest → action ∷ actions ≡ map (λ l. action_as l.action) rest →
        part.rows ++ map row_of (filter test rest) ≡ map row_of (filter test all) →
        part.actions ++ map (λ l. action_as l.action) (filter test rest)
        ≡ map (λ l. action_as l.action) (filter test all) →
        IsParted test all new (record { rows = rows; actions = actions })
    by [] left actions_left rows_are actions_are = absurd cc
    by (l ∷ more) left actions_left rows_are actions_are =
        let row_is : row ≡ row_of l = cc in
        let action_is : action ≡ action_as l.action = cc in
        let added = on l row_is action_is in
        record {
          rest = more;
          rows_left = cc;
          actions_left = cc;
          rows_are = moved_on row_of test l more part.rows new.rows (map row_of (filter test all))
              (added.rows_are, rows_are);
          actions_are = moved_on (λ l. action_as l.action) test l more part.actions new.actions
              (map (λ l. action_as l.action) (filter test all)) (added.actions_are, actions_are);
        }

-- all were looked at
pub all_parted : {origin : ℕ} {test : Logged → Bool} {all : List Logged} {found part : LoggedRows} →
    HasLogged origin all found.rows found.actions →
    IsParted test all part (record { rows = []; actions = [] }) →
    HasLogged origin (filter test all) part.rows part.actions
all_parted {origin} {test} {all} {part = part} has x = by x.rest x.rows_left x.rows_are x.actions_are
  where
    by : (rest : List Logged) → [] ≡ map row_of rest →
        part.rows ++ map row_of (filter test rest) ≡ map row_of (filter test all) →
        part.actions ++ map (λ l. action_as l.action) (filter test rest)
        ≡ map (λ l. action_as l.action) (filter test all) →
        HasLogged origin (filter test all) part.rows part.actions
    by [] none rows actions = record {
      rows_are = sym (append-nil part.rows) ∙ rows;
      actions_are = sym (append-nil part.actions) ∙ actions;
      from = all_filtered (λ l. l.origin ≡ origin) test all has.from;
      written = all_filtered (λ l. IsWritten l.action) test all has.written;
    }
    by (l ∷ more) none rows actions = absurd cc

-- with one more they can be spelled
pub can_copied : (row : ℕ × LogRow) (action : Action) {part new : LoggedRows} →
    CanBeLogged row × IsText action.table × CanApply (change_of action.change) →
    new.rows ≡ part.rows ++ row ∷ [] → new.actions ≡ part.actions ++ action ∷ [] → CanLogFound part → CanLogFound new
can_copied row action {part} can rows actions all = record {
  same_number = omega (
    arith,
    ap (λ xs. length xs) actions,
    length-append part.actions (action ∷ []),
    all.same_number,
    length-append part.rows (row ∷ []),
    ap (λ rs. length rs) rows,
  );
  rows_can = subst (AllByRecursion CanBeLogged) (sym rows)
      (all_appended CanBeLogged part.rows (row ∷ []) all.rows_can (can.0, tt));
  actions_can = subst (AllByRecursion (λ a. IsText a.table × CanApply (change_of a.change))) (sym actions)
      (all_appended (λ a. IsText a.table × CanApply (change_of a.change)) part.actions (action ∷ []) all.actions_can
      ((can.1, can.2), tt));
}

-- the first of those that are left, and the others
pub can_left : (row : ℕ × LogRow) (action : Action) {rows : List (ℕ × LogRow)} {actions : List Action} →
    CanLogAll (row ∷ rows) (action ∷ actions) →
    (CanBeLogged row × IsText action.table × CanApply (change_of action.change)) × CanLogAll rows actions
can_left row action all = (
  (all.rows_can.0, all.actions_can.0.0, all.actions_can.0.1),
  record {
    same_number = let same = all.same_number in omega (arith, same);
    rows_can = all.rows_can.1;
    actions_can = all.actions_can.1;
  },
)

-- ---- the sets one after the other

pub have_appended : (origin : ℕ) (ts more : List SetSync) (fs others : List SetFetch) → HaveFetches origin ts fs →
    HaveFetches origin more others → HaveFetches origin (ts ++ more) (fs ++ others)
have_appended origin [] more [] others have has = has
have_appended origin [] more (f ∷ fs) others have has = absurd have
have_appended origin (t ∷ ts) more [] others have has = absurd have
have_appended origin (t ∷ ts) more (f ∷ fs) others have has =
    (have.0, have_appended origin ts more fs others have.1 has)

-- What was made of those before makes with those that are left what is taken of all.
pub record LeavesParts (origin : ℕ) (logs : List Logged) (all left : List KeptSet) (made : List SetFetch) : Type 0 where
  pub syncs : List SetSync
  pub have : HaveFetches origin syncs made
  pub are : syncs ++ map (taken_among logs) (map seen_kept left) ≡ map (taken_among logs) (map seen_kept all)

pub next_part : {origin : ℕ} {logs : List Logged} {all left : List KeptSet} {made : List SetFetch} (k : KeptSet)
    (fetch : SetFetch) → LeavesParts origin logs all (k ∷ left) made →
    HasFetch origin (taken_among logs (seen_kept k)) fetch → LeavesParts origin logs all left (made ++ fetch ∷ [])
next_part {origin} {logs} {all} {left} {made} k fetch x has = record {
  syncs = x.syncs ++ taken_among logs (seen_kept k) ∷ [];
  have = have_appended origin x.syncs (taken_among logs (seen_kept k) ∷ []) made (fetch ∷ []) x.have (has, tt);
  are = append_assoc x.syncs (taken_among logs (seen_kept k) ∷ []) (map (taken_among logs) (map seen_kept left))
      ∙ x.are;
}

pub last_part : {origin : ℕ} {logs : List Logged} {all : List KeptSet} {made : List SetFetch} →
    LeavesParts origin logs all [] made → HaveFetches origin (map (taken_among logs) (map seen_kept all)) made
last_part {origin} {made = made} x =
    subst (λ ts. HaveFetches origin ts made) (sym (append-nil x.syncs) ∙ x.are) x.have
