-- What a node takes with a SYNC: what all that is logged has, and the tables to which it takes rows.
use Rattle.std.proofs.Common.{◌≡◌, ℕ, Bool, true, false, cond, List, [], ◌∷◌, ◌++◌, map, refl, ap, ◌∙◌}
use Rattle.std.specs.Prelude.{◌==◌, ◌&&◌, ◌||◌}
use Rattle.std.specs.List.{AllByRecursion}
use Rattle.std.specs.Str.{bytes_eq}
use Rattle.std.proofs.lemmas.Bool.{and_parts, eqb-true, or_right}
use Rattle.std.proofs.lemmas.List.Folds.{list_any-append}
use Rattle.slon_model.specs.Names.{Named}
use Rattle.slon_model.specs.Maps.{Map, with_entry}
use Rattle.slon_model.specs.Rows.{Rows, apply}
use Rattle.slon_model.specs.Snapshots.{Snapshot}
use Rattle.slon_model.specs.Events.{Event}
use Rattle.slon_model.specs.Views.{View}
use Rattle.slon_model.specs.Deeds.{Brought, Knowledge, Logged, nothing_brought}
use Rattle.slon_model.specs.Logs.{named}
use Rattle.slon_model.specs.Place.{Place}
use Rattle.slon_model.specs.Following.{SetSync, content, delta, is_new, is_on_one, numbered, onto, set_sync, FoundSyncs}
use Rattle.slon_model.specs.Following.{tables_in, tables_taken, with_actions, with_sync, with_syncs}
use Rattle.slon_model.proofs.Names.{all_map}
use Rattle.slon_laws.specs.Fetches.{AreOn}
use Rattle.slon_laws.proofs.Lists.{all_each, all_filtered, all_mapped, all_passed, all_with}

-- ---- what is read of a log

numbered_have : (P : Logged → Type 0) (origin : ℕ) (logs : List Logged) → AllByRecursion P logs →
    AllByRecursion (λ e. P e.1) (numbered origin logs)
numbered_have P origin [] all = tt
numbered_have P origin (l ∷ logs) all =
    elim (l.origin == origin)
    as (λ b. AllByRecursion (λ e. P e.1) (cond b (with_entry l.action.number l (numbered origin logs))
    (numbered origin logs))) [
      | true ↦ all_with (λ e. P e.1) l.action.number l (numbered origin logs) all.0
          (numbered_have P origin logs all.1)
      | false ↦ numbered_have P origin logs all.1
    ]

-- Where P holds of all that is logged, Q holds of what is read of it on these tables.
abbrev pub ReadsOf : (Logged → Type 0) → (Logged → Type 0) → Map (List ℕ) → Type 0
ReadsOf P Q tables =
    (origin : ℕ) (old new : Snapshot) (logs : List Logged) → AllByRecursion P logs →
    AllByRecursion Q (delta origin tables old new logs)

-- What all that is logged has, and each action on one of these tables: Q of what is read of the log.
pub delta_has : (P Q : Logged → Type 0) (tables : Map (List ℕ)) →
    ((l : Logged) → P l → is_on_one tables l ≡ true → Q l) → ReadsOf P Q tables
delta_has P Q tables each origin old new logs all =
    all_passed P Q (λ l. is_on_one tables l && is_new old new l)
    (λ l has passes. each l has (and_parts (is_on_one tables l) (is_new old new l) passes).0)
    (map (λ e. e.1) (numbered origin logs))
    (all_mapped (λ (e : ℕ × Logged). P e.1) P (λ e. e.1) (λ e has. has) (numbered origin logs)
    (numbered_have P origin logs all))

-- an action on one of several tables is on a table of such a name
on_named : (tables : Map (List ℕ)) (l : Logged) → is_on_one tables l ≡ true →
    named l.action.table (map (λ t. t.1) tables) ≡ true
on_named [] l is = is
on_named (t ∷ more) l is = by (t.0 == l.table_id) (bytes_eq l.action.table t.1) (on_named more l) is
  where
    by : (id same : Bool) → (is_on_one more l ≡ true → named l.action.table (map (λ t. t.1) more) ≡ true) →
        ((id && same) || is_on_one more l) ≡ true → (same || named l.action.table (map (λ t. t.1) more)) ≡ true
    by id true later is = refl
    by true false later is = later is
    by false false later is = later is

-- ---- what is brought

-- Q of each action that is taken of sets
abbrev pub AllTaken : (Logged → Type 0) → List SetSync → Type 0
AllTaken Q ts = AllByRecursion (λ t. AllByRecursion Q t.rows) ts

-- R of the rows of each table, and Q of each action that is logged
abbrev pub AllBrought : (List ℕ × Rows → Type 0) → (Logged → Type 0) → Brought → Type 0
AllBrought R Q b = AllByRecursion R b.rows × AllByRecursion Q b.logs

-- an action of which Q holds makes of rows of which R holds such rows
abbrev pub Makes : Place → (List ℕ × Rows → Type 0) → (Logged → Type 0) → Type 0
Makes here R Q =
    (rows : Named Rows) (l : Logged) → AllByRecursion R rows → Q l →
    R (l.action.table, apply l.action.change (content here rows l.action.table))

onto_has : {X : Type 0} (P : X → Type 0) (xs others : List X) → AllByRecursion P xs → AllByRecursion P others →
    AllByRecursion P (onto xs others)
onto_has P [] others new old = old
onto_has P (x ∷ xs) others new old = onto_has P xs (x ∷ others) new.1 (new.0, old)

actions_have : (here : Place) (R : List ℕ × Rows → Type 0) (Q : Logged → Type 0) → Makes here R Q →
    (ls : List Logged) (rows : Named Rows) → AllByRecursion Q ls → AllByRecursion R rows →
    AllByRecursion R (with_actions here ls rows)
actions_have here R Q makes [] rows new old = old
actions_have here R Q makes (l ∷ more) rows new old =
    actions_have here R Q makes more _ new.1 (makes rows l old new.0, old)

sync_has : (here : Place) (R : List ℕ × Rows → Type 0) (Q : Logged → Type 0) → Makes here R Q → (t : SetSync)
    (b : Brought) → AllByRecursion Q t.rows → AllBrought R Q b → AllBrought R Q (with_sync here t b)
sync_has here R Q makes t b new old = (
  actions_have here R Q makes t.rows b.rows new old.0,
  elim t.forwards as (λ f. AllByRecursion Q (cond f (onto t.rows b.logs) b.logs)) [
    | true ↦ onto_has Q t.rows b.logs new old.1
    | false ↦ old.1
  ],
)

pub syncs_have : (here : Place) (R : List ℕ × Rows → Type 0) (Q : Logged → Type 0) → Makes here R Q →
    (ts : List SetSync) (b : Brought) → AllTaken Q ts → AllBrought R Q b → AllBrought R Q (with_syncs here ts b)
syncs_have here R Q makes [] b new old = old
syncs_have here R Q makes (t ∷ more) b new old =
    syncs_have here R Q makes more (with_sync here t b) new.1 (sync_has here R Q makes t b new.0 old)

-- ---- what is taken of the sets that a node keeps

-- ---- the tables of what is taken

-- what is read of a log is on the tables of the set
pub sync_on : (own : ℕ) (k : Knowledge) (e : Event) (logs : List Logged) (v : ℕ × View) →
    AllByRecursion (λ l. is_on_one (set_sync own k e logs v).tables l ≡ true) (set_sync own k e logs v).rows
sync_on own k e logs v =
    delta_has (λ l. Unit {0}) (λ l. is_on_one (tables_taken own v.0 k.config) l ≡ true)
    (tables_taken own v.0 k.config) (λ l has on. on) e.origin v.1.seen e.taken logs
    (all_each (λ l. Unit {0}) (λ l. tt) logs)

-- so it is on tables of these names
pub all_taken_named : (ts : List SetSync) → AreOn ts →
    AllTaken (λ l. named l.action.table (tables_in (FoundSyncs ts)) ≡ true) ts
all_taken_named [] are = tt
all_taken_named (t ∷ ts) are = (
  all_map (λ l. is_on_one t.tables l ≡ true) Here
      (λ l on. list_any-append (bytes_eq l.action.table) names more
      ∙ ap (λ b. b || named l.action.table more) (on_named t.tables l on)) t.rows are.0,
  all_map (λ (u : SetSync). AllByRecursion (λ l. named l.action.table more ≡ true) u.rows)
      (λ u. AllByRecursion Here u.rows)
      (λ u. all_map (λ l. named l.action.table more ≡ true) Here
      (λ l is. list_any-append (bytes_eq l.action.table) names more
      ∙ or_right (named l.action.table names) (named l.action.table more) is) u.rows) ts
      (all_taken_named ts are.1),
)
  where
    names : List (List ℕ)
    names = map (λ u. u.1) t.tables

    more : List (List ℕ)
    more = tables_in (FoundSyncs ts)

    Here : Logged → Type 0
    Here l = named l.action.table (names ++ more) ≡ true

-- ---- whose rows they are

-- what is read of a log is of the origin
numbered_own : (origin : ℕ) (logs : List Logged) → AllByRecursion (λ e. e.1.origin ≡ origin) (numbered origin logs)
numbered_own origin [] = tt
numbered_own origin (l ∷ logs) =
    elim (l.origin == origin)
    as (λ b. (l.origin == origin) ≡ b → AllByRecursion (λ e. e.1.origin ≡ origin)
    (cond b (with_entry l.action.number l (numbered origin logs)) (numbered origin logs))) [
      | true ↦
          λ same. all_with (λ e. e.1.origin ≡ origin) l.action.number l (numbered origin logs)
          (eqb-true l.origin origin same) (numbered_own origin logs)
      | false ↦ λ other. numbered_own origin logs
    ] refl

-- so is what is taken of a set
pub rows_own : (own : ℕ) (k : Knowledge) (e : Event) (logs : List Logged) (v : ℕ × View) →
    AllByRecursion (λ l. l.origin ≡ e.origin) (set_sync own k e logs v).rows
rows_own own k e logs v =
    all_filtered (λ l. l.origin ≡ e.origin)
    (λ l. is_on_one (tables_taken own v.0 k.config) l && is_new v.1.seen e.taken l)
    (map (λ e. e.1) (numbered e.origin logs))
    (all_mapped (λ (f : ℕ × Logged). f.1.origin ≡ e.origin) (λ l. l.origin ≡ e.origin) (λ f. f.1) (λ f is. is)
    (numbered e.origin logs) (numbered_own e.origin logs))

-- and what a node logs of it
pub logs_own : (here : Place) (origin : ℕ) (ts : List SetSync) → AllTaken (λ l. l.origin ≡ origin) ts →
    AllByRecursion (λ l. l.origin ≡ origin) (with_syncs here ts nothing_brought).logs
logs_own here origin ts all =
    (syncs_have here (λ r. Unit {0}) (λ l. l.origin ≡ origin) (λ rows l old is. tt) ts nothing_brought all (tt, tt)).1
