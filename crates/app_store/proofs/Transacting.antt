-- The tasks on tables and transactions: each way out leads by a step of the rules to a place that fits.
use Rattle.std.proofs.Common.{◌≡◌, ℕ, ◌+◌, ◌<◌, ◌≤◌, Bool, true, false, cond, List, [], ◌∷◌, Option, Some, None, Ok}
use Rattle.std.proofs.Common.{Err, refl, sym, ap, subst, ◌∙◌, ◌++◌, arith, is_some, length}
use Rattle.std.specs.Prelude.{◌==◌, ◌||◌, ◌&&◌, not, option_map, filter}
use Rattle.std.specs.List.{AllByRecursion}
use Rattle.std.specs.Str.{bytes_eq}
use Rattle.std.specs.Cmp.Lexicographic.{nat_list_cmp_total}
use Rattle.std.specs.FinMap.{get, insert, remove, empty, entries, get-insert, get-remove}
use Rattle.std.proofs.lemmas.Bool.{false≢true, false_from_ne_true, eqb-true, le-leb, lt-leb}
use Rattle.std.proofs.lemmas.List.{length-append}
use Rattle.slon_base.specs.Keeper.{Kept, Store}
use Rattle.slon_base.specs.Codec.{number_bytes, text_bytes, IsText}
use Rattle.slon_base.specs.declared.fault.Halt.TheVariants.{TooBig}
use Rattle.std.specs.Option.{option_or}
use Rattle.slon_model.specs.declared.numbering.Numbering.TheVariants.{Xids}
use Rattle.slon_model.specs.declared.fault.DbFault.{DbFault}
use Rattle.slon_model.specs.declared.fault.DbFault.TheVariants.{TableExists, NameUsed, NoTransaction, NoTable, Halt}
use Rattle.slon_model.specs.declared.reply.Answer.{Answer}
use Rattle.slon_model.specs.declared.reply.Answer.TheVariants.{Done, Opened, Committed, Listed}
use Rattle.slon_model.specs.declared.reply.Answered.TheVariants.{Sure, InDoubt}
use Rattle.slon_model.specs.Names.{find_named, without as without_name}
use Rattle.slon_model.specs.Rows.{Action, member, holder_in}
use Rattle.slon_model.specs.Tasks.{Task, ToMake, ToOpen, ToCommit, ToAbort, ToList}
use Rattle.slon_model.specs.Place.{Place, open_xids, holder, standing_rows, own_actions, own_count, raised, node_id}
use Rattle.slon_model.specs.Place.{drawn, filling_of}
use Rattle.slon_model.specs.Deeds.{Node, knowledge}
use Rattle.slon_model.specs.Logs.{own_logs, logged}
use Rattle.log_switch.specs.Holds.{logged_more}
use Rattle.node_state.specs.declared.memory.Identity.{Identity}
use Rattle.node_state.specs.Held.{action_as, captured_all, items_of}
use Rattle.node_state.specs.declared.memory.Members.{Members}
use Rattle.node_state.specs.Known.{IsKnown, member_at, log_rows_of}
use Rattle.node_state.proofs.Growing.{AreOf, all_more}
use Rattle.node_state.proofs.Nobody.{known_committed}
use Rattle.slon_model.specs.Moves.{Move, Stays, Tables, Begins, Commits, Aborts, tabled, begun, committed, aborted}
use Rattle.slon_model.specs.Moves.{with_commit, is_beyond, is_last_stamp, stored_limit}
use Rattle.slon_model.specs.Deciding.{Decision, Refuses, Accepts, Overflows, refused_if, with_found, limited, decide}
use Rattle.slon_model.proofs.Names.{bytes_same, find-without, find-behind}
use Rattle.slon_laws.specs.Sound.{Sound, ids_of}
use Rattle.slon_laws.proofs.Decides.{raised_same}
use Rattle.slon_laws.proofs.Keys.{key_test}
use Rattle.slon_laws.proofs.Opens.{found_member, member_taken}
use Rattle.slon_laws.proofs.Sounds.{sound_raised}
use Rattle.txn_core.specs.Locks.{holder_of, Locks, without as without_xid}
use Rattle.app_store.specs.declared.opens.Transaction.{Transaction}
use Rattle.app_store.specs.Base.{with_opened, Memory, Base}
use Rattle.app_store.specs.Fits.{Fits, Runs, OpensAs, IsOpened}
use Rattle.app_store.specs.Serves.{Comes}
use Rattle.app_store.specs.Parts.{FellTo, RaisedTo, Raises, Bursts, StopsRaise}
use Rattle.app_store.specs.Works.{batch_of, CanLog}
use Rattle.app_store.specs.Spelled.{Holds, AreRows, row_key, over, new_table, new_rows, write_all, rows}
use Rattle.store_rows.proofs.Spaces.{any_of}
use Rattle.app_store.proofs.Holding.{holds_same, holds_table, holds_rows, get-written, stored_of}
use Rattle.app_store.proofs.Openings.{opened_same, opened_new, opened_committed}
use Rattle.app_store.proofs.Places.{member_snoc, holders_agree, counted_none, rows_unwritten, released, freed}
use Rattle.app_store.proofs.Places.{ended_names}
use Rattle.app_store.proofs.Standing.{up_running, fits_running, carried, fell, wavers, looked, opens_same}
use Rattle.app_store.proofs.Standing.{named_as, named_up}
use Rattle.app_store.proofs.Standing.{is_down, crashed_fits}
use Rattle.app_store.proofs.Starting.{begun_next, begun_same}
use Rattle.app_store.proofs.Upright.{UpAt, running, IsLooked, WentDown, IsChanged, LeftInDoubt, is_up}

-- what the decision on a task is, of a database that is up
pub decided : {p : Place} {b : Base} (task : Task) (d e : Decision) → UpAt p b →
    Rattle.slon_model.specs.Deciding.decide_up task p ≡ d → limited p d ≡ e → decide task p ≡ e
decided {p} task d e at is limit = Rattle.app_store.proofs.Standing.decided_up task p d (running at).0 is ∙ limit

within : (move : Move) (p : Place) (answer : Answer) → is_beyond move p ≡ false →
    limited p (Accepts answer move) ≡ Accepts answer move
within move p answer is = ap (λ b. cond b Overflows (Accepts answer move)) is

-- ---- the limit

pub small_stamp : (p : Place) (stamp : ℕ) → stamp ≡ p.stamp → stamp + 1 < stored_limit → is_last_stamp p ≡ false
small_stamp p stamp is less = lt-leb stored_limit (p.stamp + 1) (omega (arith, is, less))

pub last_stamp : (p : Place) (stamp : ℕ) → stamp ≡ p.stamp → stored_limit ≤ stamp + 1 → is_last_stamp p ≡ true
last_stamp p stamp is most = le-leb stored_limit (p.stamp + 1) (omega (arith, is, most))

-- a number that would be too big takes the database down
pub overflows : {p : Place} {old : Base} (task : Task) (answer : Answer) (move : Move) (new : Base) → UpAt p old →
    Rattle.slon_model.specs.Deciding.decide_up task p ≡ Accepts answer move → is_beyond move p ≡ true →
    WentDown old new → Comes task p (Err (Halt (TooBig 1))) new
overflows {p} {old} task answer move new at is beyond went =
    carried task p Overflows new
    (decided task (Accepts answer move) Overflows at is
    (ap (λ b. cond b Overflows (Accepts answer move)) beyond))
    (crashed_fits p old new (is_up at) (record {
      down = is_down went.down;
      held = went.looked.held;
      later = went.looked.later;
    }))

-- ---- tables

table_decision : (table : List ℕ) (columns : ℕ) (p : Place) (b : Bool) → is_some (find_named table p.tables) ≡ b →
    refused_if (is_some (find_named table p.tables)) TableExists (Accepts Done (Tables table columns))
    ≡ refused_if b TableExists (Accepts Done (Tables table columns))
table_decision table columns p b is = ap (λ t. refused_if t TableExists (Accepts Done (Tables table columns))) is

pub table_refused : {p : Place} {b : Base} (table : List ℕ) (columns : ℕ) (kept : Kept) → UpAt p b →
    is_some (find_named table p.tables) ≡ true → IsLooked b.kept kept →
    Comes (ToMake table columns) p (Err TableExists) (record b { kept = kept })
table_refused {p} {b} table columns kept at there left =
    carried (ToMake table columns) p (Refuses TableExists) _
    (decided _ (Refuses TableExists) (Refuses TableExists) at (table_decision table columns p true there) refl)
    (looked p b kept at.ready.fits left.held left.later)

table_runs : (table : List ℕ) (columns stamp : ℕ) (p : Place) (m : Memory) → Runs p m → stamp ≡ m.stamp + 1 →
    Runs (tabled table columns p) (record m { stamp = stamp })
table_runs table columns stamp p m runs is = record {
  up = runs.up;
  stamp = is ∙ ap (λ n. n + 1) runs.stamp;
  settled = runs.settled;
  founded = omega arith;
  xids = runs.xids;
  numbers = runs.numbers;
  opened = λ q. opens_same p (tabled table columns p) (find_named q p.opens) (get m.opens q) (refl, refl, refl)
      (runs.opened q);
  locked = runs.locked;
  begun = runs.begun;
  known = runs.known;
  unpromised = runs.unpromised;
}

-- A table that is not there, and a stamp for the transaction that makes it.
pub record HasRoom (table : List ℕ) (p : Place) (b : Base) : Type 0 where
  pub absent : is_some (find_named table p.tables) ≡ false
  pub less : b.memory.stamp + 1 < stored_limit

-- the store with the table, and with the next stamp
abbrev pub with_table : List ℕ → ℕ → Base → Store → Store
with_table table columns b m =
    new_table (text_bytes table) (number_bytes columns) (number_bytes (b.memory.stamp + 1)) m

table_holds : {p : Place} {b : Base} (table : List ℕ) (columns : ℕ) (at : UpAt p b) →
    Holds (tabled table columns p) (with_table table columns b at.ready.fits.held.0)
table_holds {p} table columns at =
    let runs = (running at).1 in
    subst
    (λ n. Holds (tabled table columns p)
    (new_table (text_bytes table) (number_bytes columns) (number_bytes (n + 1)) at.ready.fits.held.0)) (sym runs.stamp)
    (holds_table p at.ready.fits.held.0 table columns runs.founded at.ready.fits.held.2)

table_accepted : {p : Place} {b : Base} (table : List ℕ) (columns : ℕ) → UpAt p b → HasRoom table p b →
    decide (ToMake table columns) p ≡ Accepts Done (Tables table columns)
table_accepted {p} {b} table columns at room =
    decided _ (Accepts Done (Tables table columns)) _ at (table_decision table columns p false room.absent)
    (within (Tables table columns) p Done (small_stamp p b.memory.stamp (running at).1.stamp room.less))

pub table_made : {p : Place} {b : Base} (table : List ℕ) (columns : ℕ) (kept : Kept) (at : UpAt p b) →
    HasRoom table p b → IsChanged (with_table table columns b at.ready.fits.held.0) b.kept kept →
    Comes (ToMake table columns) p (Ok (Sure Done))
    (record { kept = kept; memory = record b.memory { stamp = b.memory.stamp + 1 } })
table_made {p} {b} table columns kept at room changed =
    let runs = running at in
    carried (ToMake table columns) p (Accepts Done (Tables table columns)) _
    (table_accepted table columns at room)
    (fits_running (tabled table columns p) _ _ runs.0
    (table_runs table columns (b.memory.stamp + 1) p b.memory runs.1 refl)
    (omega (arith, at.ready.fits.told, changed.later)) changed.held (table_holds table columns at))

pub table_doubted : {p : Place} {b : Base} (table : List ℕ) (columns : ℕ) (new : Base) (at : UpAt p b) →
    HasRoom table p b →
    LeftInDoubt at.ready.fits.held.0 (with_table table columns b at.ready.fits.held.0) b new →
    Comes (ToMake table columns) p (Ok (InDoubt Done)) new
table_doubted {p} {b} table columns new at room waver =
    wavers (ToMake table columns) p Done (Tables table columns) new (table_accepted table columns at room) refl
    (record {
      before = at.ready.fits.held.0;
      after = _;
      memory = record {
        stamp = refl;
        told = refl;
        up = waver.up;
        doubt = waver.doubt ∙ ap (λ n. Some (n + 1)) (running at).1.stamp;
        named = named_as p p b.memory new.memory (named_up p b.memory (running at).1) waver.identity refl;
        node = refl;
      };
      told = omega (arith, at.ready.fits.told, waver.later);
      holds = at.ready.fits.held.2;
      holds_after = table_holds table columns at;
      either = waver.either;
    })

pub table_at_limit : {p : Place} {b : Base} (table : List ℕ) (columns : ℕ) (new : Base) → UpAt p b →
    is_some (find_named table p.tables) ≡ false → stored_limit ≤ b.memory.stamp + 1 → WentDown b new →
    Comes (ToMake table columns) p (Err (Halt (TooBig 1))) new
table_at_limit {p} {b} table columns new at absent most went =
    overflows (ToMake table columns) Done (Tables table columns) new at (table_decision table columns p false absent)
    (last_stamp p b.memory.stamp (running at).1.stamp most) went

-- ---- rows

rows_decision : (table : List ℕ) (p : Place) (o : Option ℕ) → find_named table p.tables ≡ o →
    with_found (find_named table p.tables) NoTable (λ width. Accepts (Listed (entries (standing_rows p table))) Stays)
    ≡ with_found o NoTable (λ width. Accepts (Listed (entries (standing_rows p table))) Stays)
rows_decision table p o is =
    ap (λ o. with_found o NoTable (λ width. Accepts (Listed (entries (standing_rows p table))) Stays)) is

some_at : {X : Type 0} (o : Option X) → is_some o ≡ true → (x : X) × (o ≡ Some x)
some_at None is = absurd (false≢true is)
some_at (Some x) is = (x, refl)

pub none_at : {X : Type 0} (o : Option X) → is_some o ≡ false → o ≡ None
none_at None is = refl
none_at (Some x) is = absurd (false≢true (sym is))

pub rows_refused : {p : Place} {b : Base} (table : List ℕ) (kept : Kept) → UpAt p b →
    is_some (find_named table p.tables) ≡ false → IsLooked b.kept kept →
    Comes (ToList table) p (Err NoTable) (record b { kept = kept })
rows_refused {p} {b} table kept at absent left =
    carried (ToList table) p (Refuses NoTable) _
    (decided _ _ (Refuses NoTable) at (rows_decision table p None (none_at _ absent)) refl)
    (looked p b kept at.ready.fits left.held left.later)

pub rows_listed : {p : Place} {b : Base} (table : List ℕ) (kept : Kept) (listed : List (List ℕ × List (List ℕ))) →
    UpAt p b → is_some (find_named table p.tables) ≡ true → listed ≡ entries (standing_rows p table) →
    IsLooked b.kept kept → Comes (ToList table) p (Ok (Sure (Listed listed))) (record b { kept = kept })
rows_listed {p} {b} table kept listed at there same left =
    let found = some_at (find_named table p.tables) there in
    subst (λ l. Comes (ToList table) p (Ok (Sure (Listed l))) (record b { kept = kept })) (sym same)
    (carried (ToList table) p (Accepts (Listed (entries (standing_rows p table))) Stays) _
    (decided _ _ _ at (rows_decision table p (Some found.0) found.1) refl)
    (looked p b kept at.ready.fits left.held left.later))

-- ---- begin

-- no transaction of a name is open
pub not_named : (p : Place) (m : Memory) (name : List ℕ) → Runs p m → get m.opens name ≡ None →
    find_named name p.opens ≡ None
not_named p m name runs none = by (find_named name p.opens) (get m.opens name) refl none (runs.opened name)
  where
    by : (x : Option ℕ) (t : Option Transaction) → find_named name p.opens ≡ x → t ≡ None → OpensAs p x t →
        find_named name p.opens ≡ None
    by None t x_is t_is o = x_is
    by (Some x) None x_is t_is o = absurd o
    by (Some x) (Some t) x_is t_is o = absurd cc

pub is_named : (p : Place) (m : Memory) (name : List ℕ) (t : Transaction) → Runs p m → get m.opens name ≡ Some t →
    (x : ℕ) × (find_named name p.opens ≡ Some x) × IsOpened p x t
is_named p m name t runs is = by (find_named name p.opens) (get m.opens name) refl is (runs.opened name)
  where
    by : (x : Option ℕ) (o : Option Transaction) → find_named name p.opens ≡ x → o ≡ Some t → OpensAs p x o → (x : ℕ)
        × (find_named name p.opens ≡ Some x) × IsOpened p x t
    by None None x_is o_is opened = absurd cc
    by None (Some u) x_is o_is opened = absurd opened
    by (Some x) None x_is o_is opened = absurd cc
    by (Some x) (Some u) x_is o_is opened = let same : u ≡ t = cc in (x, x_is, subst (IsOpened p x) same opened)

begin_decision : (name : List ℕ) (p : Place) (b : Bool) → is_some (find_named name p.opens) ≡ b →
    refused_if (is_some (find_named name p.opens)) NameUsed (Accepts (Opened p.xids.next) (Begins name))
    ≡ refused_if b NameUsed (Accepts (Opened p.xids.next) (Begins name))
begin_decision name p b is = ap (λ t. refused_if t NameUsed (Accepts (Opened p.xids.next) (Begins name))) is

pub name_used : {p : Place} {b : Base} (name : List ℕ) → UpAt p b → is_some (get b.memory.opens name) ≡ true →
    Comes (ToOpen name) p (Err NameUsed) b
name_used {p} {b} name at there =
    let t = some_at (get b.memory.opens name) there in
    let named = is_named p b.memory name t.0 (running at).1 t.1 in
    carried (ToOpen name) p (Refuses NameUsed) b
    (decided _ _ (Refuses NameUsed) at (begin_decision name p true (ap is_some named.1)) refl) at.ready.fits

-- the memory with a transaction more, whose id was drawn
abbrev pub with_begun : List ℕ → ℕ → Memory → Memory
with_begun name xid m = with_opened name xid (record m { xids = drawn m.xids })

begun_runs : {p : Place} {m : Memory} (name : List ℕ) (xid : ℕ) → Sound p → Runs p m →
    find_named name p.opens ≡ None → xid ≡ m.xids.next → Runs (begun name p) (with_begun name xid m)
begun_runs {p} {m} name xid sound runs none xid_is = record {
  up = runs.up;
  stamp = runs.stamp;
  settled = runs.settled;
  founded = runs.founded;
  xids = ap drawn runs.xids;
  numbers = runs.numbers;
  opened =
      λ q. subst (λ x. OpensAs (begun name p) x (get (insert m.opens name new) q))
      (sym (find-behind q name p.xids.next p.opens))
      (subst (OpensAs (begun name p) (behind q (find_named q p.opens)))
      (sym (get-insert nat_list_cmp_total m.opens name new q
      ∙ ap (λ t. cond t (Some new) (get m.opens q)) (key_test q name)))
      (by_name q (bytes_eq q name) refl));
  locked =
      λ table key text. runs.locked table key text
      ∙ holders_agree table key (open_xids p) (open_xids (begun name p)) p.actions (older p.actions sound.known);
  begun = begun_next p m.begun (record { xid = xid; number = m.numbers.next }) sound
      (xid_is ∙ ap (λ c. c.next) runs.xids, ap (λ c. c.next) runs.numbers) runs.begun;
  known = runs.known;
  unpromised = runs.unpromised;
}
  where
    new : Transaction
    new = record { xid = xid; actions = []; writes = empty }

    behind : List ℕ → Option ℕ → Option ℕ
    behind q o = cond (is_some o) o (cond (bytes_eq q name) (Some p.xids.next) None)

    stays : (q : List ℕ) (o : Option ℕ) (t : Option Transaction) → bytes_eq q name ≡ false → OpensAs p o t →
        OpensAs (begun name p) (behind q o) t
    stays q None t other opens =
        subst (λ b. OpensAs (begun name p) (cond b (Some p.xids.next) None) t) (sym other)
        (opens_same p (begun name p) None t (refl, refl, refl) opens)
    stays q (Some x) t other opens = opens_same p (begun name p) (Some x) t (refl, refl, refl) opens

    by_name : (q : List ℕ) (t : Bool) → bytes_eq q name ≡ t →
        OpensAs (begun name p) (behind q (find_named q p.opens)) (cond t (Some new) (get m.opens q))
    by_name q true same =
        subst (λ o. OpensAs (begun name p) (behind q o) (Some new))
        (sym (ap (λ k. find_named k p.opens) (bytes_same q name same) ∙ none))
        (subst (λ b. OpensAs (begun name p) (cond b (Some p.xids.next) None) (Some new)) (sym same)
        (opened_new p (begun name p) xid sound (refl, refl, refl) (xid_is ∙ ap (λ c. c.next) runs.xids)))
    by_name q false other = stays q (find_named q p.opens) (get m.opens q) other (runs.opened q)

    or_false : (t : Bool) → (t || false) ≡ t
    or_false true = refl
    or_false false = refl

    older : (actions : List Action) → AllByRecursion (λ a. a.xid < p.xids.next) actions →
        AllByRecursion (λ a. member a.xid (open_xids p) ≡ member a.xid (open_xids (begun name p))) actions
    older [] known = tt
    older (a ∷ rest) known = (
      sym (member_snoc a.xid p.xids.next name p.opens
          ∙ ap (λ t. member a.xid (ids_of p.opens) || t)
          (false_from_ne_true _ (λ same. let eq = eqb-true a.xid p.xids.next same in
          absurd (omega (arith, eq, known.0)))) ∙ or_false (member a.xid (ids_of p.opens))),
      older rest known.1,
    )

-- The database was up as the ceiling had risen, and the transaction was opened with the next id.
pub record HasOpened (name : List ℕ) (xid : ℕ) (mid new : Base) : Type 0 where
  pub up : mid.memory.up ≡ true
  pub drawn : xid ≡ mid.memory.xids.next
  pub new_is : new ≡ record mid { memory = with_begun name xid mid.memory }

-- what comes of the ceiling that rises first
pub begins_on : {p : Place} {b mid : Base} (name : List ℕ) (new : Base) (xid : ℕ) → UpAt p b →
    get b.memory.opens name ≡ None → RaisedTo Xids p (Ok tt) mid → HasOpened name xid mid new →
    Comes (ToOpen name) p (Ok (Sure (Opened xid))) new
begins_on {p} {b} {mid} name new xid at none (Raises is less fits) has =
    let q = raised Xids p in
    let same = raised_same Xids p in
    let runs = up_running q mid fits has.up in
    let absent = not_named p b.memory name (running at).1 none in
    let absent_mid : find_named name q.opens ≡ None = ap (find_named name) same.opens ∙ absent in
    let number : xid ≡ p.xids.next = has.drawn ∙ ap (λ c. c.next) runs.1.xids ∙ same.xid in
    subst (λ n. Comes (ToOpen name) p (Ok (Sure (Opened n))) new) (sym number)
    (carried (ToOpen name) p (Accepts (Opened p.xids.next) (Begins name)) new
    (decided _ _ _ at (begin_decision name p false (ap is_some absent))
    (within (Begins name) p (Opened p.xids.next) less))
    (subst (Fits (begun name q)) (sym has.new_is) (fits_running (begun name q) _ fits.held.0 runs.0
    (begun_runs name xid (sound_raised Xids p at.ready.sound) runs.1 absent_mid has.drawn) fits.told fits.held.1
    (holds_same q (begun name q) fits.held.0 refl fits.held.2))))
begins_on name new xid at none (Bursts is most fits) has = absurd cc
begins_on name new xid at none (StopsRaise fault less is fell) has = absurd cc

pub begin_stopped : {p : Place} {b : Base} (name : List ℕ) (new : Base) (fault : DbFault) → UpAt p b →
    get b.memory.opens name ≡ None → RaisedTo Xids p (Err fault) new → Comes (ToOpen name) p (Err fault) new
begin_stopped {p} {b} name new fault at none raises = by raises
  where
    accepted : Rattle.slon_model.specs.Deciding.decide_up (ToOpen name) p ≡ Accepts (Opened p.xids.next) (Begins name)
    accepted = begin_decision name p false (ap is_some (not_named p b.memory name (running at).1 none))

    by : RaisedTo Xids p (Err fault) new → Comes (ToOpen name) p (Err fault) new
    by (Raises is less fits) = absurd cc
    by (Bursts is most fits) =
        let same : fault ≡ Halt (TooBig 1) = cc in
        subst (λ f. Comes (ToOpen name) p (Err f) new) (sym same)
        (carried (ToOpen name) p Overflows new
        (decided _ _ Overflows at accepted
        (ap (λ b. cond b Overflows (Accepts (Opened p.xids.next) (Begins name))) most)) fits)
    by (StopsRaise other less is stops) =
        let same : fault ≡ other = cc in
        fell (ToOpen name) p (Accepts (Opened p.xids.next) (Begins name)) fault new
        (ap (λ s. Rattle.slon_model.specs.Deciding.may_call s p.node (ToOpen name)) (running at).0)
        (decided _ _ _ at accepted (within (Begins name) p (Opened p.xids.next) less))
        (subst (λ f. FellTo p (raised Xids p) f new) (sym same) stops)

-- ---- the end of a transaction

-- what was not there is taken away
same_opens : (p : Place) (m : Memory) (name : List ℕ) → Runs p m → get m.opens name ≡ None →
    Runs p (record m { opens = remove m.opens name })
same_opens p m name runs none = record {
  up = runs.up;
  stamp = runs.stamp;
  settled = runs.settled;
  founded = runs.founded;
  xids = runs.xids;
  numbers = runs.numbers;
  opened =
      λ q. subst (OpensAs p (find_named q p.opens))
      (sym (get-remove nat_list_cmp_total m.opens name q ∙ ap (λ t. cond t None (get m.opens q)) (key_test q name)
      ∙ unchanged q (bytes_eq q name) refl)) (runs.opened q);
  locked = runs.locked;
  begun = runs.begun;
  known = runs.known;
  unpromised = runs.unpromised;
}
  where
    unchanged : (q : List ℕ) (t : Bool) → bytes_eq q name ≡ t → cond t None (get m.opens q) ≡ get m.opens q
    unchanged q true same = sym (ap (get m.opens) (bytes_same q name same) ∙ none)
    unchanged q false other = refl

pub end_refused : {p : Place} {b : Base} (task : Task) (name : List ℕ) (go : ℕ → Decision) → UpAt p b →
    get b.memory.opens name ≡ None →
    Rattle.slon_model.specs.Deciding.decide_up task p ≡ with_found (find_named name p.opens) NoTransaction go →
    Comes task p (Err NoTransaction) (record b { memory = record b.memory { opens = remove b.memory.opens name } })
end_refused {p} {b} task name go at none is =
    let runs = running at in
    let fits = at.ready.fits in
    carried task p (Refuses NoTransaction) _
    (decided task _ (Refuses NoTransaction) at
    (is ∙ ap (λ o. with_found o NoTransaction go) (not_named p b.memory name runs.1 none)) refl)
    (fits_running p _ fits.held.0 runs.0 (same_opens p b.memory name runs.1 none) fits.told fits.held.1 fits.held.2)

-- two names have two ids
pub ids_differ : {x y : ℕ} (p : Place) (name q : List ℕ) → Sound p → find_named name p.opens ≡ Some x →
    find_named q p.opens ≡ Some y → bytes_eq q name ≡ false → (y == x) ≡ false
ids_differ {x} {y} p name q sound named found other = false_from_ne_true _ (λ same.
    let there : find_named q (without_name name p.opens) ≡ Some y =
    find-without q name p.opens ∙ ap (λ t. cond t None (find_named q p.opens)) other ∙ found in
    member_taken x name p.opens sound.named sound.running named
    (ap (λ z. member z (ids_of (without_name name p.opens))) (sym (eqb-true y x same))
    ∙ found_member q y (without_name name p.opens) there))

freed_same : (x : ℕ) (o : Option ℕ) → without_xid x o ≡ freed x o
freed_same x None = refl
freed_same x (Some y) = refl

-- A transaction that the code takes away, and the locks without its own.
pub record Ending (name : List ℕ) (m : Memory) : Type 0 where
  pub transaction : Transaction
  pub locks : Locks
  pub there : get m.opens name ≡ Some transaction
  pub frees : (table key : List ℕ) → holder_of table key locks
      ≡ without_xid transaction.xid (holder_of table key m.locks)

-- the same transaction by the rules
record IsEnding (p : Place) (name : List ℕ) (t : Transaction) : Type 0 where
  xid : ℕ
  named : find_named name p.opens ≡ Some xid
  opened : IsOpened p xid t

ending : {p : Place} {m : Memory} {name : List ℕ} (t : Transaction) → Runs p m → get m.opens name ≡ Some t →
    IsEnding p name t
ending {p} {m} {name} t runs there =
    let named = is_named p m name t runs there in record { xid = named.0; named = named.1; opened = named.2 }

-- the other transactions stay as they were
abbrev OthersStay : Place → Place → ℕ → Type 0
OthersStay p q x =
    (y : ℕ) (t : Transaction) → member y (open_xids p) ≡ true → (y == x) ≡ false → IsOpened p y t → IsOpened q y t

-- the place after the end of a transaction
record IsEnded (p q : Place) (name : List ℕ) (x : ℕ) : Type 0 where
  opens : q.opens ≡ without_name name p.opens
  actions : q.actions ≡ p.actions
  xids : q.xids ≡ p.xids
  numbers : q.numbers ≡ p.numbers
  founded : 0 < q.stamp
  keep : OthersStay p q x
  promised : q.promised ≡ p.promised
  known : (identity : Option Identity) (members : Members) → IsKnown p.node identity members →
      IsKnown q.node identity members

-- the memory without the transaction
abbrev pub without_one : List ℕ → ℕ → Locks → Memory → Memory
without_one name stamp locks m = record m { stamp = stamp; opens = remove m.opens name; locks = locks }

ended_runs : {p : Place} {m : Memory} {name : List ℕ} (q : Place) (stamp : ℕ) (ends : Ending name m) → Sound p →
    Runs p m → (e : IsEnding p name ends.transaction) → IsEnded p q name e.xid → stamp ≡ q.stamp →
    Runs q (without_one name stamp ends.locks m)
ended_runs {p} {m} {name} q stamp ends sound runs e ended stamp_is = record {
  up = runs.up;
  stamp = stamp_is;
  settled = runs.settled;
  founded = ended.founded;
  xids = runs.xids ∙ sym ended.xids;
  numbers = runs.numbers ∙ sym ended.numbers;
  opened = λ k. subst (λ o. OpensAs q (find_named k o) (get (remove m.opens name) k)) (sym ended.opens)
      (subst (λ o. OpensAs q o (get (remove m.opens name) k)) (sym (find-without k name p.opens))
      (subst (OpensAs q (cond (bytes_eq k name) None (find_named k p.opens)))
      (sym (get-remove nat_list_cmp_total m.opens name k ∙ ap (λ t. cond t None (get m.opens k)) (key_test k name)))
      (by_name k (bytes_eq k name) refl)));
  locked =
      λ table key text. ends.frees table key ∙ ap (λ n. without_xid n (holder_of table key m.locks)) e.opened.xid_is
      ∙ ap (without_xid e.xid) (runs.locked table key text)
      ∙ freed_same e.xid (holder table key p)
      ∙ sym (released table key e.xid (open_xids p) (ids_of (without_name name p.opens)) p.actions
      (ended_names e.xid name p.opens sound.named sound.running e.named) sound.locked)
      ∙ ap (λ os. holder_in table key (ids_of os) p.actions) (sym ended.opens)
      ∙ ap (holder_in table key (open_xids q)) (sym ended.actions);
  begun = begun_same p q m.begun ended.actions ended.numbers runs.begun;
  known = ended.known m.identity m.members runs.known;
  unpromised = ended.promised ∙ runs.unpromised;
}
  where
    other : (k : List ℕ) → bytes_eq k name ≡ false → (o : Option ℕ) (t : Option Transaction) →
        find_named k p.opens ≡ o → OpensAs p o t → OpensAs q o t
    other k differ None None is opened = tt
    other k differ None (Some t) is opened = opened
    other k differ (Some y) None is opened = opened
    other k differ (Some y) (Some t) is opened =
        ended.keep y t (found_member k y p.opens is) (ids_differ p name k sound e.named is differ) opened

    by_name : (k : List ℕ) (t : Bool) → bytes_eq k name ≡ t →
        OpensAs q (cond t None (find_named k p.opens)) (cond t None (get m.opens k))
    by_name k true same = tt
    by_name k false differ = other k differ (find_named k p.opens) (get m.opens k) refl (runs.opened k)

ended_by : {p : Place} {b : Base} (task : Task) (name : List ℕ) (go : ℕ → Decision) (xid : ℕ) → UpAt p b →
    find_named name p.opens ≡ Some xid →
    Rattle.slon_model.specs.Deciding.decide_up task p ≡ with_found (find_named name p.opens) NoTransaction go →
    decide task p ≡ limited p (go xid)
ended_by task name go xid at named is =
    decided task _ _ at (is ∙ ap (λ o. with_found o NoTransaction go) named) refl

pub aborts : {p : Place} {b : Base} (name : List ℕ) (new : Base) → UpAt p b → (ends : Ending name b.memory) →
    new ≡ record b { memory = without_one name b.memory.stamp ends.locks b.memory } →
    Comes (ToAbort name) p (Ok (Sure Done)) new
aborts {p} {b} name new at ends new_is =
    let runs = running at in
    let ready = at.ready in
    let e = ending ends.transaction runs.1 ends.there in
    let q = aborted name p in
    carried (ToAbort name) p (Accepts Done (Aborts name)) new
    (ended_by (ToAbort name) name (λ xid. Accepts Done (Aborts name)) e.xid at e.named refl)
    (subst (Fits q) (sym new_is) (fits_running q _ ready.fits.held.0 runs.0
    (ended_runs q b.memory.stamp ends ready.sound runs.1 e
    (record {
      opens = refl;
      actions = refl;
      xids = refl;
      numbers = refl;
      founded = runs.1.founded;
      keep = λ y u opened differ o. opened_same p q y u (refl, refl, refl) o;
      promised = refl;
      known = λ identity members known. known;
    }) runs.1.stamp)
    ready.fits.told ready.fits.held.1
    (holds_same p q ready.fits.held.0 refl ready.fits.held.2)))

-- ---- commits

-- the rows that stand after a commit are those that the transaction saw
rows_after : (p : Place) (x : ℕ) (name : List ℕ) (m : Store) (t : Transaction) → IsOpened p x t → Holds p m →
    AreRows (standing_rows (committed name x p)) (write_all (entries t.writes) m rows)
rows_after p x name m t o holds = record {
  lookups =
      λ i text. get-written t.writes m (row_key i.0 i.1)
      ∙ ap (over (get t.writes (row_key i.0 i.1))) (holds.rows_held.lookups i text) ∙ sym (o.sees i.0 i.1 text);
  spelled = λ i text. any_of (get (standing_rows (committed name x p) i.0) i.1);
  keys = λ q value is. by q value (get t.writes q) refl (sym (get-written t.writes m q) ∙ is);
}
  where
    by : (q value : List ℕ) (w : Option (Option (List ℕ))) → get t.writes q ≡ w → over w (get (m rows) q) ≡ Some value →
        (i : List ℕ × List ℕ) × IsText i.0 × (q ≡ row_key i.0 i.1)
    by q value None same is = holds.rows_held.keys q value is
    by q value (Some w) same is = let key = o.keys q (ap is_some same) in ((key.0, key.1), key.3, key.2)

committed_others : (p : Place) (name : List ℕ) (x : ℕ) → Sound p → find_named name p.opens ≡ Some x →
    OthersStay p (committed name x p) x
committed_others p name x sound named y u opened differ o =
    opened_committed p name (record {
      one = x;
      other = y;
      one_opened = found_member name x p.opens named;
      other_opened = opened;
      differ = differ;
    }) u sound o

commit_limit : (name : List ℕ) (xid : ℕ) (p : Place) (b : Bool) → (not (own_count xid p == 0) && is_last_stamp p) ≡ b →
    limited p (Accepts (Committed (own_count xid p)) (Commits name xid)) ≡ cond b Overflows
    (Accepts (Committed (own_count xid p)) (Commits name xid))
commit_limit name xid p b is = ap (λ t. cond t Overflows (Accepts (Committed (own_count xid p)) (Commits name xid))) is

not_zero : (n : ℕ) → 0 < n → (n == 0) ≡ false
not_zero n lt = false_from_ne_true _ (λ is. let same = eqb-true n 0 is in absurd (omega (arith, same, lt)))

-- how many actions are captured
captured_length : (actions : List Action) → length (captured_all actions) ≡ length actions
captured_length [] = refl
captured_length (a ∷ rest) = length-append (captured_all rest) (action_as a ∷ []) ∙ omega (arith, captured_length rest)

counted : {p : Place} {x : ℕ} {t : Transaction} → IsOpened p x t → length t.actions ≡ own_count x p
counted {p} {x} o = ap length o.actions ∙ captured_length (own_actions x p)

-- without actions the node does nothing
same_node : (name : List ℕ) (x : ℕ) (p : Place) → own_count x p ≡ 0 → (committed name x p).node ≡ p.node
same_node name x p none = ap (λ n. cond (n == 0) p.node (option_map (with_commit x p) p.node)) none

pub commits_none : {p : Place} {b : Base} (name : List ℕ) (count : ℕ) (new : Base) → UpAt p b →
    (ends : Ending name b.memory) → (count ≡ length ends.transaction.actions) × (count ≡ 0) →
    new ≡ record b { memory = without_one name b.memory.stamp ends.locks b.memory } →
    Comes (ToCommit name) p (Ok (Sure (Committed count))) new
commits_none {p} {b} name told new at ends (told_is, zero) new_is =
    let runs = running at in
    let ready = at.ready in
    let e = ending ends.transaction runs.1 ends.there in
    let count : length ends.transaction.actions ≡ own_count e.xid p = counted e.opened in
    let none : own_count e.xid p ≡ 0 = sym count ∙ sym told_is ∙ zero in
    let q = committed name e.xid p in
    let stamp_same : q.stamp ≡ p.stamp = ap (λ n. cond (n == 0) p.stamp (p.stamp + 1)) none in
    subst (λ n. Comes (ToCommit name) p (Ok (Sure (Committed n))) new) (sym (told_is ∙ count))
    (carried (ToCommit name) p (Accepts (Committed (own_count e.xid p)) (Commits name e.xid)) new
    (ended_by (ToCommit name) name (λ xid. Accepts (Committed (own_count xid p)) (Commits name xid)) e.xid at e.named
    refl ∙ commit_limit name e.xid p false (ap (λ n. not (n == 0) && is_last_stamp p) none))
    (subst (Fits q) (sym new_is) (fits_running q _ ready.fits.held.0 runs.0
    (ended_runs q b.memory.stamp ends ready.sound runs.1 e
    (record {
      opens = refl;
      actions = refl;
      xids = refl;
      numbers = refl;
      founded = omega (arith, runs.1.founded, stamp_same);
      keep = committed_others p name e.xid ready.sound e.named;
      promised = refl;
      known =
          λ identity members known. subst (λ n. IsKnown n identity members) (sym (same_node name e.xid p none)) known;
    }) (runs.1.stamp ∙ sym stamp_same))
    ready.fits.told ready.fits.held.1
    (holds_same p q ready.fits.held.0 (λ i. record (stored_of p) {
      stamp = stamp_same i;
      node = same_node name e.xid p none i;
      standing =
          λ u. rows_unwritten e.xid p.commits u p.actions (filling_of u p.fillings)
          (counted_none e.xid p.actions none) i;
    }) ready.fits.held.2))))

-- a commit with actions
commit_stamp : (name : List ℕ) (x : ℕ) (p : Place) → 0 < own_count x p → (committed name x p).stamp ≡ p.stamp + 1
commit_stamp name x p some = ap (λ b. cond b p.stamp (p.stamp + 1)) (not_zero (own_count x p) some)

commit_node : (name : List ℕ) (x : ℕ) (p : Place) → 0 < own_count x p →
    (committed name x p).node ≡ option_map (with_commit x p) p.node
commit_node name x p some =
    ap (λ b. cond b p.node (option_map (with_commit x p) p.node)) (not_zero (own_count x p) some)

-- its id stays
commit_id : (name : List ℕ) (x : ℕ) (p : Place) → node_id (committed name x p) ≡ node_id p
commit_id name x p = by (own_count x p == 0) p.node
  where
    by : (b : Bool) (own : Option Node) →
        option_or (option_map (λ n. n.id) (cond b own (option_map (with_commit x p) own))) p.promised
        ≡ option_or (option_map (λ n. n.id) own) p.promised
    by true own = refl
    by false None = refl
    by false (Some n) = refl

-- the store with the rows of the transaction and what is logged of them, and with the next stamp
abbrev pub with_rows : Transaction → Base → Store → Store
with_rows t b m = new_rows (batch_of b.memory.identity b.memory.members t) (number_bytes (b.memory.stamp + 1)) m

-- the actions of a transaction are its own
all_own : (x : ℕ) (actions : List Action) → AreOf x (filter (λ a. a.xid == x) actions)
all_own x [] = tt
all_own x (a ∷ rest) =
    elim (a.xid == x) as (λ b. (a.xid == x) ≡ b → AreOf x (cond b (a ∷ filter (λ a. a.xid == x) rest)
    (filter (λ a. a.xid == x) rest))) [ true ↦ λ is. (is, all_own x rest) | false ↦ λ is. all_own x rest ] refl

-- what the memory of a node logs is what the rules say
logs_as : {p : Place} {x : ℕ} {t : Transaction} (members : Members) → IsOpened p x t →
    ((name : List ℕ) → get members.live name ≡ member_at p.node name) → (n : Node) → p.node ≡ Some n →
    logged_more n.id (log_rows_of members t.xid t.actions) (items_of (logged n))
    ≡ items_of (own_logs n.id (knowledge n) (own_actions x p)) ++ items_of (logged n)
logs_as {p} {x} {t} members o known n is =
    ap (λ y. logged_more n.id (log_rows_of members y t.actions) (items_of (logged n))) o.xid_is
    ∙ ap (λ as_is. logged_more n.id (log_rows_of members x as_is) (items_of (logged n))) o.actions
    ∙ all_more n members x (own_actions x p) (items_of (logged n)) (all_own x p.actions)
    (λ name. known name ∙ ap (λ own. member_at own name) is)

committed_holds : {p : Place} {b : Base} (name : List ℕ) (x : ℕ) (t : Transaction) (at : UpAt p b) → IsOpened p x t →
    0 < own_count x p → CanLog b.memory.members t →
    Holds (committed name x p) (with_rows t b at.ready.fits.held.0)
committed_holds {p} {b} name x t at o some can =
    let runs = (running at).1 in
    let fits = at.ready.fits in
    subst (λ n. Holds (committed name x p)
    (new_rows (batch_of b.memory.identity b.memory.members t) (number_bytes (n + 1)) fits.held.0)) (sym runs.stamp)
    (holds_rows (record {
      founded = runs.founded;
      stored = λ i. record (stored_of (committed name x p)) {
        stamp = commit_stamp name x p some i;
        node = commit_node name x p some i;
      };
      rows_are = rows_after p x name fits.held.0 t o fits.held.2;
      known = runs.known.identity_is;
      logs = logs_as b.memory.members o runs.known.members_are;
      can = can;
    }) fits.held.2)

commit_accepted : {p : Place} {b : Base} (name : List ℕ) (x : ℕ) → UpAt p b → find_named name p.opens ≡ Some x →
    b.memory.stamp + 1 < stored_limit →
    decide (ToCommit name) p ≡ Accepts (Committed (own_count x p)) (Commits name x)
commit_accepted {p} {b} name x at named less =
    ended_by (ToCommit name) name (λ xid. Accepts (Committed (own_count xid p)) (Commits name xid)) x at named refl
    ∙ commit_limit name x p false
    (ap (λ t. not (own_count x p == 0) && t) (small_stamp p b.memory.stamp (running at).1.stamp less)
    ∙ and_false (not (own_count x p == 0)))
  where
    and_false : (t : Bool) → (t && false) ≡ false
    and_false true = refl
    and_false false = refl

-- A transaction with actions, and a stamp for its commit.
pub record HasActions (t : Transaction) (b : Base) : Type 0 where
  -- how many, as it is told
  pub count : ℕ
  pub count_is : count ≡ length t.actions
  pub some : 0 < length t.actions
  pub can : CanLog b.memory.members t
  pub less : b.memory.stamp + 1 < stored_limit

pub commits_some : {p : Place} {b : Base} (name : List ℕ) (new : Base) (at : UpAt p b) (ends : Ending name b.memory) →
    (has : HasActions ends.transaction b) →
    IsChanged (with_rows ends.transaction b at.ready.fits.held.0) b.kept new.kept →
    new.memory ≡ without_one name (b.memory.stamp + 1) ends.locks b.memory →
    Comes (ToCommit name) p (Ok (Sure (Committed has.count))) new
commits_some {p} {b} name new at ends has changed memory_is =
    let runs = running at in
    let ready = at.ready in
    let e = ending ends.transaction runs.1 ends.there in
    let count : length ends.transaction.actions ≡ own_count e.xid p = counted e.opened in
    let some = has.some in
    let any : 0 < own_count e.xid p = omega (arith, some, count) in
    let q = committed name e.xid p in
    let stamped = commit_stamp name e.xid p any in
    subst (λ n. Comes (ToCommit name) p (Ok (Sure (Committed n))) new) (sym (has.count_is ∙ count))
    (carried (ToCommit name) p (Accepts (Committed (own_count e.xid p)) (Commits name e.xid)) new
    (commit_accepted name e.xid at e.named has.less)
    (fits_running q new _ runs.0
    (subst (Runs q) (sym memory_is)
    (ended_runs q (b.memory.stamp + 1) ends ready.sound runs.1 e
    (record {
      opens = refl;
      actions = refl;
      xids = refl;
      numbers = refl;
      founded = omega (arith, stamped);
      keep = committed_others p name e.xid ready.sound e.named;
      promised = refl;
      known = λ identity members known. subst (λ n. IsKnown n identity members) (sym (commit_node name e.xid p any))
          (known_committed p.node e.xid p identity members known);
    }) (ap (λ n. n + 1) runs.1.stamp ∙ sym stamped)))
    (omega (arith, ready.fits.told, changed.later)) changed.held
    (committed_holds name e.xid ends.transaction at e.opened any has.can)))

pub commit_doubted : {p : Place} {b : Base} (name : List ℕ) (new : Base) (t : Transaction) (at : UpAt p b) →
    get b.memory.opens name ≡ Some t → (has : HasActions t b) →
    LeftInDoubt at.ready.fits.held.0 (with_rows t b at.ready.fits.held.0) b new →
    Comes (ToCommit name) p (Ok (InDoubt (Committed has.count))) new
commit_doubted {p} {b} name new t at there has waver =
    let runs = running at in
    let e = ending t runs.1 there in
    let some = has.some in
    let count = counted e.opened in
    let any : 0 < own_count e.xid p = omega (arith, some, count) in
    subst (λ n. Comes (ToCommit name) p (Ok (InDoubt (Committed n))) new) (sym (has.count_is ∙ count))
    (wavers (ToCommit name) p (Committed (own_count e.xid p)) (Commits name e.xid) new
    (commit_accepted name e.xid at e.named has.less) (ap not (not_zero (own_count e.xid p) any)) (record {
      before = at.ready.fits.held.0;
      after = _;
      memory = record {
        stamp = commit_stamp name e.xid p any;
        told = refl;
        up = waver.up;
        doubt = waver.doubt ∙ ap (λ n. Some (n + 1)) runs.1.stamp;
        named = named_as p p b.memory new.memory (named_up p b.memory runs.1) waver.identity refl;
        node = commit_id name e.xid p;
      };
      told = omega (arith, at.ready.fits.told, waver.later);
      holds = at.ready.fits.held.2;
      holds_after = committed_holds name e.xid t at e.opened any has.can;
      either = waver.either;
    }))

pub commit_at_limit : {p : Place} {b : Base} (name : List ℕ) (new : Base) (t : Transaction) → UpAt p b →
    get b.memory.opens name ≡ Some t → 0 < length t.actions → stored_limit ≤ b.memory.stamp + 1 → WentDown b new →
    Comes (ToCommit name) p (Err (Halt (TooBig 1))) new
commit_at_limit {p} {b} name new t at there some most went =
    let runs = (running at).1 in
    let e = ending t runs there in
    let count = counted e.opened in
    let any : 0 < own_count e.xid p = omega (arith, some, count) in
    overflows (ToCommit name) (Committed (own_count e.xid p)) (Commits name e.xid) new at
    (ap (λ o. with_found o NoTransaction (λ xid. Accepts (Committed (own_count xid p)) (Commits name xid))) e.named)
    (ap (λ z. not z && is_last_stamp p) (not_zero (own_count e.xid p) any)
    ∙ last_stamp p b.memory.stamp runs.stamp most) went
