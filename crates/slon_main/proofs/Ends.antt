-- The end of a run, with its last line.
use Rattle.std.proofs.Common.{◌≡◌, ◌∙◌, ℕ, ◌≤◌, List, [], ◌∷◌, ◌++◌, append-nil, Option, Some, None, Err}
use Rattle.std.proofs.Common.{Bool, true, false, is_some, true≢false, refl, sym, ap, subst}
use Rattle.std.specs.FinMap.{empty}
use Rattle.std.specs.Option.{option_map}
use Rattle.slon_base.specs.Outside.{Filed, Poured, with_piece, WritesPart, Entered, HoldsFile, top}
use Rattle.slon_base.specs.Counts.{Rose}
use Rattle.slon_base.specs.Shelf.{Shelved}
use Rattle.slon_model.specs.declared.command.Command.{Command}
use Rattle.slon_model.specs.World.{lines_of, start}
use Rattle.session_reader.specs.Sessions.{Ended, BadAt, PastLimit, Session}
use Rattle.slon_main.specs.declared.status.Status.{Status}
use Rattle.slon_main.specs.declared.status.Status.TheVariants.{Done, Usage, BadLine, ReadFault, WriteFault, NoMemory}
use Rattle.slon_main.specs.declared.status.Status.TheVariants.{NoStore, Missing, TooLong}
use Rattle.slon_main.specs.declared.run.Stop.{Stop}
use Rattle.slon_main.specs.declared.run.Stop.TheVariants.{BadLine as StopsBad, Read as StopsRead, Write as StopsWrite}
use Rattle.slon_main.specs.declared.run.Stop.TheVariants.{NoMemory as StopsShort, NoStore as StopsNoStore}
use Rattle.slon_main.specs.declared.run.Stop.TheVariants.{TooLong as StopsLong}
use Rattle.cluster_engine.specs.Agreed.{Clustered}
use Rattle.slon_main.specs.Running.{Counts, Begun, Pieces, Starts, Ran, RanOn, RanInPart, RunsSession, StopsAt}
use Rattle.slon_main.specs.Ending.{Closes, Closed, Failed, Short, ClosesAt, Unread, AtFirst, InRead, EndsWhole}
use Rattle.slon_main.specs.Ending.{EndsInPart, InReply, InLast, EndsRun, EndsAt, FaultOnly, NoneRose, Told, Holds}
use Rattle.slon_main.specs.Ending.{hands_back, is_cut, is_run, is_whole, session_word, database_limit, bad_line}
use Rattle.slon_main.specs.Ending.{read_line}
use Rattle.slon_main.specs.Ending.{store_line, long_line}
use Rattle.cluster_engine.proofs.Knowing.{none_known}
use Rattle.cluster_engine.proofs.Walking.{none_fit, none_kept, none_wait}
use Rattle.slon_main.proofs.Causes.{rose_since}
use Rattle.slon_main.proofs.Runs.{ran_nothing}

-- what the ending of a session makes of the output, its status, and what it hands back
pub record Outcome (C : Type 0) : Type 0 where
  pub old : Poured
  pub new : Poured
  pub is : Status
  pub has : Option C

-- what holds in each case of an ending with a last line
pub record Cases {C : Type 0} (P : Status → Option C → Type 0) (line : List ℕ) (status : Status) (cluster : Option C)
    (o : Outcome C) : Type 0 where
  pub here : o.new.pieces ≡ with_piece line o.old.pieces → P status cluster
  pub failed : WritesPart line o.old.pieces o.new.pieces → Rose o.old.faults o.new.faults → P WriteFault None
  pub short : o.new.pieces ≡ o.old.pieces → P NoMemory None

-- an ending is the one with the line, or the output failed, or memory ran out
pub closed_by : {C : Type 0} (P : Status → Option C → Type 0) (line : List ℕ) (status : Status) (cluster : Option C)
    (o : Outcome C) →
    Cases P line status cluster o → Closes line status cluster o.old o.new o.is o.has → P o.is o.has
closed_by P line status cluster o cases (Closed same kept written later) =
    subst (λ s. P s o.has) (sym same) (subst (λ h. P status h) (sym kept) (cases.here written))
closed_by P line status cluster o cases (Failed same kept part rose) =
    subst (λ s. P s o.has) (sym same) (subst (λ h. P WriteFault h) (sym kept) (cases.failed part rose))
closed_by P line status cluster o cases (Short same kept written later) =
    subst (λ s. P s o.has) (sym same) (subst (λ h. P NoMemory h) (sym kept) (cases.short written))

-- the same, of what was written
ran_written : {shelf : Shelved} {said : List Command} {output : Pieces} {cluster : Clustered} →
    (ran : Ran shelf database_limit said output cluster) →
    Ran shelf database_limit said (Some (lines_of ran.history)) cluster
ran_written {shelf = shelf} {said = said} {cluster = cluster} ran =
    subst (λ output. Ran shelf database_limit said output cluster) ran.written ran

abbrev ran_on_written : {shelf : Shelved} {said : List Command} {output : Pieces} {cluster : Clustered} →
    (on : RanOn shelf database_limit said output cluster) →
    RanOn shelf database_limit said (Some (lines_of on.ran.history)) cluster
ran_on_written on = record { first = on.first; others = on.others; parts = on.parts; ran = ran_written on.ran }

line_after : (line : List ℕ) (output : List (List ℕ)) (old new : Pieces) → new ≡ with_piece line old →
    old ≡ Some output → new ≡ Some (output ++ line ∷ [])
line_after line output old new written is = written ∙ ap (with_piece line) is

-- a session: the shelf, what it says, and what was left of its file
pub record Sitting : Type 0 where
  pub shelf : Shelved
  pub told : Told
  pub unread : Unread

-- how it ends as the output now is
abbrev Ends : {C : Type 0} → Sitting → (C → Clustered) → Outcome C → Status → Option C → Type 0
Ends at f o status has = EndsRun at.shelf status at.told o.new.pieces at.unread (option_map f has)

-- the first commands of a session were run
abbrev RanFirst : Sitting → Pieces → Clustered → Type 0
RanFirst at output cluster = RanOn at.shelf database_limit at.told.said.commands output cluster

-- the status and the line with which it ends, where the output takes it
record Last : Type 0 where
  status : Status
  line : List ℕ

-- A run that stopped, with the line that comes last: what was written before it, how it ends once the line is written,
-- where the databases are handed back, and what was run.
record Stopping (at : Sitting) (last : Last) (cluster : Clustered) (old : Pieces) : Type 0 where
  before : List (List ℕ)
  was : old ≡ Some before
  other : last.status ≡ Done → ⊥
  whole : EndsWhole at.shelf last.status at.told (Some (before ++ last.line ∷ [])) at.unread cluster
  hands : (written : Pieces) → EndsWhole at.shelf last.status at.told written at.unread cluster →
      EndsRun at.shelf last.status at.told written at.unread (Some cluster)
  on : RanFirst at old cluster

cut_in : (at : Sitting) (last : Last) (cluster : Clustered) (old new : Pieces) → Stopping at last cluster old →
    WritesPart last.line old new → EndsInPart at.shelf at.told new at.unread
cut_in at last cluster old new s part =
    let told = subst (λ p. WritesPart last.line p new) s.was part in
    InLast last.status s.before last.line told.0 cluster s.other s.whole told.2

-- the ending after a stop with a last line, where the databases are handed back
ends_by : {C : Type 0} (at : Sitting) (f : C → Clustered) (last : Last) (cluster : C) (o : Outcome C) →
    Stopping at last (f cluster) o.old.pieces →
    Closes last.line last.status (Some cluster) o.old o.new o.is o.has → Ends at f o o.is o.has
ends_by at f last cluster o s closes =
    closed_by (Ends at f o) last.line last.status (Some cluster) o (record {
      here = λ written. s.hands o.new.pieces
          (subst (λ p. EndsWhole at.shelf last.status at.told p at.unread (f cluster))
          (sym (line_after last.line s.before o.old.pieces o.new.pieces written s.was)) s.whole);
      failed = λ part rose. cut_in at last (f cluster) o.old.pieces o.new.pieces s part;
      short = λ same. (f cluster, subst (λ p. RanFirst at p (f cluster)) (sym same) s.on);
    }) closes

all_on : {shelf : Shelved} {said : List Command} {output : Pieces} {cluster : Clustered} →
    Ran shelf database_limit said output cluster → RanOn shelf database_limit said output cluster
all_on {said = said} ran = record { first = said; others = []; parts = sym (append-nil said); ran = ran }

abbrev session_run : Shelved → Told → Begun
session_run shelf told =
    record { shelf = shelf; limit = database_limit; names = told.names; said = told.said }

stopping : (at : Sitting) (last : Last) (cluster : Clustered) (old : Pieces) (on : RanFirst at old cluster) →
    (last.status ≡ Done → ⊥) × ((written : Pieces) → EndsWhole at.shelf last.status at.told written at.unread cluster →
    EndsRun at.shelf last.status at.told written at.unread (Some cluster)) →
    EndsWhole at.shelf last.status at.told (Some (lines_of on.ran.history ++ last.line ∷ [])) at.unread cluster →
    Stopping at last cluster old
stopping at last cluster old on (other, hands) whole = record {
  before = lines_of on.ran.history;
  was = on.ran.written;
  other = other;
  whole = whole;
  hands = hands;
  on = on;
}

pub ends_stopped : {C : Type 0} (at : Sitting) (f : C → Clustered) (stop : Stop) (cluster : C) (o : Outcome C) →
    ClosesAt stop cluster o.old o.new o.is o.has ×
    RunsSession (session_run at.shelf at.told) o.old.pieces (f cluster) at.unread.now (Err stop) →
    EndsRun at.shelf o.is at.told o.new.pieces at.unread (option_map f o.has)
ends_stopped at f (StopsBad number) cluster o (closes, (ran, stop)) =
    ends_by at f (record { status = BadLine; line = bad_line number }) cluster o (record {
      before = lines_of ran.history;
      was = ran.written;
      other = λ is. cc;
      whole = (lines_of ran.history, number, ran_written ran, stop, refl);
      hands = λ written whole. whole;
      on = all_on ran;
    }) closes
ends_stopped at f StopsRead cluster o (closes, (on, broke)) =
    ends_by at f (record { status = ReadFault; line = read_line }) cluster o (stopping at _ (f cluster) o.old.pieces on
    (λ is. cc, λ written whole. whole) (lines_of on.ran.history, ran_on_written on, InRead broke, refl)) closes
ends_stopped at f StopsWrite cluster o (closes, part) =
    subst (λ s. Ends at f o s o.has) (sym closes.0)
    (InReply (subst (λ (p : Poured). RanInPart at.shelf database_limit at.told.said.commands p.pieces)
    (sym closes.2) part))
ends_stopped at f StopsShort cluster o (closes, on) =
    subst (λ s. Ends at f o s o.has) (sym closes.0)
    (on.0, subst (λ (p : Poured). RanFirst at p.pieces on.0) (sym closes.2) on.1)
ends_stopped at f (StopsNoStore name) cluster o (closes, (on, making)) =
    ends_by at f (record { status = NoStore; line = store_line name }) cluster o
    (stopping at _ (f cluster) o.old.pieces on
    (λ is. cc, λ written whole. whole) (lines_of on.ran.history, name, ran_on_written on, making, refl)) closes
ends_stopped at f StopsLong cluster o (closes, (ran, end)) =
    ends_by at f (record { status = TooLong; line = long_line }) cluster o (record {
      before = lines_of ran.history;
      was = ran.written;
      other = λ is. cc;
      whole = (lines_of ran.history, ran_written ran, end, refl);
      hands = λ written whole. whole;
      on = all_on ran;
    }) closes

-- what is left of the session's file once that is left
pub left_unread : (b : Begun) (written : Pieces) (cluster : Clustered) (before now : Option (List ℕ)) (stop : Stop) →
    now ≡ before → RunsSession b written cluster before (Err stop) →
    RunsSession b written cluster now (Err stop)
left_unread b written cluster before now stop same runs =
    subst (λ u. RunsSession b written cluster u (Err stop)) (sym same) runs

-- the session could not be entered
pub ends_unentered : {C : Type 0} (at : Sitting) (f : C → Clustered) (cluster : C) (o : Outcome C) →
    at.unread.now ≡ at.unread.was → (Starts database_limit (f cluster)) × (o.old.pieces ≡ Some []) →
    Closes read_line ReadFault (Some cluster) o.old o.new o.is o.has →
    EndsRun at.shelf o.is at.told o.new.pieces at.unread (option_map f o.has)
ends_unentered at f cluster o same (starts, empty) closes =
    let on =
    ran_nothing at.shelf database_limit at.told.said.commands o.old.pieces (f cluster) empty starts in
    ends_by at f (record { status = ReadFault; line = read_line }) cluster o (record {
      before = [];
      was = empty;
      other = λ is. cc;
      whole = ([], ran_on_written on, AtFirst same refl, refl);
      hands = λ written whole. whole;
      on = on;
    }) closes

-- there was no memory before the first line
pub ends_short : (shelf : Shelved) (told : Told) (unread : Unread) (written : Pieces) (status : Status)
    (has : Option Clustered) → status ≡ NoMemory → written ≡ Some [] → EndsRun shelf status told written unread has
ends_short shelf told unread written status has is none =
    subst (λ s. EndsRun shelf s told written unread has) (sym is) (
      bare,
      ran_nothing shelf database_limit told.said.commands written bare none (record {
        agrees = record {
          limit = refl;
          fits = tt;
          memory = record { scripts = none_fit empty refl; switches = refl; waits = none_wait empty refl };
          keeps = λ name up. none_kept empty refl name;
          known = λ name. none_known (start database_limit) empty refl name;
        };
        given = refl;
      }),
    )
  where
    bare : Clustered
    bare = record {
      limit = database_limit;
      given = 0;
      bases = [];
      memory = record { scripts = empty; switches = record { started = []; cuts = [] }; held = empty };
    }

-- where the session could not be entered
pub read_faults : {C : Type 0} (line : List ℕ) (cluster : Option C) (before behind shelf : ℕ) (o : Outcome C) →
    Rose before behind × Closes line ReadFault cluster o.old o.new o.is o.has →
    FaultOnly o.is (record { files = before; shelf = shelf; out = o.old.faults })
    (record { files = behind; shelf = shelf; out = o.new.faults })
read_faults line cluster before behind shelf o (rose, closes) =
    closed_by (λ s h. FaultOnly s (record { files = before; shelf = shelf; out = o.old.faults })
    (record { files = behind; shelf = shelf; out = o.new.faults }))
    line ReadFault cluster o (record { here = λ written. rose; failed = λ part failed. failed; short = λ same. tt })
    closes

-- it is lost, and neither refused for its words nor missing
abbrev other_ending : Status → Bool
other_ending ReadFault = true
other_ending others = is_cut others

read_other : {C : Type 0} (line : List ℕ) (cluster : Option C) (o : Outcome C) →
    Closes line ReadFault cluster o.old o.new o.is o.has →
    other_ending o.is ≡ true
read_other line cluster o closes =
    closed_by (λ s h. other_ending s ≡ true) line ReadFault cluster o
    (record { here = λ written. refl; failed = λ part failed. refl; short = λ same. refl }) closes

pub read_no_usage : {C : Type 0} (line : List ℕ) (cluster : Option C) (o : Outcome C) →
    Closes line ReadFault cluster o.old o.new o.is o.has →
    o.is ≡ Usage → ⊥
read_no_usage line cluster o closes same = true≢false (sym (read_other line cluster o closes) ∙ ap other_ending same)

pub read_no_missing : {C : Type 0} (line : List ℕ) (cluster : Option C) (o : Outcome C) →
    Closes line ReadFault cluster o.old o.new o.is o.has →
    o.is ≡ Missing → ⊥
read_no_missing line cluster o closes same = true≢false (sym (read_other line cluster o closes) ∙ ap other_ending same)

by_pair : {C : Type 0} (is status : Status) (has : Option C) → is ≡ status → has ≡ None → hands_back status ≡ false →
    is_some has ≡ hands_back is
by_pair is status has same none hands = ap is_some none ∙ sym (ap hands_back same ∙ hands)

-- an ending with a last line hands the databases back where its status does
hands_closed : {C : Type 0} (line : List ℕ) (status : Status) (cluster : C) (o : Outcome C) → hands_back status ≡ true →
    Closes line status (Some cluster) o.old o.new o.is o.has → is_some o.has ≡ hands_back o.is
hands_closed line status cluster o hands closes =
    closed_by (λ s h. is_some h ≡ hands_back s) line status (Some cluster) o
    (record { here = λ written. sym hands; failed = λ part failed. refl; short = λ same. refl }) closes

pub hands_stopped : {C : Type 0} (stop : Stop) (cluster : C) (o : Outcome C) →
    ClosesAt stop cluster o.old o.new o.is o.has →
    is_some o.has ≡ hands_back o.is
hands_stopped (StopsBad number) cluster o closes = hands_closed (bad_line number) BadLine cluster o refl closes
hands_stopped StopsRead cluster o closes = hands_closed read_line ReadFault cluster o refl closes
hands_stopped StopsWrite cluster o closes = by_pair o.is WriteFault o.has closes.0 closes.1 refl
hands_stopped StopsShort cluster o closes = by_pair o.is NoMemory o.has closes.0 closes.1 refl
hands_stopped (StopsNoStore name) cluster o closes = hands_closed (store_line name) NoStore cluster o refl closes
hands_stopped StopsLong cluster o closes = hands_closed long_line TooLong cluster o refl closes

-- where it ends
at_closed : {C : Type 0} (said : Session) (line : List ℕ) (status : Status) (cluster : Option C) (o : Outcome C) →
    EndsAt status said →
    Closes line status cluster o.old o.new o.is o.has → EndsAt o.is said
at_closed said line status cluster o at closes =
    closed_by (λ s h. EndsAt s said) line status cluster o
    (record { here = λ written. at; failed = λ part failed. tt; short = λ same. tt }) closes

pub at_stopped : {C : Type 0} (said : Session) (stop : Stop) (cluster : C) (o : Outcome C) →
    ClosesAt stop cluster o.old o.new o.is o.has →
    StopsAt said (Err stop) → EndsAt o.is said
at_stopped said (StopsBad number) cluster o closes at =
    at_closed said (bad_line number) BadLine (Some cluster) o (number, at) closes
at_stopped said StopsRead cluster o closes at = at_closed said read_line ReadFault (Some cluster) o tt closes
at_stopped said StopsWrite cluster o closes at = subst (λ s. EndsAt s said) (sym closes.0) tt
at_stopped said StopsShort cluster o closes at = subst (λ s. EndsAt s said) (sym closes.0) tt
at_stopped said (StopsNoStore name) cluster o closes at = at_closed said (store_line name) NoStore
    (Some cluster) o tt closes
at_stopped said StopsLong cluster o closes at = at_closed said long_line TooLong (Some cluster) o at closes

-- the session that was entered
pub entered_top : (words : List (List ℕ)) (told : Told) (word : List ℕ) (old : Filed)
    (stack : List (Option (List ℕ))) → (holds : Holds words told old) →
    session_word words ≡ Some word → Entered word old stack true → top stack ≡ Some holds.bytes
entered_top words told word old stack holds is (left, stack_is, holds_file, told_so) =
    let one : holds.name ≡ word = cc in
    let held : left ≡ told.names word = subst (λ n. HoldsFile n word left) holds.names holds_file in
    ap top stack_is ∙ held ∙ ap told.names (sym one) ∙ holds.holds

-- a fault since an earlier count
pub fault_since : (status : Status) (old mid new : Counts) → old.files ≤ mid.files → old.shelf ≤ mid.shelf →
    old.out ≤ mid.out → FaultOnly status mid new → FaultOnly status old new
fault_since ReadFault old mid new files shelf out only = rose_since old.files mid.files new.files files only
fault_since WriteFault old mid new files shelf out only = rose_since old.out mid.out new.out out only
fault_since NoStore old mid new files shelf out only = rose_since old.shelf mid.shelf new.shelf shelf only
fault_since others old mid new files shelf out only = tt

-- a session without a bad line that is short enough runs to its end, unless there is no memory
pub ends_whole : (said : Session) (status : Status) (old new : Counts) →
    (is_run status ≡ true) × FaultOnly status old new → EndsAt status said →
    said.end ≡ Ended → NoneRose old new → is_whole status ≡ true
ends_whole said Usage old new (run, only) at whole none = run
ends_whole said BadLine old new (run, only) at whole none =
    let bad : Ended ≡ BadAt at.0 = sym whole ∙ at.1 in absurd cc
ends_whole said ReadFault old new (run, only) at whole none = absurd (none.files only)
ends_whole said WriteFault old new (run, only) at whole none = absurd (none.out only)
ends_whole said NoStore old new (run, only) at whole none = absurd (none.shelf only)
ends_whole said Missing old new (run, only) at whole none = run
ends_whole said TooLong old new (run, only) at whole none =
    let long : Ended ≡ PastLimit = sym whole ∙ at in absurd cc
ends_whole said others old new (run, only) at whole none = refl
