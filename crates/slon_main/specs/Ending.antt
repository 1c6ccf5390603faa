-- How a session ends, and what is written last.
use Rattle.std.specs.Prelude.{not, ◌≡◌, ℕ, ◌==◌, ◌≤◌, ◌&&◌, if◌then◌else◌, Bool, true, false, List, [], ◌∷◌, ◌++◌}
use Rattle.std.specs.Prelude.{take, drop, codes, Option, Some, None}
use Rattle.std.specs.Fmt.{decimal}
use Rattle.slon_base.specs.Counts.{Rose}
use Rattle.slon_base.specs.Outside.{Filed, Poured, with_piece, WritesPart}
use Rattle.slon_base.specs.Shelf.{Shelved}
use Rattle.slon_model.specs.declared.command.Command.{Command}
use Rattle.session_reader.specs.Sessions.{Ended, BadAt, PastLimit, Session, session_of}
use Rattle.slon_main.specs.declared.status.Status.{Status}
use Rattle.slon_main.specs.declared.status.Status.TheVariants.{Done, Usage, BadLine, ReadFault, WriteFault, NoMemory}
use Rattle.slon_main.specs.declared.status.Status.TheVariants.{NoStore, Missing, TooLong}
use Rattle.slon_main.specs.declared.run.Stop.{Stop}
use Rattle.slon_main.specs.declared.run.Stop.TheVariants.{BadLine as StopsBad, Read as StopsRead, Write as StopsWrite}
use Rattle.slon_main.specs.declared.run.Stop.TheVariants.{NoMemory as StopsShort, NoStore as StopsNoStore}
use Rattle.slon_main.specs.declared.run.Stop.TheVariants.{TooLong as StopsLong}
use Rattle.cluster_engine.specs.Agreed.{Clustered}
use Rattle.slon_main.specs.Running.{Counts, Pieces, Ran, RanOn, RanInPart, IsMaking, IsUnread}

-- the greatest number of databases of a session
abbrev pub database_limit : ℕ
database_limit = 16

-- an option and no name: the word begins with `-`
abbrev pub is_option : List ℕ → Bool
is_option [] = false
is_option (c ∷ cs) = c == 45

-- the name of the session, where the words are this name and nothing else
abbrev pub session_word : List (List ℕ) → Option (List ℕ)
session_word (word ∷ []) = if is_option word then None else Some word
session_word words = None

-- the last lines
abbrev pub usage_line : List ℕ
usage_line = codes "usage: slonrun [--store DIR] [--databases N] [--gen N] [SESSION]\n"

abbrev pub bad_line : ℕ → List ℕ
bad_line number = codes "stop line " ++ decimal number ++ codes "\n"

abbrev pub read_line : List ℕ
read_line = codes "stop read\n"

abbrev pub store_line : List ℕ → List ℕ
store_line name = codes "stop store " ++ name ++ codes "\n"

abbrev pub missing_line : List ℕ → List ℕ
missing_line name = codes "stop missing " ++ name ++ codes "\n"

abbrev pub long_line : List ℕ
long_line = codes "stop long\n"

-- an ending with a last line: the line is written, or the output fails in it, or memory runs out and nothing is
-- written; the databases are handed back only in the first case
pub data Closes {C : Type 0} (line : List ℕ) (status : Status) (cluster : Option C) (old new : Poured) (is : Status)
    (has : Option C) : Type 0 where
  Closed : is ≡ status → has ≡ cluster → new.pieces ≡ with_piece line old.pieces → old.faults ≤ new.faults →
      Closes line status cluster old new is has
  Failed : is ≡ WriteFault → has ≡ None → WritesPart line old.pieces new.pieces → Rose old.faults new.faults →
      Closes line status cluster old new is has
  Short : is ≡ NoMemory → has ≡ None → new.pieces ≡ old.pieces → old.faults ≤ new.faults →
      Closes line status cluster old new is has

-- the ending after a stop
abbrev pub ClosesAt : {C : Type 0} → Stop → C → Poured → Poured → Status → Option C → Type 0
ClosesAt (StopsBad number) cluster old new is has = Closes (bad_line number) BadLine (Some cluster) old new is has
ClosesAt StopsRead cluster old new is has = Closes read_line ReadFault (Some cluster) old new is has
ClosesAt StopsWrite cluster old new is has = (is ≡ WriteFault) × (has ≡ None) × (new ≡ old)
ClosesAt StopsShort cluster old new is has = (is ≡ NoMemory) × (has ≡ None) × (new ≡ old)
ClosesAt (StopsNoStore name) cluster old new is has = Closes (store_line name) NoStore (Some cluster) old new is has
ClosesAt StopsLong cluster old new is has = Closes long_line TooLong (Some cluster) old new is has

-- the endings at which the last line may be cut
abbrev pub is_cut : Status → Bool
is_cut WriteFault = true
is_cut NoMemory = true
is_cut others = false

-- the endings of a session that was entered
abbrev pub is_run : Status → Bool
is_run Usage = false
is_run Missing = false
is_run others = true

-- the databases are handed back exactly at these: the session was entered, and its last line is whole
abbrev pub hands_back : Status → Bool
hands_back status = is_run status && not (is_cut status)

-- an ending for a fault comes only where the count of that object rose
abbrev pub FaultOnly : Status → Counts → Counts → Type 0
FaultOnly ReadFault old new = Rose old.files new.files
FaultOnly WriteFault old new = Rose old.out new.out
FaultOnly NoStore old new = Rose old.shelf new.shelf
FaultOnly others old new = Unit {0}

-- the endings of a session that is not there
abbrev pub is_lost : Status → Bool
is_lost ReadFault = true
is_lost Missing = true
is_lost others = is_cut others

-- the endings of words that are no session's name
abbrev pub is_refused : Status → Bool
is_refused Usage = true
is_refused others = is_cut others

-- what was left of the file that was left last, before a session and after it
pub record Unread : Type 0 where
  pub was : Option (List ℕ)
  pub now : Option (List ℕ)

abbrev pub unread : Filed → Filed → Unread
unread old new = record { was = old.unread; now = new.unread }

-- what a session is: the names of files with what they hold, and what it says
pub record Told : Type 0 where
  pub names : List ℕ → Option (List ℕ)
  pub said : Session

abbrev pub told_of : (List ℕ → Option (List ℕ)) → List ℕ → Told
told_of names bytes = record { names = names; said = session_of names bytes }

-- A file failed: the session could not be entered, and nothing was run; or a read of it, or of a file that one of its
-- scripts includes, failed.
pub data BrokeOff (told : Told) (unread : Unread) (others : List Command) : Type 0 where
  AtFirst : unread.now ≡ unread.was → others ≡ told.said.commands → BrokeOff told unread others
  InRead : IsUnread told.names unread.now others → BrokeOff told unread others

-- What is written and handed back at the end of this session, at its first bad line and where there are too many bytes:
-- the replies to exactly the commands before, as the rules allow, and databases that agree with the rules. Without a
-- store these are the replies to all commands before the one that was to make the database, and where a file fails
-- exactly those of what was read whole.
abbrev pub EndsWhole : Shelved → Status → Told → Pieces → Unread → Clustered → Type 0
EndsWhole shelf Done told written unread cluster =
    Ran shelf database_limit told.said.commands written cluster × (told.said.end ≡ Ended)
EndsWhole shelf BadLine told written unread cluster =
    (output : List (List ℕ)) × (number : ℕ) × Ran shelf database_limit told.said.commands (Some output) cluster
    × (told.said.end ≡ BadAt number) × (written ≡ Some (output ++ bad_line number ∷ []))
EndsWhole shelf ReadFault told written unread cluster =
    (output : List (List ℕ)) × (on : RanOn shelf database_limit told.said.commands (Some output) cluster)
    × BrokeOff told unread on.others × (written ≡ Some (output ++ read_line ∷ []))
EndsWhole shelf NoStore told written unread cluster =
    (output : List (List ℕ)) × (name : List ℕ) × (on : RanOn shelf database_limit told.said.commands (Some output)
    cluster) × IsMaking name cluster on.others × (written ≡ Some (output ++ store_line name ∷ []))
EndsWhole shelf TooLong told written unread cluster =
    (output : List (List ℕ)) × Ran shelf database_limit told.said.commands (Some output) cluster
    × (told.said.end ≡ PastLimit) × (written ≡ Some (output ++ long_line ∷ []))
EndsWhole shelf others told written unread cluster = ⊥

-- What is written where the output failed: whole lines and the first bytes of one more, which is the line of a reply,
-- or the last line of a session that stopped.
pub data EndsInPart (shelf : Shelved) (told : Told) (written : Pieces) (unread : Unread) : Type 0 where
  InReply : RanInPart shelf database_limit told.said.commands written → EndsInPart shelf told written unread
  InLast : (status : Status) (before : List (List ℕ)) (line : List ℕ) (n : ℕ) (cluster : Clustered) →
      (status ≡ Done → ⊥) → EndsWhole shelf status told (Some (before ++ line ∷ [])) unread cluster →
      written ≡ Some (before ++ take n line ∷ []) → EndsInPart shelf told written unread

-- What is written and handed back, by the status. Where memory ran out, whole lines were written and nothing else.
abbrev pub EndsRun : Shelved → Status → Told → Pieces → Unread → Option Clustered → Type 0
EndsRun shelf Usage told written unread cluster = Unit {0}
EndsRun shelf Missing told written unread cluster = Unit {0}
EndsRun shelf WriteFault told written unread cluster = EndsInPart shelf told written unread
EndsRun shelf NoMemory told written unread cluster =
    (c : Clustered) × RanOn shelf database_limit told.said.commands written c
EndsRun shelf status told written unread (Some cluster) = EndsWhole shelf status told written unread cluster
EndsRun shelf status told written unread None = ⊥

-- Where the run of a session ends: at its end, at its first bad line, or where it and the files that it includes hold
-- too many bytes.
abbrev pub EndsAt : Status → Session → Type 0
EndsAt Done said = said.end ≡ Ended
EndsAt BadLine said = (number : ℕ) × (said.end ≡ BadAt number)
EndsAt TooLong said = said.end ≡ PastLimit
EndsAt others said = Unit {0}

-- the endings where nothing failed and nothing is wrong with the session
abbrev pub is_whole : Status → Bool
is_whole Done = true
is_whole NoMemory = true
is_whole others = false

-- no object failed
pub record NoneRose (old new : Counts) : Type 0 where
  pub files : Rose old.files new.files → ⊥
  pub shelf : Rose old.shelf new.shelf → ⊥
  pub out : Rose old.out new.out → ⊥

-- The files tell what the names hold, and under the name that the words give they hold the bytes of this session.
pub record Holds (words : List (List ℕ)) (told : Told) (files : Filed) : Type 0 where
  pub name : List ℕ
  pub bytes : List ℕ
  pub word : session_word words ≡ Some name
  pub names : files.names ≡ Some told.names
  pub holds : told.names name ≡ Some bytes
  pub says : told.said ≡ session_of told.names bytes

-- The files tell what they hold, and hold nothing under the name that the words give.
pub record Lacks (words : List (List ℕ)) (files : Filed) : Type 0 where
  pub name : List ℕ
  pub word : session_word words ≡ Some name
  pub names : List ℕ → Option (List ℕ)
  pub told : files.names ≡ Some names
  pub lacks : names name ≡ None

-- why a session is said to be missing, and what is written then
pub record MissingOnly (words : List (List ℕ)) (files : Filed) (old new : Poured) : Type 0 where
  pub name : List ℕ
  pub word : session_word words ≡ Some name
  pub lacks : (names : List ℕ → Option (List ℕ)) → files.names ≡ Some names → names name ≡ None
  pub written : new.pieces ≡ with_piece (missing_line name) old.pieces

-- why the words are refused, and what is written then
pub record UsageOnly (words : List (List ℕ)) (old new : Poured) : Type 0 where
  pub word : session_word words ≡ None
  pub written : new.pieces ≡ with_piece usage_line old.pieces

-- what the run of a session that was entered leaves of the files: it was left, and the others are as they were
pub record LeavesIt (old new : Filed) : Type 0 where
  pub names : new.names ≡ old.names
  pub stack : new.stack ≡ drop 1 old.stack
