-- What the calls of a reader of sessions answer.
use Rattle.std.specs.Prelude.{◌≡◌, ℕ, ◌-◌, List, Option, Some, None, Result, Ok, Err, IsErrOf}
use Rattle.std.specs.Str.Lines.{lines}
use Rattle.slon_base.specs.Outside.{Filed}
use Rattle.slonik_script.specs.declared.script.Script.{Script}
use Rattle.slonik_tokens.specs.declared.fault.ParseFault.{ParseFault}
use Rattle.slonik_tokens.specs.declared.fault.ParseFault.TheVariants.{Refused, ReadFault as FileFault, TooLong}
use Rattle.slonik_tokens.specs.declared.fault.ParseFault.TheVariants.{NoMemory as NoRoom}
use Rattle.slon_model.specs.declared.command.Command.{Command}
use Rattle.slon_model.specs.declared.reading.Reading.{Reading as Read}
use Rattle.slon_model.specs.declared.reading.Reading.TheVariants as read
use Rattle.slon_model.specs.Lines.{Meaning, Silent, Says, Bad}
use Rattle.session_text.specs.Reading.{Reading, session_limit}
use Rattle.session_text.specs.Handing.{Comes, Breaks}
use Rattle.session_text.specs.declared.read.LineFault.{LineFault}
use Rattle.session_text.specs.declared.read.LineFault.TheVariants as line_fault
use Rattle.session_text.specs.declared.line_reader.ReadStop.{ReadStop}
use Rattle.session_text.specs.declared.line_reader.ReadStop.TheVariants as stop
use Rattle.session_reader.specs.declared.fault.ReadFault.{ReadFault}
use Rattle.session_reader.specs.declared.fault.ReadFault.TheVariants.{BadLine, Failed, NoMemory, PastLimit}
use Rattle.session_reader.specs.declared.line.Said.{Said}
use Rattle.session_reader.specs.declared.line.Said.TheVariants as said
use Rattle.session_reader.specs.Sessions.{sized, Block, IsRead, IsLong, block_of, Mode, Between, Ended, BadAt}
use Rattle.session_reader.specs.Sessions.{PastLimit as Beyond, Session, stopped, in_front, ended, Ahead, closed}
use Rattle.session_reader.specs.Sessions.{next_of, line_says, session_from}

-- A reader of sessions: the reader of its lines, the line that was read last, and the number of the next one.
pub record Fetching : Type 0 where
  pub lines : Reading
  pub line : List ℕ
  pub number : ℕ

-- how many bytes may still be read
abbrev pub left_of : Fetching → ℕ
left_of reader = session_limit - reader.lines.taken

-- what these bytes say behind a line, where the next line has this number
abbrev pub ahead_of : (List ℕ → Option (List ℕ)) → ℕ → List ℕ → Ahead
ahead_of names number bytes = λ mode left. session_from names mode number left (sized (lines bytes) bytes)

-- what a session says of which these bytes are to come
abbrev pub to_come : (List ℕ → Option (List ℕ)) → Mode → Fetching → List ℕ → Session
to_come names mode reader bytes =
    session_from names mode reader.number (left_of reader) (sized (lines bytes) bytes)

-- ---- faults of what is called

abbrev pub fault_of : LineFault → ReadFault
fault_of (line_fault.BadLine number) = BadLine number
fault_of line_fault.NoMemory = NoMemory

abbrev pub stop_of : ReadStop → ReadFault
stop_of stop.Failed = Failed
stop_of stop.NoMemory = NoMemory
stop_of stop.PastLimit = PastLimit

-- what a text is read as
abbrev pub parsed_as : Result Script ParseFault → Result Read ReadFault
parsed_as (Ok script) = Ok (read.Read script)
parsed_as (Err (Refused refusal)) = Ok (read.Wrong refusal)
parsed_as (Err FileFault) = Err Failed
parsed_as (Err TooLong) = Err PastLimit
parsed_as (Err NoRoom) = Err NoMemory

-- ---- what is answered, unless memory runs out or the files fail

-- The session was read to this end. Where memory ran out or the files failed, nothing is said.
abbrev pub Stops : Session → ReadFault → Type 0
Stops before (BadLine number) = before ≡ stopped (BadAt number)
Stops before PastLimit = before ≡ stopped Beyond
Stops before Failed = Unit {0}
Stops before NoMemory = Unit {0}

-- a line between scripts opens this one and means that, and this was read
abbrev pub IsSaid : ℕ → Option (List ℕ) → Meaning → Result Said ReadFault → Type 0
IsSaid number opens meant (Ok (said.Opening name)) = opens ≡ Some name
IsSaid number opens meant (Ok said.Nothing) = (opens ≡ None) × (meant ≡ Silent)
IsSaid number opens meant (Ok (said.Command command)) = (opens ≡ None) × (meant ≡ Says command)
IsSaid number opens meant (Err (BadLine bad)) = (opens ≡ None) × (meant ≡ Bad) × (bad ≡ number)
IsSaid number opens meant (Err NoMemory) = Unit {0}
IsSaid number opens meant (Err Failed) = ⊥
IsSaid number opens meant (Err PastLimit) = ⊥

-- a text is this block, and this is left
abbrev pub IsBlock : Block → Result Read ReadFault → ℕ → Type 0
IsBlock block (Ok reading) left = block ≡ IsRead reading left
IsBlock block (Err PastLimit) left = block ≡ IsLong
IsBlock block (Err (BadLine number)) left = ⊥
IsBlock block (Err Failed) left = Unit {0}
IsBlock block (Err NoMemory) left = Unit {0}

-- The next line of the bytes to come was read, whatever the mode and the names; or there is none.
abbrev pub ReadsLine : List ℕ → Fetching → Fetching → Filed → Result (Option ℕ) ReadFault → Type 0
ReadsLine bytes old new files (Ok (Some number)) =
    (rest : List ℕ) × Comes new.lines files rest × ((names : List ℕ → Option (List ℕ)) (mode : Mode)
    → to_come names mode old bytes
    ≡ line_says names mode (next_of number (left_of new) new.line) (ahead_of names new.number rest))
ReadsLine bytes old new files (Ok None) =
    (names : List ℕ → Option (List ℕ)) (mode : Mode) → to_come names mode old bytes ≡ ended mode
ReadsLine bytes old new files (Err fault) =
    (names : List ℕ → Option (List ℕ)) (mode : Mode) → Stops (to_come names mode old bytes) fault

-- the text of the script of this name was read up to the line that closes it
abbrev pub ReadsText : {X : Type 0} → (X → List ℕ) → (List ℕ → Option (List ℕ)) → List ℕ → Session → Fetching
    → Filed → Result X ReadFault → Type 0
ReadsText view names name before new files (Ok text) =
    (rest : List ℕ) × Comes new.lines files rest
    × (before ≡ closed name (block_of names (left_of new) (view text)) (ahead_of names new.number rest))
ReadsText view names name before new files (Err fault) = Stops before fault

-- What was said before the call is this command, in front of what is said after it; or it is this end.
abbrev pub FetchesOne : (List ℕ → Option (List ℕ)) → Session → Fetching → Filed → Result Command ReadFault → Type 0
FetchesOne names before new files (Ok command) =
    (rest : List ℕ) × Comes new.lines files rest × (before ≡ in_front command (to_come names Between new rest))
FetchesOne names before new files (Err fault) = Stops before fault

abbrev pub Fetches : (List ℕ → Option (List ℕ)) → Session → Fetching → Filed → Result (Option Command) ReadFault
    → Type 0
Fetches names before new files (Ok (Some command)) = FetchesOne names before new files (Ok command)
Fetches names before new files (Ok None) = before ≡ stopped Ended
Fetches names before new files (Err fault) = Stops before fault

-- ---- where the files fail

-- The files failed, and this is what was handed over whole: the lines before these bytes, of which the first line broke
-- off, in whatever mode; or the lines up to the one that closes a script, which these bytes are behind, when a file was
-- read that it includes.
pub data Broken (names : List ℕ → Option (List ℕ)) (before : Session) (new : Fetching) (files : Filed) : Type 0 where
  InLine : (mode : Mode) (number taken : ℕ) (rest : List ℕ) → Breaks rest taken files →
      before ≡ session_from names mode number (session_limit - taken) (sized (lines rest) rest) →
      Broken names before new files
  InFile : (name text : List ℕ) (left : ℕ) (rest : List ℕ) → Comes new.lines files rest →
      before ≡ closed name (block_of names left text) (ahead_of names new.number rest) →
      Broken names before new files

-- where a call failed because of the files
abbrev pub BreaksOff : {T : Type 0} → (List ℕ → Option (List ℕ)) → Session → Fetching → Filed → Result T ReadFault
    → Type 0
BreaksOff names before new files result = IsErrOf result Failed → Broken names before new files
