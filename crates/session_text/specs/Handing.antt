-- What the calls of a reader of lines do.
use Rattle.std.specs.Prelude.{◌≡◌, ℕ, ◌+◌, ◌==◌, ◌<◌, ◌≤◌, if◌then◌else◌, List, [], ◌∷◌, ◌++◌, length, drop, Option}
use Rattle.std.specs.Prelude.{Some, None}
use Rattle.std.specs.Str.Lines.{lines}
use Rattle.slon_base.specs.Outside.{Filed, top}
use Rattle.slon_base.specs.declared.fault.OutFault.{OutFault}
use Rattle.slon_base.specs.declared.fault.OutFault.TheVariants.{Failed as FileFailed, NoMemory as FileNoMemory}
use Rattle.session_text.specs.declared.line_reader.NextLine.{NextLine}
use Rattle.session_text.specs.declared.line_reader.NextLine.TheVariants.{Line, TooLong, End}
use Rattle.session_text.specs.declared.line_reader.ReadStop.{ReadStop}
use Rattle.session_text.specs.declared.line_reader.ReadStop.TheVariants.{Failed, NoMemory}
use Rattle.session_text.specs.Reading.{Reading, line_limit, line_size, session_limit}

-- the bytes before the first newline
abbrev pub front : List ℕ → List ℕ
front [] = []
front (c ∷ cs) = if c == 10 then [] else c ∷ front cs

-- the bytes behind the first newline, if there is one
abbrev pub behind : List ℕ → Option (List ℕ)
behind [] = None
behind (c ∷ cs) = if c == 10 then Some cs else behind cs

-- a fault of the files as a stop of the reader
abbrev pub stop_of : OutFault → ReadStop
stop_of FileFailed = Failed
stop_of FileNoMemory = NoMemory

-- what a call leaves as it was: the names, and all that was entered but for what is left of the file entered last
pub record Stays (old new : Filed) : Type 0 where
  pub faults : old.faults ≤ new.faults
  pub names : new.names ≡ old.names
  pub depth : length new.stack ≡ length old.stack
  pub others : drop 1 new.stack ≡ drop 1 old.stack

-- what is left of the file entered last is told, and these are the bytes to come
abbrev pub Comes : Reading → Filed → List ℕ → Type 0
Comes reader files bytes = (left : List ℕ) × (top files.stack ≡ Some left) × (bytes ≡ reader.unread ++ left)

-- The reading of a line broke off: this part of the bytes to come was read, which ends no line, and the rest is left in
-- the file. What was read lies within the limit of a session.
pub record Breaks (bytes : List ℕ) (taken : ℕ) (files : Filed) : Type 0 where
  pub part : List ℕ
  pub left : List ℕ
  pub whole : part ++ left ≡ bytes
  pub unended : behind part ≡ None
  pub is : top files.stack ≡ Some left
  pub within : taken + length part ≤ session_limit

-- what is handed over of the bytes to come, and the bytes to come after it
abbrev pub Takes : NextLine → List ℕ → List ℕ → List ℕ → Type 0
Takes Line line bytes rest = lines bytes ≡ line ∷ lines rest
Takes TooLong line bytes rest = (whole : List ℕ) × (line_limit < length whole) × (lines bytes ≡ whole ∷ lines rest)
Takes End line bytes rest = lines bytes ≡ []

-- whether a line is handed over, by its length
abbrev pub Measures : List ℕ → NextLine → Type 0
Measures line Line = length line ≤ line_limit
Measures line TooLong = line_limit < length line
Measures line End = ⊥

-- What a call hands over of the bytes to come, where they are told: the first line, whether it is short or too long,
-- and its newline. At the end there are none.
pub record Hands (line : List ℕ) (bytes : List ℕ) (old new : Reading) (files : Filed) (next : NextLine) : Type 0 where
  pub rest : List ℕ
  pub comes : Comes new files rest
  pub takes : Takes next line bytes rest
  pub left : rest ≡ drop (line_size bytes) bytes
  pub size : new.taken ≡ old.taken + line_size bytes
  pub taken : new.taken + length rest ≡ old.taken + length bytes
  pub none : next ≡ End → bytes ≡ []
