-- What the bytes of a session that may hold scripts say: its commands, and how it ends.
use Rattle.std.specs.Prelude.{ℕ, ◌+◌, ◌-◌, ◌&&◌, if◌then◌else◌, nat_lt, Bool, false, List, [], ◌∷◌, ◌++◌, length}
use Rattle.std.specs.Prelude.{drop, codes, Option, Some, None, Result, Ok, Err}
use Rattle.std.specs.Str.{bytes_eq, is_utf8}
use Rattle.std.specs.Str.Lines.{lines}
use Rattle.slonik_script.specs.declared.refusal.ScriptRefusal.{ScriptRefusal}
use Rattle.slonik_script.specs.declared.refusal.ScriptRefusal.TheVariants.{BadToken}
use Rattle.slonik_script.specs.declared.script.Script.{Script}
use Rattle.slonik_tokens.specs.Cut.{cut_of}
use Rattle.slonik_tokens.specs.declared.token.Token.{Token}
use Rattle.slonik_expand.specs.Expansion.{Ending, Made, Wrong as Refuses, Long, expansion_of}
use Rattle.slonik_parse.specs.Outcomes.{script_in}
use Rattle.slon_model.specs.declared.command.Command.{Command}
use Rattle.slon_model.specs.declared.command.Command.TheVariants.{Slonik}
use Rattle.slon_model.specs.declared.reading.Reading.{Reading}
use Rattle.slon_model.specs.declared.reading.Reading.TheVariants.{Read, Wrong}
use Rattle.slon_model.specs.Lines.{Meaning, Silent, Says, Bad, meaning, words}
use Rattle.session_text.specs.Commands.{name_in}
use Rattle.session_text.specs.Reading.{line_limit, line_size, session_limit}

-- a line, and how many bytes of the session it takes
pub record Sized : Type 0 where
  pub line : List ℕ
  pub size : ℕ

-- these lines of these bytes
abbrev pub sized : List (List ℕ) → List ℕ → List Sized
sized [] bytes = []
sized (line ∷ more) bytes =
    record { line = line; size = line_size bytes } ∷ sized more (drop (line_size bytes) bytes)

-- a line is short, and a text
abbrev pub is_readable : List ℕ → Bool
is_readable line = if nat_lt line_limit (length line) then false else is_utf8 line

-- ---- the line that opens a script

abbrev pub opening_of : List (List ℕ) → Option (List ℕ)
opening_of (verb ∷ name ∷ sign ∷ []) =
    if bytes_eq verb (codes "slonik") && bytes_eq sign (codes "<<") then name_in name else None
opening_of others = None

-- the name of the script that the line opens: `slonik NAME <<`
unfoldable pub opening : List ℕ → Option (List ℕ)
opening line = if is_readable line then opening_of (words line) else None

-- the line that closes a script
abbrev pub closing : List ℕ
closing = codes ">>"

-- ---- the text of a script is read

-- what a text is read as, and how many bytes are left for what is read behind it; or the files hold too many
pub data Block : Type 0 where
  IsRead : (reading : Reading) → (left : ℕ) → Block
  IsLong : Block

abbrev pub reading_of : Result Script ScriptRefusal → Reading
reading_of (Ok script) = Read script
reading_of (Err refusal) = Wrong refusal

abbrev pub block_made : Ending → Block
block_made (Made making) = IsRead (reading_of (script_in making.out)) making.left
block_made (Refuses refusal rest) = IsRead (Wrong refusal) rest
block_made Long = IsLong

abbrev pub block_cut : (List ℕ → Option (List ℕ)) → ℕ → Result (List Token) ℕ → Block
block_cut names left (Ok tokens) = block_made (expansion_of names left tokens)
block_cut names left (Err line) = IsRead (Wrong (BadToken line)) left

-- what a text is read as over the files that these names have, where this number of bytes is left
unfoldable pub block_of : (List ℕ → Option (List ℕ)) → ℕ → List ℕ → Block
block_of names left text = block_cut names left (cut_of text)

-- ---- a session

-- Where a line stands: between the scripts, or within the script of a name, which was opened in the line of a number
-- and whose text this is so far.
pub data Mode : Type 0 where
  Between : Mode
  Within : (name : List ℕ) → (opened : ℕ) → (text : List ℕ) → Mode

-- How a session ends: with its last line, at the bad line of a number, or where it and its files hold too many bytes.
pub data End : Type 0 where
  Ended : End
  BadAt : (line : ℕ) → End
  PastLimit : End

-- What a session says: its commands, and how it ends.
pub record Session : Type 0 where
  pub commands : List Command
  pub end : End

-- no commands, and this end
abbrev pub stopped : End → Session
stopped end = record { commands = []; end = end }

-- the command in front of those of a session
abbrev pub in_front : Command → Session → Session
in_front command session = record { commands = command ∷ session.commands; end = session.end }

-- the end of the file
abbrev pub ended : Mode → Session
ended Between = stopped Ended
ended (Within name opened text) = stopped (BadAt opened)

-- what the lines behind one say, in the mode and with the bytes that are left then
abbrev pub Ahead : Type 0
Ahead = Mode → ℕ → Session

-- a line between the scripts, which opens a script or means this
abbrev pub means : ℕ → ℕ → Meaning → Ahead → Session
means number left Silent ahead = ahead Between left
means number left (Says command) ahead = in_front command (ahead Between left)
means number left Bad ahead = stopped (BadAt number)

abbrev pub between : ℕ → ℕ → Option (List ℕ) → Meaning → Ahead → Session
between number left (Some name) meant ahead = ahead (Within name number []) left
between number left None meant ahead = means number left meant ahead

-- the script of this name is closed
abbrev pub closed : List ℕ → Block → Ahead → Session
closed name (IsRead reading left) ahead = in_front (Slonik name reading) (ahead Between left)
closed name IsLong ahead = stopped PastLimit

-- A line, as it stands: the number of it, the bytes that are left behind it, and its bytes.
pub record Next : Type 0 where
  pub number : ℕ
  pub left : ℕ
  pub line : List ℕ

abbrev pub next_of : ℕ → ℕ → List ℕ → Next
next_of number left line = record { number = number; left = left; line = line }

-- the next line, and what is said then
abbrev pub line_says : (List ℕ → Option (List ℕ)) → Mode → Next → Ahead → Session
line_says names Between n ahead = between n.number n.left (opening n.line) (meaning n.line) ahead
line_says names (Within name opened text) n ahead =
    if bytes_eq n.line closing then closed name (block_of names n.left text) ahead
    else (if is_readable n.line then ahead (Within name opened (text ++ n.line ++ 10 ∷ [])) n.left
    else stopped (BadAt n.number))

-- What lines say, over the files that these names have: the first has this number, and this number of bytes may be
-- read.
abbrev pub session_from : (List ℕ → Option (List ℕ)) → Mode → ℕ → ℕ → List Sized → Session
session_from names mode number left [] = ended mode
session_from names mode number left (one ∷ more) =
    if nat_lt left one.size then stopped PastLimit
    else line_says names mode (next_of number (left - one.size) one.line)
    (λ next rest. session_from names next (number + 1) rest more)

-- What the bytes of a session say, over the files that these names have.
abbrev pub session_of : (List ℕ → Option (List ℕ)) → List ℕ → Session
session_of names bytes = session_from names Between 1 session_limit (sized (lines bytes) bytes)
