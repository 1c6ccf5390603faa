-- What the reading of a line answers.
use Rattle.std.specs.Prelude.{◌≡◌, ℕ, if◌then◌else◌, List, Option, Some, None, Result, Ok, Err}
use Rattle.std.specs.List.{list_all}
use Rattle.slon_model.specs.declared.command.Command.{Command}
use Rattle.slon_model.specs.Forms.{is_name, is_table_name, is_value}
use Rattle.slon_model.specs.Lines.{Meaning, Silent, Says, Bad}
use Rattle.session_text.specs.declared.read.LineFault.{LineFault}
use Rattle.session_text.specs.declared.read.LineFault.TheVariants.{BadLine, NoMemory}
use Rattle.session_text.specs.declared.words.Misread.{Misread}
use Rattle.session_text.specs.declared.words.Misread.TheVariants.{BadForm, OutOfMemory}

-- What was read is what a line says, unless memory runs out.
abbrev pub Reads : ℕ → Meaning → Result (Option Command) LineFault → Type 0
Reads number meaning (Ok None) = meaning ≡ Silent
Reads number meaning (Ok (Some command)) = meaning ≡ Says command
Reads number meaning (Err (BadLine bad)) = (meaning ≡ Bad) × (bad ≡ number)
Reads number meaning (Err NoMemory) = Unit {0}

-- What the parts of a line say.
abbrev pub IsSaid : Meaning → Result (Option Command) Misread → Type 0
IsSaid meaning (Ok None) = meaning ≡ Silent
IsSaid meaning (Ok (Some command)) = meaning ≡ Says command
IsSaid meaning (Err BadForm) = meaning ≡ Bad
IsSaid meaning (Err OutOfMemory) = Unit {0}

-- What was read is the one thing that may be read, unless memory runs out; there may be none.
abbrev pub Gives : {T : Type 0} → Option T → Result T Misread → Type 0
Gives read (Ok x) = read ≡ Some x
Gives read (Err BadForm) = read ≡ None
Gives read (Err OutOfMemory) = Unit {0}

-- a name, a table's name, a value and values, where the words are of these forms
abbrev pub name_in : List ℕ → Option (List ℕ)
name_in word = if is_name word then Some word else None

abbrev pub table_name_in : List ℕ → Option (List ℕ)
table_name_in word = if is_table_name word then Some word else None

abbrev pub value_in : List ℕ → Option (List ℕ)
value_in word = if is_value word then Some word else None

abbrev pub values_in : List (List ℕ) → Option (List (List ℕ))
values_in words = if list_all is_value words then Some words else None
