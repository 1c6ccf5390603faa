-- The texts of a reading that replies repeat are each on one line.
use Rattle.std.specs.Prelude.{ℕ, ◌&&◌, Bool, true, List}
use Rattle.std.specs.List.{list_all}
use Rattle.slonik_script.specs.declared.script.Command.{Command as Order}
use Rattle.slonik_script.specs.declared.script.Command.TheVariants.{Echo, SetAddTable}
use Rattle.slonik_script.specs.declared.script.Statement.{Statement}
use Rattle.slonik_script.specs.declared.script.Statement.TheVariants.{Single, Try as Tries}
use Rattle.slon_model.specs.declared.reading.Reading.{Reading}
use Rattle.slon_model.specs.declared.reading.Reading.TheVariants.{Read, Wrong}
use Rattle.slon_model.specs.Forms.{is_line}
use Rattle.slon_model.specs.Spoken.{wrong_text}

abbrev pub is_order : Order → Bool
is_order (Echo text) = is_line text
is_order (SetAddTable set origin id name key comment) = is_line name
is_order others = true

abbrev pub is_statement : Statement → Bool
is_statement (Single order) = is_order order
is_statement (Tries block) = true

abbrev pub are_statements : List Statement → Bool
are_statements statements = list_all is_statement statements

abbrev pub are_node_lines : List (ℕ × List ℕ) → Bool
are_node_lines lines = list_all (λ l. is_line l.1) lines

abbrev pub is_reading : Reading → Bool
is_reading (Read script) = are_node_lines script.nodes && are_statements script.statements
is_reading (Wrong refusal) = is_line (wrong_text refusal)
