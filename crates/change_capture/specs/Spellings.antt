-- How the rows of the log are spelled.
use Rattle.std.specs.Prelude.{◌≡◌, ℕ, ◌<◌, ◌^◌, List, ◌∷◌, ◌++◌, length}
use Rattle.slon_base.specs.Codec.{number_bytes, text_bytes, list_bytes, all_bytes, AllTexts, AreTexts}
use Rattle.store_rows.specs.Rows.{IsId}
use Rattle.slon_model.specs.Spoken.{IsChange}
use Rattle.change_capture.specs.Actions.{change_of}
use Rattle.change_capture.specs.Capture.{columns_of}
use Rattle.change_capture.specs.Reading.{CanLog}
use Rattle.change_capture.specs.declared.action.Action.{Action}
use Rattle.change_capture.specs.declared.log_row.LogCommand.{LogCommand}
use Rattle.change_capture.specs.declared.log_row.LogCommand.TheVariants.{Insert, Update, Delete}
use Rattle.change_capture.specs.declared.log_row.LogRow.{LogRow}

-- `I`, `U` or `D`
abbrev pub command_byte : LogCommand → ℕ
command_byte Insert = 73
command_byte Update = 85
command_byte Delete = 68

-- the fields in their order
abbrev pub log_row_bytes : LogRow → List ℕ
log_row_bytes row =
    number_bytes row.xid ++ (number_bytes row.table ++ (all_bytes text_bytes row.names
    ++ command_byte row.command ∷ (number_bytes row.columns ++ list_bytes row.arguments)))

-- a row of the log that can be spelled
pub record CanLogRow (row : LogRow) : Type 0 where
  pub xid : row.xid < 2 ^ 63
  pub table : IsId row.table
  pub two : 2 ≡ length row.names
  pub names : AllTexts row.names
  pub columns : row.columns < 2 ^ 63
  pub arguments : AreTexts row.arguments

-- an action whose row can be spelled: its words have their forms, and it is about fewer columns than a list can have
pub record CanSpell (action : Action) : Type 0 where
  pub can : CanLog action
  pub words : IsChange (change_of action.change)
  pub few : length (columns_of action.change) < 2 ^ 31
