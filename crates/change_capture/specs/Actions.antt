-- What the actions of the program mean.
use Rattle.std.specs.Prelude.{ℕ}
use Rattle.slon_model.specs.Rows.{Change as RowsChange, Put as RowsPut, Set as RowsSet, Remove as RowsRemove}
use Rattle.slon_model.specs.Rows.{Action as RowsAction}
use Rattle.change_capture.specs.declared.action.Change.{Change}
use Rattle.change_capture.specs.declared.action.Change.TheVariants.{Put, Set, Remove}
use Rattle.change_capture.specs.declared.action.Action.{Action}

-- what it does to the rows of its table
abbrev pub change_of : Change → RowsChange
change_of (Put key values) = RowsPut key values
change_of (Set key columns) = RowsSet key columns
change_of (Remove key) = RowsRemove key

-- an action of a transaction
abbrev pub action_by : ℕ → Action → RowsAction
action_by xid action =
    record { number = action.number; xid = xid; table = action.table; change = change_of action.change }
