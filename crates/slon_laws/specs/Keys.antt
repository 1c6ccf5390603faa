-- What a change does to the one row that it touches.
use Rattle.std.specs.Prelude.{Option, Some, None}
use Rattle.std.specs.Option.{option_map}
use Rattle.slon_model.specs.Rows.{Row, Change, Put, Set, Remove, updated}

-- the row of the key of a change, after the change
abbrev pub change_at : Change → Option Row → Option Row
change_at (Put key row) old = Some row
change_at (Set key columns) old = option_map (updated columns) old
change_at (Remove key) old = None
