use Rattle.std.proofs.Common.{◌≡◌, ℕ, List, drop}
use Rattle.slon_model.specs.Rows.{column_value}
use Rattle.change_capture.proofs.values.find_column.Given as goal

abbrev pub invariant-loop-column : goal.invariant-loop-column
invariant-loop-column l = (old : List ℕ) → column_value
    (drop l.column-index l.columns) l.number old ≡ column_value l.columns l.number old
