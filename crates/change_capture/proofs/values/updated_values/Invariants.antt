use Rattle.std.proofs.Common.{◌≡◌, ◌+◌, ◌++◌, drop}
use Rattle.slon_model.specs.Rows.{with_columns}
use Rattle.change_capture.proofs.values.updated_values.Given as goal

-- the values so far, and what is made of those that are left
abbrev pub invariant-loop-value : goal.invariant-loop-value
invariant-loop-value l =
    record {
      number : l.number ≡ l.value-index + 2;
      row : l.row ++ with_columns l.columns l.number (drop l.value-index l.values) ≡ with_columns l.columns 2 l.values;
    }
