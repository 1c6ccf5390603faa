use Rattle.std.proofs.Common.{◌≡◌, ◌++◌, drop}
use Rattle.change_capture.proofs.values.copy_values.Given as goal

abbrev pub invariant-loop-value : goal.invariant-loop-value
invariant-loop-value l = l.row ++ drop l.value-index l.values ≡ l.values
