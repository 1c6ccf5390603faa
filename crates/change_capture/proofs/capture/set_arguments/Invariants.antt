use Rattle.std.proofs.Common.{◌≡◌, ◌++◌, drop}
use Rattle.change_capture.specs.Capture.{paired}
use Rattle.change_capture.proofs.capture.set_arguments.Given as goal

abbrev pub invariant-loop-number : goal.invariant-loop-number
invariant-loop-number l = l.arguments ++ paired (drop l.number-index l.columns) ≡ paired l.columns
