use Rattle.std.proofs.Common.{◌≡◌, ◌++◌, length}
use Rattle.change_capture.specs.Capture.{numbered, paired}
use Rattle.change_capture.proofs.reading.values_of.Given as goal

abbrev pub invariant-loop-number : goal.invariant-loop-number
invariant-loop-number l = l.fn.arguments ≡ paired (numbered 2 l.values) ++ l.rest

abbrev pub decreases-loop-number : goal.decreases-loop-number
decreases-loop-number l = length l.rest
