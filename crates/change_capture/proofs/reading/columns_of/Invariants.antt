use Rattle.std.proofs.Common.{◌≡◌, ◌++◌, length}
use Rattle.change_capture.specs.Capture.{paired}
use Rattle.change_capture.specs.Reading.{AreColumns}
use Rattle.change_capture.proofs.reading.columns_of.Given as goal

abbrev pub invariant-loop-rest : goal.invariant-loop-rest
invariant-loop-rest l = record { fits : AreColumns l.columns; named : l.arguments ≡ paired l.columns ++ l.rest }

abbrev pub decreases-loop-rest : goal.decreases-loop-rest
decreases-loop-rest l = length l.rest
