use Rattle.std.proofs.Common.{◌≡◌, ◌+◌, length}
use Rattle.slonik_parse.specs.Machine.{run, behind_preamble}
use Rattle.slonik_parse.proofs.machine.read_behind_preamble.Given as goal

abbrev pub invariant-loop-token : goal.invariant-loop-token
invariant-loop-token l = record {
  runs : run l.rest l.state ≡ run l.fn.tokens behind_preamble;
  numbered : l.place + length l.rest ≡ length l.fn.tokens + 3;
}

abbrev pub decreases-loop-token : goal.decreases-loop-token
decreases-loop-token l = length l.rest
