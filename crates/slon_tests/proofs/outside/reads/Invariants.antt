use Rattle.std.proofs.Common.{◌≡◌, length}
use Rattle.slon_tests.proofs.outside.reads.Given as goal

abbrev pub invariant-loop-count : goal.invariant-loop-count
invariant-loop-count g l = length (g.F.Files.filed l.files).stack ≡ length (g.F.Files.filed l.fn.files).stack
