use Rattle.std.proofs.Common.{◌<◌, length}
use Rattle.script_tests.proofs.sessions.commands_of.Given as goal

abbrev pub invariant-loop : goal.invariant-loop
invariant-loop g l = 0 < length (g.F.Files.filed l.files).stack
