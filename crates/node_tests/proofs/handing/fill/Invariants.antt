use Rattle.std.proofs.Common.{◌≡◌, true, is_some}
use Rattle.node_tests.proofs.handing.fill.Given as goal

abbrev pub invariant-loop-space : goal.invariant-loop-space
invariant-loop-space g l = is_some (g.K.Keeper.kept l.keeper).pending ≡ true
