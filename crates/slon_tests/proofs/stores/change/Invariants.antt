use Rattle.std.proofs.Common.{◌≡◌, is_some, true}
use Rattle.slon_tests.proofs.stores.change.Given as goal

abbrev pub invariant-loop-space : goal.invariant-loop-space
invariant-loop-space g l = is_some (g.K.Keeper.kept l.keeper).pending ≡ true
