use Rattle.std.proofs.Common.{◌≡◌, is_some}
use Rattle.slon_tests.proofs.stores.holds.Given as goal

abbrev pub invariant-loop-pair : goal.invariant-loop-pair
invariant-loop-pair g l = is_some (g.K.Keeper.kept l.keeper).pending ≡ is_some (g.K.Keeper.kept l.fn.keeper).pending
