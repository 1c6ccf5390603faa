use Rattle.std.proofs.Common.{◌≡◌, is_some, false}
use Rattle.slon_tests.proofs.stores.makes.Given as goal

abbrev pub invariant-loop-transaction : goal.invariant-loop-transaction
invariant-loop-transaction g l = is_some (g.K.Keeper.kept l.keeper).pending ≡ false
