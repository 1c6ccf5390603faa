use Rattle.std.proofs.Common.{◌≡◌, ◌++◌, drop}
use Rattle.remote_worker.specs.Loading.{names_listed}
use Rattle.remote_worker.proofs.loading.names_listed.Given as goal

abbrev pub invariant-loop-name : goal.invariant-loop-name
invariant-loop-name l = l.names ++ names_listed (drop l.name-index l.tables) ≡ names_listed l.tables
