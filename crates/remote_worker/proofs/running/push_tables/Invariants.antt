use Rattle.std.proofs.Common.{◌≡◌, ◌++◌, drop}
use Rattle.remote_worker.proofs.running.push_tables.Given as goal

abbrev pub invariant-loop-id : goal.invariant-loop-id
invariant-loop-id l = l.all ++ drop l.id-index l.tables ≡ l.fn.all ++ l.tables
