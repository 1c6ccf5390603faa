use Rattle.std.proofs.Common.{◌≡◌, ◌++◌, drop}
use Rattle.remote_worker.specs.Running.{sets_in, tables_in}
use Rattle.remote_worker.proofs.running.tables_of.Given as goal

abbrev pub invariant-loop-kept : goal.invariant-loop-kept
invariant-loop-kept l = l.tables ++ tables_in (drop l.kept-index l.kept-items) ≡ tables_in (sets_in l.run)
