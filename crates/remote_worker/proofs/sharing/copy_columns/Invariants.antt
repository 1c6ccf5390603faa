use Rattle.std.proofs.Common.{◌≡◌, ◌++◌, drop}
use Rattle.remote_worker.proofs.sharing.copy_columns.Given as goal

abbrev pub invariant-loop-column : goal.invariant-loop-column
invariant-loop-column l = l.copied ++ drop l.column-index l.columns ≡ l.columns
