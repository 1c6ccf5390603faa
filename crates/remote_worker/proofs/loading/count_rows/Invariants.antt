use Rattle.std.proofs.Common.{◌≡◌, ◌+◌, drop, fold, length}
use Rattle.node_store.specs.Bringing.{rows_listed}
use Rattle.remote_worker.proofs.loading.count_rows.Given as goal

abbrev pub invariant-loop-rows : goal.invariant-loop-rows
invariant-loop-rows l = fold (λ a t. a + length t.1) l.count (drop l.rows-index l.tables) ≡ rows_listed l.tables
