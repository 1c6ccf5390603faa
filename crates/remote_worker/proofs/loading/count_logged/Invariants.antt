use Rattle.std.proofs.Common.{◌≡◌, ◌+◌, drop, fold, length}
use Rattle.remote_worker.specs.Loading.{rows_fetched}
use Rattle.remote_worker.proofs.loading.count_logged.Given as goal

abbrev pub invariant-loop-fetch : goal.invariant-loop-fetch
invariant-loop-fetch l =
    fold (λ a f. a + length f.sync.rows) l.count (drop l.fetch-index l.fetches) ≡ rows_fetched l.fetches
