use Rattle.std.proofs.Common.{◌≡◌, drop, fold}
use Rattle.remote_worker.specs.Loading.{greater, last_logged, last_row}
use Rattle.remote_worker.proofs.loading.last_logged.Given as goal

abbrev pub invariant-loop-fetch : goal.invariant-loop-fetch
invariant-loop-fetch l =
    fold (λ found f. greater found (last_row f.sync.rows)) l.found (drop l.fetch-index l.fetches)
    ≡ last_logged l.fetches
