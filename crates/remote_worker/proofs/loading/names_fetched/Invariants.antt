use Rattle.std.proofs.Common.{◌≡◌, ◌++◌, drop}
use Rattle.remote_worker.specs.Loading.{names_fetched}
use Rattle.remote_worker.proofs.loading.names_fetched.Given as goal

abbrev pub invariant-loop-fetch : goal.invariant-loop-fetch
invariant-loop-fetch l = l.names ++ names_fetched (drop l.fetch-index l.fetches) ≡ names_fetched l.fetches
