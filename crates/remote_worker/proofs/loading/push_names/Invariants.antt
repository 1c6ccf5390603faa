use Rattle.std.proofs.Common.{◌≡◌, ◌++◌, drop, map}
use Rattle.remote_worker.proofs.loading.push_names.Given as goal

abbrev pub invariant-loop-name : goal.invariant-loop-name
invariant-loop-name l =
    l.names ++ map (λ t. t.1) (drop l.name-index l.tables) ≡ l.fn.names ++ map (λ t. t.1) l.tables
