use Rattle.std.proofs.Common.{◌≡◌, drop}
use Rattle.slon_model.specs.Maps.{entry_at}
use Rattle.node_state.specs.Held.{seen_views}
use Rattle.remote_worker.proofs.standing.is_kept.Given as goal

abbrev pub invariant-loop-id : goal.invariant-loop-id
invariant-loop-id l = entry_at l.set (seen_views (drop l.id-index l.views)) ≡ entry_at l.set (seen_views l.views)
