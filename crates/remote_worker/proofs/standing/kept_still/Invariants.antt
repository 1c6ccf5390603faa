use Rattle.std.proofs.Common.{◌≡◌, ◌++◌, filter, length}
use Rattle.std.specs.List.{AllByRecursion}
use Rattle.std.specs.Vec.Iter.{into_iter_items, into_iter_len}
use Rattle.node_state.specs.Held.{seen_views}
use Rattle.remote_worker.specs.Loading.{CanFetch}
use Rattle.remote_worker.specs.Standing.{stands_in}
use Rattle.remote_worker.proofs.standing.kept_still.Given as goal

abbrev pub invariant-loop-fetch : goal.invariant-loop-fetch
invariant-loop-fetch l =
    let more = into_iter_items l.fetch-iterator in
    let stands = stands_in (seen_views l.views) in
    record {
      counted : into_iter_len l.fetch-iterator ≡ length more;
      can_left : AllByRecursion CanFetch more;
      can : AllByRecursion CanFetch l.left;
      is : l.left ++ filter stands more ≡ filter stands l.fn.fetches;
    }
