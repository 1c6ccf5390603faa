use Rattle.std.proofs.Common.{◌≡◌, ◌++◌, length, map}
use Rattle.std.specs.List.{AllByRecursion}
use Rattle.std.specs.Vec.Iter.{into_iter_items, into_iter_len}
use Rattle.node_store.specs.Bringing.{CanSync}
use Rattle.remote_worker.specs.Loading.{CanFetch}
use Rattle.remote_worker.proofs.loading.syncs_of.Given as goal

abbrev pub invariant-loop-fetch : goal.invariant-loop-fetch
invariant-loop-fetch l =
    let left = into_iter_items l.fetch-iterator in
    record {
      counted : into_iter_len l.fetch-iterator ≡ length left;
      can_left : AllByRecursion CanFetch left;
      can : AllByRecursion CanSync l.syncs;
      is : l.syncs ++ map (λ f. f.sync) left ≡ map (λ f. f.sync) l.fn.fetches;
    }
