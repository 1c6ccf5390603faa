use Rattle.std.proofs.Common.{◌≡◌, ℕ, List, length}
use Rattle.std.specs.List.{AllByRecursion}
use Rattle.std.specs.Vec.Iter.{into_iter_items, into_iter_len}
use Rattle.slon_base.specs.Codec.{AllAre}
use Rattle.slon_model.specs.Deeds.{Logged}
use Rattle.node_store.specs.Bringing.{HasLogged}
use Rattle.remote_worker.specs.Keeping.{CanFollow}
use Rattle.remote_worker.specs.Loading.{CanFetch}
use Rattle.remote_worker.specs.Running.{sets_in}
use Rattle.remote_worker.proofs.Together.{LeavesParts}
use Rattle.remote_worker.proofs.sharing.parts_of.Given as goal

abbrev pub invariant-loop-kept : goal.invariant-loop-kept
invariant-loop-kept l =
    let left = into_iter_items l.kept-iterator in
    record {
      counted : into_iter_len l.kept-iterator ≡ length left;
      can_left : AllAre CanFollow left;
      can : AllByRecursion CanFetch l.fetches;
      has : (origin : ℕ) (logs : List Logged) → HasLogged origin logs l.found.rows l.found.actions →
          LeavesParts origin logs (sets_in l.fn.run) left l.fetches;
    }
