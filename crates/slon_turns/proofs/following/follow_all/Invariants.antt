use Rattle.std.proofs.Common.{◌≡◌, length}
use Rattle.std.specs.List.{AllByRecursion}
use Rattle.std.specs.Vec.Iter.{into_iter_items, into_iter_len}
use Rattle.event_store.specs.Seen.{seen_event}
use Rattle.remote_worker.specs.Loading.{CanFetch}
use Rattle.remote_worker.specs.Running.{CanRun, sets_of_all}
use Rattle.slon_turns.proofs.Several.{AreRead, LeavesSets}
use Rattle.slon_turns.proofs.following.follow_all.Given as goal

abbrev pub invariant-loop-run : goal.invariant-loop-run
invariant-loop-run g l =
    let left = into_iter_items l.run-iterator in
    record {
      counted : into_iter_len l.run-iterator ≡ length left;
      can_left : AllByRecursion CanRun left;
      can : AllByRecursion CanFetch l.fetches;
      read : AreRead g.K.Keeper.kept l.way.index l.fn.databases l.databases;
      leaves : LeavesSets g.K.Keeper.kept
          (record { node = l.way.node; index = l.way.index; cuts = l.way.cuts.now; bounds = l.bounds })
          (seen_event l.event) l.fn.sets (sets_of_all left) l.fetches l.fn.databases l.databases;
    }
