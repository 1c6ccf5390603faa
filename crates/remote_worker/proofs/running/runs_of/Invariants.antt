use Rattle.std.proofs.Common.{◌≡◌, ◌++◌, length}
use Rattle.std.specs.List.{AllByRecursion}
use Rattle.std.specs.Vec.Iter.{into_iter_items, into_iter_len}
use Rattle.slon_base.specs.Codec.{AllAre}
use Rattle.remote_worker.specs.Keeping.{CanFollow}
use Rattle.remote_worker.specs.Running.{CanGoOn, CanRun, sets_of_all, sets_pending}
use Rattle.remote_worker.proofs.running.runs_of.Given as goal

abbrev pub invariant-loop-kept : goal.invariant-loop-kept
invariant-loop-kept l =
    let left = into_iter_items l.kept-iterator in
    record {
      counted : into_iter_len l.kept-iterator ≡ length left;
      can_left : AllAre CanFollow left;
      can : AllByRecursion CanRun l.runs;
      going : CanGoOn l.last;
      is : sets_of_all l.runs ++ sets_pending l.last ++ left ≡ l.fn.sets;
    }
