use Rattle.std.proofs.Common.{◌≡◌, ◌≤◌, true, Some, is_some, List, length, ℕ}
use Rattle.std.specs.Vec.Iter.{into_iter_items, into_iter_len}
use Rattle.slon_base.specs.Charges.{KeepsTold}
use Rattle.slon_base.specs.Keeper.{Store}
use Rattle.store_rows.specs.Space.{IsPending}
use Rattle.store_rows.specs.Spending.{Stays, Rests}
use Rattle.store_rows.proofs.Putting.{LeavesRoom}
use Rattle.slon_model.specs.Rows.{Rows}
use Rattle.change_apply.specs.Applied.{CanApplyAll, HoldsRows, OthersStay}
use Rattle.change_apply.proofs.Logged.{IsToDo}
use Rattle.change_apply.proofs.applying.apply_actions.Given as goal

abbrev pub invariant-loop-action : goal.invariant-loop-action
invariant-loop-action g l =
    let old = g.K.Keeper.kept l.fn.keeper in
    let now = g.K.Keeper.kept l.keeper in
    record {
      still : Stays old.can_fail now.can_fail;
      puts : LeavesRoom (length (into_iter_items l.action-iterator)) (length l.fn.actions) old.puts now.puts;
      rests : Rests old.faults now.faults;
      told : KeepsTold old.told now.told;
      later : old.faults ≤ now.faults;
      held : now.held ≡ old.held;
      doubts : now.doubts ≡ old.doubts;
      opened : is_some now.pending ≡ true;
      counted : into_iter_len l.action-iterator ≡ length (into_iter_items l.action-iterator);
      can : CanApplyAll (into_iter_items l.action-iterator);
      plays : (tables : List ℕ → Rows) → IsPending (HoldsRows tables) old →
          IsPending (IsToDo (into_iter_items l.action-iterator) l.fn.actions tables) now;
      on : (m : Store) → old.pending ≡ Some (Some m) → IsPending (OthersStay m) now;
    }
