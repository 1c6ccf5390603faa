use Rattle.std.proofs.Common.{◌≡◌, ◌≤◌, true, Some, is_some, List, length, ℕ}
use Rattle.std.specs.Vec.Iter.{into_iter_items, into_iter_len}
use Rattle.slon_base.specs.Charges.{KeepsTold}
use Rattle.slon_base.specs.Keeper.{Store}
use Rattle.store_rows.specs.Space.{IsPending}
use Rattle.store_rows.specs.Spending.{Stays, Rests}
use Rattle.slon_model.specs.Rows.{Rows}
use Rattle.change_apply.specs.Applied.{HoldsRows, OthersStay}
use Rattle.change_apply.specs.Copied.{CanCopy, turns}
use Rattle.change_apply.proofs.Replacing.{IsRest}
use Rattle.change_apply.proofs.copying.turn_rows.Given as goal

abbrev pub invariant-loop-key : goal.invariant-loop-key
invariant-loop-key g l =
    let old = g.K.Keeper.kept l.fn.keeper in
    let now = g.K.Keeper.kept l.keeper in
    record {
      still : Stays old.can_fail now.can_fail;
      rests : Rests old.faults now.faults;
      told : KeepsTold old.told now.told;
      later : old.faults ≤ now.faults;
      held : now.held ≡ old.held;
      doubts : now.doubts ≡ old.doubts;
      opened : is_some now.pending ≡ true;
      counted : into_iter_len l.key-iterator ≡ length (into_iter_items l.key-iterator);
      can : CanCopy (into_iter_items l.key-iterator);
      plays : (tables : List ℕ → Rows) → IsPending (HoldsRows tables) old →
          IsPending (IsRest l.fn.table (turns l.fn.turn (into_iter_items l.key-iterator)) (turns l.fn.turn l.fn.rows)
          tables) now;
      on : (m : Store) → old.pending ≡ Some (Some m) → IsPending (OthersStay m) now;
    }
