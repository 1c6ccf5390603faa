use Rattle.std.proofs.Common.{◌≡◌, ◌≤◌, true, Some, is_some, List, ℕ}
use Rattle.slon_base.specs.Charges.{KeepsTold}
use Rattle.slon_base.specs.Keeper.{Store}
use Rattle.store_rows.specs.Space.{IsPending}
use Rattle.store_rows.specs.Spending.{Stays, Rests}
use Rattle.slon_model.specs.Names.{Named}
use Rattle.slon_model.specs.Rows.{Rows}
use Rattle.change_apply.specs.Applied.{HoldsRows, OthersStay}
use Rattle.change_apply.specs.Copied.{AreListed, CanCopyAll}
use Rattle.change_apply.proofs.Filling.{IsFilled}
use Rattle.change_apply.proofs.several.replace_tables.Given as goal

abbrev pub invariant-loop-table : goal.invariant-loop-table
invariant-loop-table g l =
    let old = g.K.Keeper.kept l.fn.keeper in
    let now = g.K.Keeper.kept l.keeper in
    record {
      still : Stays old.can_fail now.can_fail;
      rests : Rests old.faults now.faults;
      told : KeepsTold old.told now.told;
      later : old.faults ≤ now.faults;
      held : now.held ≡ old.held;
      doubts : now.doubts ≡ old.doubts;
      opened : is_some now.pending ≡ true;
      can : CanCopyAll l.left.items;
      plays : (tables : List ℕ → Rows) (given : Named Rows) → AreListed given l.fn.tables →
          IsPending (HoldsRows tables) old → IsPending (IsFilled given l.left.items tables) now;
      on : (m : Store) → old.pending ≡ Some (Some m) → IsPending (OthersStay m) now;
    }

abbrev pub decreases-loop-table : goal.decreases-loop-table
decreases-loop-table g l = l.left.len
