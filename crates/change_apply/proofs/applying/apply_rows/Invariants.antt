use Rattle.std.proofs.Common.{◌≡◌, ◌≤◌, true, Some, is_some, drop, List, ℕ}
use Rattle.slon_base.specs.Charges.{KeepsTold}
use Rattle.slon_base.specs.Codec.{AllAre}
use Rattle.slon_base.specs.Keeper.{Store}
use Rattle.store_rows.specs.Space.{IsPending}
use Rattle.store_rows.specs.Spending.{Stays, Rests}
use Rattle.slon_model.specs.Rows.{Rows}
use Rattle.change_capture.specs.declared.action.Action.{Action}
use Rattle.change_capture.specs.Spellings.{CanLogRow}
use Rattle.change_apply.specs.Applied.{HoldsRows, AreLogOf}
use Rattle.change_apply.proofs.Logged.{IsLeft, Goes}
use Rattle.change_apply.proofs.applying.apply_rows.Given as goal

abbrev pub invariant-loop-number : goal.invariant-loop-number
invariant-loop-number g l =
    let old = g.K.Keeper.kept l.fn.keeper in
    let now = g.K.Keeper.kept l.keeper in
    record {
      still : Stays old.can_fail now.can_fail;
      rests : Rests old.faults now.faults;
      told : KeepsTold old.told now.told;
      later : old.faults ≤ now.faults;
      held : now.held ≡ old.held;
      doubts : now.doubts ≡ old.doubts;
      opened : is_some now.pending ≡ true;
      can : AllAre (λ r. CanLogRow r.1) (drop l.number-index l.rows);
      rest : (tables : List ℕ → Rows) (actions : List Action) → AreLogOf l.rows actions →
          IsPending (HoldsRows tables) old → IsPending (IsLeft (drop l.number-index l.rows) actions tables) now;
      on : (m : Store) → old.pending ≡ Some (Some m) → IsPending (Goes (drop l.number-index l.rows) l.rows m) now;
    }
