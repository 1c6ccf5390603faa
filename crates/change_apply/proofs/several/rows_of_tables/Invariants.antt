use Rattle.std.proofs.Common.{◌≡◌, ◌≤◌, ◌++◌, Some, drop, List, ℕ}
use Rattle.slon_base.specs.Charges.{KeepsTold}
use Rattle.slon_base.specs.Codec.{AllAre, IsText}
use Rattle.slon_base.specs.Keeper.{Store, sight}
use Rattle.store_rows.specs.Spending.{Stays, Rests}
use Rattle.slon_model.specs.Rows.{Rows}
use Rattle.change_apply.specs.Applied.{HoldsRows}
use Rattle.change_apply.specs.Copied.{AreListed, CanCopyAll, Listed, held_in}
use Rattle.change_apply.proofs.several.rows_of_tables.Given as goal

abbrev pub invariant-loop-table : goal.invariant-loop-table
invariant-loop-table g l =
    let old = g.K.Keeper.kept l.fn.keeper in
    let now = g.K.Keeper.kept l.keeper in
    record {
      still : Stays old.can_fail now.can_fail;
      rests : Rests old.faults now.faults;
      told : KeepsTold old.told now.told;
      later : old.faults ≤ now.faults;
      held : now.held ≡ old.held;
      doubts : now.doubts ≡ old.doubts;
      pending : now.pending ≡ old.pending;
      texts : AllAre IsText (drop l.table-index l.tables);
      can : CanCopyAll l.all;
      says : (m : Store) (tables : List ℕ → Rows) → sight old ≡ Some m → HoldsRows tables m → (rest : Listed) →
          AreListed (held_in tables (drop l.table-index l.tables)) rest →
          AreListed (held_in tables l.tables) (l.all ++ rest);
    }
