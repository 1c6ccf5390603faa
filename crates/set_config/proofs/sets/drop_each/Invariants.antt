use Rattle.std.proofs.Common.{◌≡◌, ◌≤◌, true, is_some, drop}
use Rattle.std.specs.Option.{option_map}
use Rattle.slon_base.specs.Charges.{KeepsTold}
use Rattle.slon_base.specs.Codec.{AllAre}
use Rattle.store_rows.specs.Rows.{IsId}
use Rattle.store_rows.specs.Spending.{Stays, Rests}
use Rattle.node_rows.specs.Spellings.{CanTable}
use Rattle.set_config.specs.Rows.{each, drop_row}
use Rattle.set_config.proofs.sets.drop_each.Given as goal

abbrev pub invariant-loop-table : goal.invariant-loop-table
invariant-loop-table g l =
    let old = g.K.Keeper.kept l.fn.keeper in
    let now = g.K.Keeper.kept l.keeper in
    record {
      still : Stays old.can_fail now.can_fail;
      rests : Rests old.faults now.faults;
      told : KeepsTold old.told now.told;
      later : old.faults ≤ now.faults;
      held : now.held ≡ old.held;
      doubts : now.doubts ≡ old.doubts;
      opened : is_some now.pending ≡ true;
      can : AllAre (λ e. IsId e.0 × CanTable e.1) (drop l.table-index l.rows);
      rest : option_map (option_map (each (drop_row l.set) (drop l.table-index l.rows))) now.pending
          ≡ option_map (option_map (each (drop_row l.set) l.rows)) old.pending;
    }
