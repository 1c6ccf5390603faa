use Rattle.std.proofs.Common.{◌≡◌, ◌≤◌, true, is_some, drop}
use Rattle.std.specs.Option.{option_map}
use Rattle.slon_base.specs.Charges.{KeepsTold}
use Rattle.slon_base.specs.Codec.{AllAre}
use Rattle.store_rows.specs.Spending.{Stays, Rests}
use Rattle.event_store.specs.Giving.{IsConfirmation, all_turned, forgets}
use Rattle.event_store.proofs.giving.forget_all.Given as goal

abbrev pub invariant-loop-row : goal.invariant-loop-row
invariant-loop-row g l =
    let old = g.K.Keeper.kept l.fn.keeper in
    let now = g.K.Keeper.kept l.keeper in
    record {
      still : Stays old.can_fail now.can_fail;
      rests : Rests old.faults now.faults;
      told : KeepsTold old.told now.told;
      later : old.faults ≤ now.faults;
      held : now.held ≡ old.held;
      doubts : now.doubts ≡ old.doubts;
      opened : is_some now.pending ≡ true;
      can : AllAre IsConfirmation (drop l.row-index l.rows);
      rest : option_map (option_map (all_turned (forgets l.new) (drop l.row-index l.rows))) now.pending
          ≡ option_map (option_map (all_turned (forgets l.new) l.rows)) old.pending;
    }
