use Rattle.std.proofs.Common.{◌≡◌, ◌≤◌, true, is_some, drop}
use Rattle.std.specs.Option.{option_map}
use Rattle.slon_base.specs.Charges.{KeepsTold}
use Rattle.slon_base.specs.Codec.{AllAre}
use Rattle.store_rows.specs.Rows.{IsId}
use Rattle.store_rows.specs.Spending.{Stays, Rests}
use Rattle.node_rows.specs.Spellings.{CanSubscription}
use Rattle.set_config.specs.Rows.{each, take_receiver}
use Rattle.set_config.proofs.subscriptions.drop_receivers.Given as goal

abbrev pub invariant-loop-receiver : goal.invariant-loop-receiver
invariant-loop-receiver g l =
    let old = g.K.Keeper.kept l.fn.keeper in
    let now = g.K.Keeper.kept l.keeper in
    record {
      still : Stays old.can_fail now.can_fail;
      rests : Rests old.faults now.faults;
      told : KeepsTold old.told now.told;
      later : old.faults ≤ now.faults;
      held : now.held ≡ old.held;
      doubts : now.doubts ≡ old.doubts;
      opened : is_some now.pending ≡ true;
      can : AllAre (λ e. IsId e.0 × CanSubscription e.1) (drop l.receiver-index l.rows);
      rest : option_map (option_map (each (take_receiver l.set) (drop l.receiver-index l.rows))) now.pending
          ≡ option_map (option_map (each (take_receiver l.set) l.rows)) old.pending;
    }
