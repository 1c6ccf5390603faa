use Rattle.std.proofs.Common.{◌≡◌, ◌≤◌, ◌-◌, Some}
use Rattle.slon_base.specs.Charges.{KeepsTold}
use Rattle.slon_base.specs.Keeper.{Store, sight}
use Rattle.slon_model.specs.Events.{last_sync}
use Rattle.store_rows.specs.Spending.{Stays, Rests}
use Rattle.event_store.specs.Holds.{HoldsStreams}
use Rattle.event_store.specs.Streams.{Streams}
use Rattle.event_store.specs.Syncing.{taken_of}
use Rattle.event_store.proofs.syncs.sync_up_to.Given as goal

abbrev pub invariant-loop-back : goal.invariant-loop-back
invariant-loop-back g l =
    let old = g.K.Keeper.kept l.fn.keeper in
    let now = g.K.Keeper.kept l.keeper in
    record {
      still : Stays old.can_fail now.can_fail;
      rests : Rests old.faults now.faults;
      told : KeepsTold old.told now.told;
      later : old.faults ≤ now.faults;
      held : now.held ≡ old.held;
      doubts : now.doubts ≡ old.doubts;
      same : now.pending ≡ old.pending;
      behind : (m : Store) (s : Streams) → sight old ≡ Some m → HoldsStreams s m →
          taken_of (last_sync l.own s.events (l.last - l.back)) ≡ taken_of (last_sync l.own s.events l.last);
    }
