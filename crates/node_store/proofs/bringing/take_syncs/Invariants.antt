use Rattle.std.proofs.Common.{◌≡◌, ◌≤◌, true, Some, is_some, length}
use Rattle.std.specs.List.{AllByRecursion}
use Rattle.std.specs.Vec.Iter.{into_iter_items, into_iter_len}
use Rattle.slon_base.specs.Charges.{KeepsTold}
use Rattle.slon_base.specs.Keeper.{Store}
use Rattle.store_rows.specs.Space.{IsPending}
use Rattle.store_rows.specs.Spending.{Stays, Rests}
use Rattle.store_rows.proofs.Putting.{LeavesRoom}
use Rattle.slon_model.specs.Deeds.{Brought, Node}
use Rattle.slon_model.specs.Events.{is_sync}
use Rattle.slon_model.specs.Place.{Place}
use Rattle.event_store.specs.Seen.{seen_event}
use Rattle.node_store.specs.Bringing.{CanSync, CanTake, HasAll, puts_taken}
use Rattle.node_store.proofs.Allowing.{puts_left}
use Rattle.node_store.proofs.Following.{IsTaking}
use Rattle.node_store.proofs.bringing.take_syncs.Given as goal

abbrev pub invariant-loop-sync : goal.invariant-loop-sync
invariant-loop-sync g l =
    let old = g.K.Keeper.kept l.fn.keeper in
    let now = g.K.Keeper.kept l.keeper in
    let e = seen_event l.event in
    record {
      still : Stays old.can_fail now.can_fail;
      puts : is_sync l.event.body ≡ true →
          LeavesRoom (puts_left (into_iter_items l.sync-iterator)) (puts_taken l.fn.syncs) old.puts now.puts;
      rests : Rests old.faults now.faults;
      told : KeepsTold old.told now.told;
      later : old.faults ≤ now.faults;
      held : now.held ≡ old.held;
      doubts : now.doubts ≡ old.doubts;
      opened : is_some now.pending ≡ true;
      counted : into_iter_len l.sync-iterator ≡ length (into_iter_items l.sync-iterator);
      can : AllByRecursion CanSync (into_iter_items l.sync-iterator);
      takes : (n : Node) (m : Store) (p : Place) (b : Brought) → n.id ≡ l.fn.own → old.pending ≡ Some (Some m) →
          CanTake n e p m → HasAll e.origin p b l.fn.syncs →
          IsPending (IsTaking n e p m b (into_iter_items l.sync-iterator)) now;
    }
