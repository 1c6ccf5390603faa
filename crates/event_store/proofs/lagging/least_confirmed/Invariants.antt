use Rattle.std.proofs.Common.{◌≡◌, ◌≤◌, ℕ, Some, None, drop}
use Rattle.slon_base.specs.Charges.{KeepsTold}
use Rattle.slon_base.specs.Codec.{AllAre}
use Rattle.slon_base.specs.Keeper.{Store, sight}
use Rattle.store_rows.specs.Rows.{IsId}
use Rattle.store_rows.specs.Spending.{Stays, Rests}
use Rattle.event_store.specs.Hearing.{least_from, HandedNodes, AreOrigin}
use Rattle.event_store.specs.Holds.{HoldsStreams}
use Rattle.event_store.specs.Streams.{Streams}
use Rattle.event_store.proofs.lagging.least_confirmed.Given as goal

abbrev pub invariant-loop-node : goal.invariant-loop-node
invariant-loop-node g l =
    let old = g.K.Keeper.kept l.fn.keeper in
    let now = g.K.Keeper.kept l.keeper in
    record {
      still : Stays old.can_fail now.can_fail;
      rests : Rests old.faults now.faults;
      told : KeepsTold old.told now.told;
      later : old.faults ≤ now.faults;
      held : now.held ≡ old.held;
      doubts : now.doubts ≡ old.doubts;
      same : now.pending ≡ old.pending;
      can : AllAre IsId (drop l.node-index l.known);
      rest : (m : Store) (s : Streams) → sight old ≡ Some m → HoldsStreams s m →
          least_from s l.origin l.least (drop l.node-index l.known) ≡ least_from s l.origin None l.known;
      fronts : (m : Store) (space : ℕ) → HandedNodes m l.origin (drop l.node-index l.known) space →
          HandedNodes m l.origin l.known space;
      left : (m : Store) → sight old ≡ Some m → (space : ℕ) → HandedNodes m l.origin l.known space →
          HandedNodes m l.origin (drop l.node-index l.known) space;
      others : l.least ≡ None → AreOrigin l.origin (drop l.node-index l.known) → AreOrigin l.origin l.known;
      none : AreOrigin l.origin l.known → (l.least ≡ None) × AreOrigin l.origin (drop l.node-index l.known);
    }
