use Rattle.std.proofs.Common.{◌≡◌, ◌≤◌, true, Some, is_some, drop}
use Rattle.slon_base.specs.Charges.{KeepsTold}
use Rattle.slon_base.specs.Codec.{AllAre}
use Rattle.store_rows.specs.Space.{IsPending}
use Rattle.store_rows.specs.Spending.{Stays, Rests}
use Rattle.txn_core.specs.Snapshots.{seen_as}
use Rattle.node_rows.specs.Spellings.{CanBody}
use Rattle.event_store.specs.Keeping.{KeepsViews}
use Rattle.node_store.specs.Acting.{Emitter, IsTold}
use Rattle.node_store.proofs.Emitting.{IsLeft}
use Rattle.node_store.proofs.writing.emit_each.Given as goal

abbrev pub invariant-loop-body : goal.invariant-loop-body
invariant-loop-body g l =
    let old = g.K.Keeper.kept l.fn.keeper in
    let now = g.K.Keeper.kept l.keeper in
    record {
      still : Stays old.can_fail now.can_fail;
      rests : Rests old.faults now.faults;
      told : KeepsTold old.told now.told;
      later : old.faults ≤ now.faults;
      held : now.held ≡ old.held;
      doubts : now.doubts ≡ old.doubts;
      opened : is_some now.pending ≡ true;
      can : AllAre CanBody (drop l.body-index l.bodies);
      keeps : AllAre KeepsViews (drop l.body-index l.bodies);
      rest : (e : Emitter) → IsTold l.fn.own (seen_as l.fn.taken) l.bodies e → old.pending ≡ Some (Some e.held) →
          IsPending (IsLeft e (drop l.body-index l.bodies) l.last) now;
    }
