use Rattle.std.proofs.Common.{◌≡◌, ◌≤◌, true, Some, is_some, drop}
use Rattle.slon_base.specs.Charges.{KeepsTold}
use Rattle.slon_base.specs.Codec.{AllAre}
use Rattle.slon_base.specs.Keeper.{Store}
use Rattle.store_rows.specs.Space.{IsPending}
use Rattle.store_rows.specs.Spending.{Stays, Rests}
use Rattle.event_store.specs.Holds.{ShowsStreams}
use Rattle.event_store.specs.Streams.{Streams}
use Rattle.event_store.specs.Telling.{IsOfOther}
use Rattle.event_store.proofs.Heard.{IsTold, IsOn}
use Rattle.event_store.proofs.telling.confirm_all.Given as goal

abbrev pub invariant-loop-row : goal.invariant-loop-row
invariant-loop-row g l =
    let old = g.K.Keeper.kept l.fn.keeper in
    let now = g.K.Keeper.kept l.keeper in
    record {
      still : Stays old.can_fail now.can_fail;
      rests : Rests old.faults now.faults;
      told : KeepsTold old.told now.told;
      later : old.faults ≤ now.faults;
      held : now.held ≡ old.held;
      doubts : now.doubts ≡ old.doubts;
      opened : is_some now.pending ≡ true;
      can : AllAre (IsOfOther l.own) (drop l.row-index l.rows);
      rest : (base : Store) (s : Streams) → s.own ≡ l.own → IsPending (ShowsStreams base s) old →
          IsPending (IsTold base s (drop l.row-index l.rows) l.rows) now;
      on : (m : Store) → old.pending ≡ Some (Some m) →
          IsPending (IsOn l.own (drop l.row-index l.rows) l.rows m) now;
    }
