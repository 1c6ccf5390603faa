use Rattle.std.proofs.Common.{◌≡◌, ◌≤◌, ℕ, Some, drop, ◌++◌, filter}
use Rattle.slon_base.specs.Charges.{KeepsTold}
use Rattle.slon_base.specs.Codec.{AllAre}
use Rattle.slon_base.specs.Keeper.{Store, sight}
use Rattle.store_rows.specs.Spending.{Stays, Rests}
use Rattle.event_store.specs.Giving.{IsConfirmation}
use Rattle.event_store.specs.Holds.{HoldsStreams}
use Rattle.event_store.specs.Streams.{Streams}
use Rattle.event_store.specs.Telling.{is_news, IsOfOther, HandedRows}
use Rattle.event_store.proofs.telling.news.Given as goal

abbrev pub invariant-loop-row : goal.invariant-loop-row
invariant-loop-row g l =
    let old = g.K.Keeper.kept l.fn.keeper in
    let now = g.K.Keeper.kept l.keeper in
    record {
      still : Stays old.can_fail now.can_fail;
      rests : Rests old.faults now.faults;
      told : KeepsTold old.told now.told;
      later : old.faults ≤ now.faults;
      held : now.held ≡ old.held;
      doubts : now.doubts ≡ old.doubts;
      same : now.pending ≡ old.pending;
      can : AllAre IsConfirmation (drop l.row-index l.rows);
      others : AllAre (IsOfOther l.own) l.found;
      rest : (m : Store) (s : Streams) → sight old ≡ Some m → s.own ≡ l.own → HoldsStreams s m →
          l.found ++ filter (is_news s) (drop l.row-index l.rows) ≡ filter (is_news s) l.rows;
      fronts : (m : Store) (space : ℕ) → HandedRows m l.own (drop l.row-index l.rows) space →
          HandedRows m l.own l.rows space;
      left : (m : Store) → sight old ≡ Some m → (space : ℕ) → HandedRows m l.own l.rows space →
          HandedRows m l.own (drop l.row-index l.rows) space;
    }
