use Rattle.std.proofs.Common.{◌≡◌, ◌≤◌, true, is_some, Some}
use Rattle.std.specs.FinMap.{len}
use Rattle.slon_base.specs.Charges.{KeepsTold}
use Rattle.slon_base.specs.Keeper.{Store}
use Rattle.store_rows.specs.Spending.{Stays, Rests}
use Rattle.event_store.proofs.Clearing.{Clearing}
use Rattle.event_store.proofs.giving.clear_space.Given as goal

abbrev pub invariant-loop : goal.invariant-loop
invariant-loop g l =
    let old = g.K.Keeper.kept l.fn.keeper in
    let now = g.K.Keeper.kept l.keeper in
    record {
      still : Stays old.can_fail now.can_fail;
      rests : Rests old.faults now.faults;
      told : KeepsTold old.told now.told;
      later : old.faults ≤ now.faults;
      held : now.held ≡ old.held;
      doubts : now.doubts ≡ old.doubts;
      opened : is_some now.pending ≡ true;
      limited : (m : Store) → old.pending ≡ Some (Some m) → l.limit ≡ len (m l.space);
      clearing : (m : Store) → old.pending ≡ Some (Some m) → Clearing l.space m now l.counter;
    }
