use Rattle.std.proofs.Common.{◌≡◌, ◌≤◌, true, is_some}
use Rattle.std.specs.FinMap.{entries}
use Rattle.std.specs.Option.{option_map}
use Rattle.slon_base.specs.ByteMap.{pairs}
use Rattle.slon_base.specs.Charges.{KeepsTold}
use Rattle.store_rows.specs.Spending.{Stays, Rests}
use Rattle.app_store.specs.Spelled.{write_all}
use Rattle.app_store.proofs.transact.write_rows.Given as goal

abbrev pub invariant-loop-key : goal.invariant-loop-key
invariant-loop-key g l =
    let old = g.K.Keeper.kept l.fn.keeper in
    let now = g.K.Keeper.kept l.keeper in
    record {
      still : Stays old.can_fail now.can_fail;
      rests : Rests old.faults now.faults;
      told : KeepsTold old.told now.told;
      later : old.faults ≤ now.faults;
      held : now.held ≡ old.held;
      doubts : now.doubts ≡ old.doubts;
      opened : is_some now.pending ≡ true;
      rest : option_map (option_map (write_all (pairs l.key-iterator))) now.pending ≡ option_map (option_map (write_all
          (entries l.fn.rows))) old.pending;
    }
