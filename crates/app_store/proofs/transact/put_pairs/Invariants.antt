use Rattle.std.proofs.Common.{◌≡◌, ◌≤◌, true, is_some, drop}
use Rattle.std.specs.Option.{option_map}
use Rattle.slon_base.specs.Charges.{KeepsTold}
use Rattle.store_rows.specs.Spending.{Stays, Rests}
use Rattle.app_store.specs.Spelled.{put_all}
use Rattle.app_store.proofs.transact.put_pairs.Given as goal

abbrev pub invariant-loop-put : goal.invariant-loop-put
invariant-loop-put g l =
    let old = g.K.Keeper.kept l.fn.keeper in
    let now = g.K.Keeper.kept l.keeper in
    record {
      still : Stays old.can_fail now.can_fail;
      rests : Rests old.faults now.faults;
      told : KeepsTold old.told now.told;
      later : old.faults ≤ now.faults;
      held : now.held ≡ old.held;
      doubts : now.doubts ≡ old.doubts;
      opened : is_some now.pending ≡ true;
      rest : option_map (option_map (put_all
          (drop l.put-index l.puts))) now.pending ≡ option_map (option_map (put_all l.puts)) old.pending;
    }
