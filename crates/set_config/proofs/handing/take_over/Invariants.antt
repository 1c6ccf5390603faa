use Rattle.std.proofs.Common.{◌≡◌, ◌≤◌, true, is_some, drop}
use Rattle.slon_base.specs.Charges.{KeepsTold}
use Rattle.slon_base.specs.Keeper.{Store}
use Rattle.store_rows.specs.Space.{IsPending}
use Rattle.store_rows.specs.Spending.{Stays, Rests}
use Rattle.slon_model.specs.Config.{Config, taken_over}
use Rattle.set_config.specs.Holds.{Shows}
use Rattle.set_config.proofs.handing.take_over.Given as goal

abbrev pub invariant-loop-index : goal.invariant-loop-index
invariant-loop-index g l =
    let old = g.K.Keeper.kept l.fn.keeper in
    let now = g.K.Keeper.kept l.keeper in
    record {
      still : Stays old.can_fail now.can_fail;
      rests : Rests old.faults now.faults;
      told : KeepsTold old.told now.told;
      later : old.faults ≤ now.faults;
      held : now.held ≡ old.held;
      doubts : now.doubts ≡ old.doubts;
      opened : is_some now.pending ≡ true;
      turns : (base : Store) (c : Config) → IsPending (Shows base c) old → IsPending (Shows base
          (taken_over l.backup (drop l.index l.sets) c)) now;
    }
