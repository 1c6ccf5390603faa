use Rattle.std.proofs.Common.{◌≡◌, ◌≤◌, ◌<◌, ◌-◌, ◌^◌, true, is_some, drop, length}
use Rattle.std.specs.List.{AllByRecursion}
use Rattle.std.specs.Option.{option_map}
use Rattle.slon_base.specs.Charges.{KeepsTold}
use Rattle.store_rows.specs.Spending.{Stays, Rests}
use Rattle.store_rows.proofs.Putting.{LeavesRoom}
use Rattle.change_capture.specs.Spellings.{CanLogRow}
use Rattle.log_switch.specs.Holds.{put_logs}
use Rattle.log_switch.proofs.appending.append.Given as goal

abbrev pub invariant-loop-number : goal.invariant-loop-number
invariant-loop-number g l =
    let old = g.K.Keeper.kept l.fn.keeper in
    let now = g.K.Keeper.kept l.keeper in
    record {
      still : Stays old.can_fail now.can_fail;
      puts : LeavesRoom (length l.rows - l.number-index) (length l.rows) old.puts now.puts;
      rests : Rests old.faults now.faults;
      told : KeepsTold old.told now.told;
      later : old.faults ≤ now.faults;
      held : now.held ≡ old.held;
      doubts : now.doubts ≡ old.doubts;
      opened : is_some now.pending ≡ true;
      can : AllByRecursion (λ r. (r.0 < 2 ^ 63) × CanLogRow r.1) (drop l.number-index l.rows);
      rest : option_map (option_map (put_logs l.origin
          (drop l.number-index l.rows))) now.pending ≡ option_map (option_map (put_logs l.origin l.rows)) old.pending;
    }
