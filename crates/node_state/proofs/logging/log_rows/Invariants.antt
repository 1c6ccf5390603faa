use Rattle.std.proofs.Common.{◌≡◌, ◌<◌, ◌^◌, ◌++◌, true, drop}
use Rattle.std.specs.List.{AllByRecursion, list_all}
use Rattle.change_capture.specs.Spellings.{CanLogRow}
use Rattle.node_state.specs.Known.{is_captured, log_rows_of}
use Rattle.node_state.proofs.logging.log_rows.Given as goal

abbrev pub invariant-loop-action : goal.invariant-loop-action
invariant-loop-action l =
    record {
      captured : list_all is_captured (drop l.action-index l.actions) ≡ true;
      rows : l.rows ++ log_rows_of l.memory.members l.xid
          (drop l.action-index l.actions) ≡ log_rows_of l.memory.members l.xid l.actions;
      can : AllByRecursion (λ r. (r.0 < 2 ^ 63) × CanLogRow r.1) l.rows;
    }
