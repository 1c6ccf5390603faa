use Rattle.std.proofs.Common.{◌≡◌, ◌-◌, ◌≤◌, length, suc}
use Rattle.slon_model.specs.Subscribing.{leads_to}
use Rattle.slonik_exec.proofs.feeds.leads_to.Given as goal

abbrev pub invariant-loop : goal.invariant-loop
invariant-loop l =
    record {
      few : l.counter ≤ length l.rows;
      leads : leads_to (suc (length l.rows - l.counter)) l.receiver l.rows l.node
          ≡ leads_to (suc (length l.rows)) l.receiver l.rows l.from;
    }
