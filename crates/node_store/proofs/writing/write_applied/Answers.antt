use Rattle.std.proofs.Common.{◌∙◌, Some, ap, arith, refl, subst, sym}
use Rattle.store_rows.specs.Steps.{IsOutside}
use Rattle.store_rows.proofs.Putting.{none_more, puts_on, puts_within}
use Rattle.node_store.specs.Bringing.{puts_allowed, puts_taken}
use Rattle.node_store.proofs.Taking.{outside_event, stamped}
use Rattle.node_store.proofs.Midways.{midway_begun, midway_on, enters_on}
use Rattle.node_store.proofs.writing.write_applied.Goals as goal

pub returns-in-Ok-clause-enters : goal.returns-in-Ok-clause-enters
returns-in-Ok-clause-enters g c =
    enters_on c.put_pair.result (midway_on (midway_begun c.in_ok-begin.ensures) c.in-Ok.ensures.safe)
    c.put_pair.ensures.safe c.put_pair.ensures.only

pub returns-in-Ok-clause-writes : goal.returns-in-Ok-clause-writes
returns-in-Ok-clause-writes g c n m p b own held can brought =
    stamped (record {
      number = c.args.stamp;
      bytes = c.as_slice.result.now;
      spelled = c.as_slice.ensures ∙ c.in_ok-stamp.ensures;
    }) (g.K.Keeper.kept c.put_pair.new.keeper) c.put_pair.result
    (c.in-Ok.ensures.takes n m p b own (c.in_ok-begin.ensures.opened ∙ ap (λ h. Some h) held) can brought)
    (c.put_pair.ensures.put, c.put_pair.ensures.only)

pub returns-clause-writes : goal.returns-clause-writes
returns-clause-writes g c n m p b own held can brought =
    subst IsOutside (sym c.event_stop.ensures.told) (outside_event c.in-Err.stop
    (c.in-Err.ensures.takes n m p b own (c.in_ok-begin.ensures.opened ∙ ap (λ h. Some h) held) can brought))

pub returns-in_err-stamp-clause-puts : goal.returns-in_err-stamp-clause-puts
returns-in_err-stamp-clause-puts g c deltas comes = puts_within 0 (puts_allowed deltas) (none_more refl) (omega arith)

pub returns-in_err-begin-clause-puts : goal.returns-in_err-begin-clause-puts
returns-in_err-begin-clause-puts g c deltas comes =
    puts_within 0 (puts_allowed deltas) c.in_err-begin.ensures.puts (omega arith)

pub returns-in-Ok-clause-puts : goal.returns-in-Ok-clause-puts
returns-in-Ok-clause-puts g c deltas comes =
    let taken = puts_taken deltas in
    puts_on taken 1 (puts_allowed deltas)
    (puts_on 0 taken taken c.in_ok-begin.ensures.puts (c.in-Ok.ensures.puts deltas comes) (omega arith))
    c.put_pair.ensures.puts (omega arith)

pub returns-clause-puts : goal.returns-clause-puts
returns-clause-puts g c deltas comes =
    puts_on 0 (puts_taken deltas) (puts_allowed deltas) c.in_ok-begin.ensures.puts (c.in-Err.ensures.puts deltas comes)
    (omega arith)
