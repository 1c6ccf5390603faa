use Rattle.std.proofs.Common.{Some, arith, subst}
use Rattle.store_rows.specs.Spending.{PutsUpTo}
use Rattle.store_rows.proofs.Putting.{puts_within}
use Rattle.event_store.specs.Seen.{seen_event}
use Rattle.slon_model.specs.Place.{standing_rows}
use Rattle.node_store.specs.Bringing.{IsBrought, puts_taken}
use Rattle.node_store.proofs.Allowing.{deltas_are, no_deltas}
use Rattle.node_store.proofs.Taking.{becomes_plainly}
use Rattle.node_store.specs.declared.bringing.Brought.{Brought}
use Rattle.node_store.proofs.bringing.take.Goals as goal

pub returns-in-None-clause-takes : goal.returns-in-None-clause-takes
returns-in-None-clause-takes g c n m p b own is can none =
    becomes_plainly n (seen_event c.args.event.now) b
    (record { tables = standing_rows p; store = m; holds = can.rows }) (g.K.Keeper.kept c.apply.new.keeper)
    c.apply.result (subst (IsBrought (seen_event c.args.event.now).origin p b) c.in-None.is none)
    (c.apply.ensures.turns n m own is can.held can.takes can.home)

pub returns-in-Some-Syncs-clause-takes : goal.returns-in-Some-Syncs-clause-takes
returns-in-Some-Syncs-clause-takes g c n m p b own is can brought =
    let origin = (seen_event c.args.event.now).origin in
    let some = subst (IsBrought origin p b) c.in-Some-Syncs.is brought in
    c.take_syncs.ensures.takes n m p b own is can
    (subst (λ (given : Brought). IsBrought origin p b (Some given)) c.in-Some-Syncs.field-0-is some)

pub returns-in-None-clause-puts : goal.returns-in-None-clause-puts
returns-in-None-clause-puts g c deltas comes =
    puts_within 3 (puts_taken deltas) (c.apply.ensures.puts comes.sync) (omega arith)

pub returns-in-Some-Copy-clause-puts : goal.returns-in-Some-Copy-clause-puts
returns-in-Some-Copy-clause-puts g c deltas comes =
    absurd (no_deltas c.in-Some-Copy.is c.in-Some-Copy.field-0-is comes.brings)

pub returns-in-Some-Syncs-clause-puts : goal.returns-in-Some-Syncs-clause-puts
returns-in-Some-Syncs-clause-puts g c deltas comes =
    let old = (g.K.Keeper.kept c.args.keeper.now).puts in
    let new = (g.K.Keeper.kept c.take_syncs.new.keeper).puts in
    subst (λ ds. PutsUpTo (puts_taken ds) old new)
    (deltas_are c.in-Some-Syncs.is c.in-Some-Syncs.field-0-is comes.brings) (c.take_syncs.ensures.puts comes.sync)
