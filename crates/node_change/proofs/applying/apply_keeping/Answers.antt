use Rattle.event_store.specs.Seen.{seen_event}
use Rattle.slon_model.specs.Deeds.{nothing_brought}
use Rattle.node_change.proofs.Confirmed.{becomes_as}
use Rattle.node_change.proofs.Keeping.{kept_none, kept_on}
use Rattle.node_change.proofs.applying.apply_keeping.Goals as goal

pub returns-clause-turns : goal.returns-clause-turns
returns-clause-turns g c n m own is held takes home =
    let p = c.in_ok-apply.ensures.turns n m own is held takes home in
    becomes_as (g.K.Keeper.kept c.keep_set.new.keeper) (λ new has. kept_on new p.has.own has) c.keep_set.result
    (c.keep_set.ensures.turns n (seen_event c.args.event.now) nothing_brought p.store p.is (kept_none p.has).held)
