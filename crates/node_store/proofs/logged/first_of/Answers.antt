use Rattle.std.proofs.Common.{◌∙◌, Some, sym, ap}
use Rattle.slon_laws.specs.Spelled.{logs_in}
use Rattle.app_store.proofs.Upright.{running, up_at}
use Rattle.node_store.proofs.Skipping.{ended_own, none_ended}
use Rattle.node_store.proofs.logged.first_of.Goals as goal

pub returns-in-Some-clause-over : goal.returns-in-Some-clause-over
returns-in-Some-clause-over g c p ready =
    let runs = (running (up_at ready c.requires.up)).1 in
    ended_own c.args.origin c.first_number.result c.args.xmin p c.args.database.now.state.node.identity
    (runs.known.identity_is, sym c.in-Some.ensures.id ∙ ap (λ n. Some n) c.if-own-origin.true)
    ready.spelled.owned (c.first_number.ensures.older p ready)

pub returns-in_default-clause-over : goal.returns-in_default-clause-over
returns-in_default-clause-over g c p ready = none_ended c.args.origin c.args.xmin (logs_in p.node)
