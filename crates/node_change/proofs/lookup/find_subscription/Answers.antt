use Rattle.std.proofs.Common.{ℕ}
use Rattle.slon_model.specs.Maps.{pair_at}
use Rattle.node_change.proofs.lookup.find_subscription.Goals as goal

pub returns-clause-says : goal.returns-clause-says
returns-clause-says g c m config seen held =
    let i : ℕ × ℕ = (c.args.set, c.args.receiver) in
    c.get_row.ensures.gives m (pair_at i.0 i.1 config.subscriptions) seen
    (held.subscriptions.spelled i c.requires.ids) (held.subscriptions.lookups i c.requires.ids)
