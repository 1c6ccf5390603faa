use Rattle.std.proofs.Common.{ℕ, ◌∙◌, ap, is_some}
use Rattle.node_rows.specs.Spellings.{subscription_bytes}
use Rattle.slon_model.specs.Maps.{pair_at}
use Rattle.set_config.proofs.Entries.{some_mapped}
use Rattle.node_change.proofs.Lookups.{gives_found}
use Rattle.node_change.proofs.lookup.has_subscription.Goals as goal

pub returns-clause-says : goal.returns-clause-says
returns-clause-says g c m config seen held =
    let i : ℕ × ℕ = (c.args.set, c.args.receiver) in
    gives_found c.has_row.result (c.has_row.ensures.gives m seen) c.has_row.ensures.only
    (ap is_some (held.subscriptions.lookups i c.requires.ids)
    ∙ some_mapped subscription_bytes (pair_at i.0 i.1 config.subscriptions))
