use Rattle.std.proofs.Common.{◌∙◌, ap, is_some}
use Rattle.node_rows.specs.Spellings.{fence_bytes}
use Rattle.slon_model.specs.Maps.{entry_at}
use Rattle.set_config.proofs.Entries.{some_mapped}
use Rattle.node_change.proofs.Lookups.{gives_found}
use Rattle.node_change.proofs.lookup.has_fence.Goals as goal

pub returns-clause-says : goal.returns-clause-says
returns-clause-says g c m config seen held =
    gives_found c.has_row.result (c.has_row.ensures.gives m seen) c.has_row.ensures.only
    (ap is_some (held.fences.lookups c.args.node c.requires.id)
    ∙ some_mapped fence_bytes (entry_at c.args.node config.fences))
