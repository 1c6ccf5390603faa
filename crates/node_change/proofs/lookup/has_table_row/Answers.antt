use Rattle.std.proofs.Common.{◌∙◌, ap, is_some}
use Rattle.node_rows.specs.Spellings.{table_bytes}
use Rattle.slon_model.specs.Maps.{entry_at}
use Rattle.set_config.proofs.Entries.{some_mapped}
use Rattle.node_change.proofs.Lookups.{gives_found}
use Rattle.node_change.proofs.lookup.has_table_row.Goals as goal

pub returns-clause-says : goal.returns-clause-says
returns-clause-says g c m config seen held =
    gives_found c.has_row.result (c.has_row.ensures.gives m seen) c.has_row.ensures.only
    (ap is_some (held.tables.lookups c.args.id c.requires.id)
    ∙ some_mapped table_bytes (entry_at c.args.id config.tables))
