use Rattle.std.proofs.Common.{ℕ, ◌∙◌, ap, is_some}
use Rattle.slon_base.specs.Codec.{text_bytes}
use Rattle.slon_model.specs.Maps.{pair_at}
use Rattle.set_config.proofs.Entries.{some_mapped}
use Rattle.node_change.proofs.Lookups.{gives_found}
use Rattle.node_change.proofs.lookup.has_path.Goals as goal

pub returns-clause-says : goal.returns-clause-says
returns-clause-says g c m config seen held =
    let i : ℕ × ℕ = (c.args.client, c.args.server) in
    gives_found c.has_row.result (c.has_row.ensures.gives m seen) c.has_row.ensures.only
    (ap is_some (held.paths.lookups i c.requires.ids) ∙ some_mapped text_bytes (pair_at i.0 i.1 config.paths))
