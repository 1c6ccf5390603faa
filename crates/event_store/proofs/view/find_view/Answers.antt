use Rattle.std.proofs.Common.{◌∙◌}
use Rattle.std.specs.Option.{option_map}
use Rattle.slon_model.specs.Maps.{entry_at}
use Rattle.event_store.proofs.Viewed.{view_as, view_can, view_spelled, view_found, view_read}
use Rattle.event_store.proofs.view.find_view.Goals as goal

pub returns-clause-says : goal.returns-clause-says
returns-clause-says g c m s seen held =
    let there = entry_at c.args.set s.views in
    view_found there c.get_row.result
    (c.get_row.ensures.gives m (option_map view_as there) seen
    (view_can there (held.views.spelled c.args.set c.requires))
    (held.views.lookups c.args.set c.requires ∙ view_spelled there))

pub returns-clause-form : goal.returns-clause-form
returns-clause-form g c m seen =
    view_read m c.args.set c.get_row.result c.get_row.ensures.space c.get_row.ensures.can
    (c.get_row.ensures.found m seen)
    (λ formed. c.get_row.ensures.gives m (option_map view_as formed.row) seen (view_can formed.row formed.can)
    (formed.spelled ∙ view_spelled formed.row))
