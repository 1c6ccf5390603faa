use Rattle.std.proofs.Common.{[], ◌∙◌, sym}
use Rattle.std.specs.FinMap.{entries}
use Rattle.slon_base.specs.Keeper.{after}
use Rattle.node_state.proofs.Formed.{if_ok}
use Rattle.node_state.proofs.Listing.{ranged_all, rows_formed}
use Rattle.node_state.proofs.entries.all_rows.Goals as goal

pub returns-clause-found : goal.returns-clause-found
returns-clause-found g c m seen =
    if_ok _ _ c.scan_rows.result (λ rows read. sym (ranged_all (after [] (entries (m c.args.space)))) ∙ read.1)
    (c.scan_rows.ensures.found m seen)

pub returns-clause-gives : goal.returns-clause-gives
returns-clause-gives g c m rows seen can is =
    c.scan_rows.ensures.gives m rows seen can (ranged_all (after [] (entries (m c.args.space))) ∙ is)

pub returns-clause-form : goal.returns-clause-form
returns-clause-form g c m seen =
    rows_formed g.X.Spelled.bytes g.X.Spelled.Can c.args.space m c.scan_rows.result c.scan_rows.ensures.space
    (c.scan_rows.ensures.found m seen)
    (λ rows. c.scan_rows.ensures.gives m rows seen)
