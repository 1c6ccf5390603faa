use Rattle.std.proofs.Common.{◌∙◌, ap}
use Rattle.std.proofs.lemmas.Result.{err_from_is_err_and}
use Rattle.store_rows.proofs.Spaces.{looked_none, looked_on, sight_same}
use Rattle.slon_model.specs.Config.{leads_row, live_set}
use Rattle.node_state.proofs.Formed.{gives_stop}
use Rattle.node_state.proofs.Listing.{held_rows}
use Rattle.remote_worker.proofs.Naming.{names_in, tables_held}
use Rattle.remote_worker.proofs.Taking.{leads_same, names_all, own_names_none}
use Rattle.remote_worker.proofs.keeping.names_taken.Goals as goal

pub returns-then-leads-clause-says : goal.returns-then-leads-clause-says
returns-then-leads-clause-says g c m config seen held orderly =
    let own = c.args.own in
    c.new.ensures
    ∙ own_names_none own c.args.set config c.leads.result c.if-leads.true
    (c.leads.ensures ∙ leads_same own c.in_ok-row.row
    ∙ ap (λ r. leads_row own (live_set r)) (c.in_ok-row.ensures.says m config seen held))

pub returns-in_err-rows-clause-says : goal.returns-in_err-rows-clause-says
returns-in_err-rows-clause-says g c m config seen held orderly =
    let moved = c.from_residual-in_err-rows in
    let rows = held_rows config.tables (m 7) (tables_held held orderly) in
    let looked = looked_on looked_none c.in_ok-row.ensures.safe c.in_ok-row.ensures.same in
    gives_stop _ moved.result (err_from_is_err_and moved.result moved.ensures.1)
    (c.in_err-rows.ensures.gives m config.tables (sight_same looked ∙ seen) rows.0 rows.1)

pub returns-clause-says : goal.returns-clause-says
returns-clause-says g c m config seen held orderly =
    let own = c.args.own in
    let rows = held_rows config.tables (m 7) (tables_held held orderly) in
    let looked = looked_on looked_none c.in_ok-row.ensures.safe c.in_ok-row.ensures.same in
    c.in_ok-names_among.ensures.names
    ∙ ap (names_in c.args.set)
    (c.as_slice.ensures.value ∙ c.in_ok-rows.ensures.gives m config.tables (sight_same looked ∙ seen) rows.0 rows.1)
    ∙ names_all own c.args.set config c.leads.result c.if-leads.false
    (c.leads.ensures ∙ leads_same own c.in_ok-row.row
    ∙ ap (λ r. leads_row own (live_set r)) (c.in_ok-row.ensures.says m config seen held))
