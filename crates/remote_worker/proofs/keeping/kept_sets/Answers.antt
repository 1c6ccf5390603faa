use Rattle.std.proofs.Common.{◌≡◌, ◌∙◌, List, map, ap, subst}
use Rattle.std.proofs.lemmas.Result.{err_from_is_err_and}
use Rattle.store_rows.specs.Steps.{Gives}
use Rattle.store_rows.proofs.Spaces.{looked_none, looked_on, sight_same}
use Rattle.slon_model.specs.Deeds.{knowledge}
use Rattle.event_store.specs.Seen.{seen_event}
use Rattle.node_state.specs.Held.{seen_views}
use Rattle.node_state.proofs.Formed.{gives_stop}
use Rattle.node_state.proofs.Listing.{held_rows}
use Rattle.remote_worker.specs.declared.keeping.KeptSet.{KeptSet}
use Rattle.remote_worker.specs.Keeping.{kept_among, seen_kept}
use Rattle.remote_worker.proofs.Naming.{tables_held}
use Rattle.remote_worker.proofs.keeping.kept_sets.Goals as goal

pub returns-in_err-rows-clause-says : goal.returns-in_err-rows-clause-says
returns-in_err-rows-clause-says g c m n seen held =
    let moved = c.from_residual-in_err-rows in
    let rows = held_rows (knowledge n).config.tables (m 7) (tables_held held.config held.orderly) in
    let looked = looked_on looked_none c.in_ok-views.ensures.safe c.in_ok-views.ensures.same in
    gives_stop _ moved.result (err_from_is_err_and moved.result moved.ensures.1)
    (c.in_err-rows.ensures.gives m (knowledge n).config.tables (sight_same looked ∙ seen) rows.0 rows.1)

pub returns-clause-says : goal.returns-clause-says
returns-clause-says g c m n seen held =
    let config = (knowledge n).config in
    let e = seen_event c.args.event.now in
    let rows = held_rows config.tables (m 7) (tables_held held.config held.orderly) in
    let looked = looked_on looked_none c.in_ok-views.ensures.safe c.in_ok-views.ensures.same in
    let behind = looked_on looked c.in_ok-rows.ensures.safe c.in_ok-rows.ensures.same in
    subst (λ vs. Gives (λ (sets : List KeptSet). map seen_kept sets ≡ kept_among c.args.own config e vs)
    c.kept_among.result)
    (ap seen_views c.as_slice.ensures.value ∙ c.in_ok-views.ensures.says m n seen held)
    (c.kept_among.ensures.says m config (sight_same behind ∙ seen) held.config
    (c.as_slice-2.ensures.value
    ∙ c.in_ok-rows.ensures.gives m config.tables (sight_same looked ∙ seen) rows.0 rows.1))
