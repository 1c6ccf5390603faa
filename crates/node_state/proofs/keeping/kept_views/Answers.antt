use Rattle.std.proofs.Common.{◌≡◌, ◌∙◌, ℕ, List, [], Result, Ok, Err}
use Rattle.std.specs.Prelude.{IfOk}
use Rattle.std.specs.FinMap.{entries}
use Rattle.slon_base.specs.Codec.{number_bytes, AllAre}
use Rattle.slon_base.specs.Keeper.{after}
use Rattle.store_rows.specs.declared.stop.Stop.{Stop}
use Rattle.store_rows.specs.Rows.{IsId}
use Rattle.store_rows.specs.Scan.{spelled_rows}
use Rattle.event_store.specs.declared.view.View.{View}
use Rattle.event_store.specs.Kept.{seen_view}
use Rattle.node_state.specs.Handed.{AreViews}
use Rattle.slon_model.specs.Deeds.{knowledge}
use Rattle.event_store.specs.Spellings.{view_bytes, CanView}
use Rattle.node_state.proofs.Views.{views_as, views_can, views_spelled, found_views, are_views}
use Rattle.node_state.proofs.Listing.{HoldsMap, held_rows}
use Rattle.node_state.proofs.keeping.kept_views.Goals as goal

pub returns-clause-says : goal.returns-clause-says
returns-clause-says g c m n seen held =
    let views = (knowledge n).views in
    let map : HoldsMap view_bytes CanView views (m 9) =
    record { ordered = held.regular.views; holds = held.streams.views } in
    let rows = held_rows views (m 9) map in
    found_views views c.all_rows.result
    (c.all_rows.ensures.gives m (views_as views) seen (views_can views rows.0) (rows.1 ∙ views_spelled views))

pub returns-clause-found : goal.returns-clause-found
returns-clause-found g c m seen = both c.all_rows.result c.all_rows.ensures.can (c.all_rows.ensures.found m seen)
  where
    both : (result : Result (List (ℕ × View)) Stop) →
        IfOk result (AllAre (λ e. IsId e.0 × CanView (seen_view e.1))) →
        IfOk result
        (λ rows. after [] (entries (m 9)) ≡ spelled_rows [] number_bytes (λ v. view_bytes (seen_view v)) rows) →
        IfOk result (λ found. AreViews m)
    both (Ok rows) can spelled = are_views m (Ok rows) (can, spelled)
    both (Err stop) can spelled = tt
