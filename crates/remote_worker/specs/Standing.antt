-- Whether the view that stood as something was fetched stands still.
use Rattle.std.specs.Prelude.{Bool}
use Rattle.slon_model.specs.Maps.{entry_at}
use Rattle.slon_model.specs.Views.{Views}
use Rattle.slon_model.specs.Working.{is_view}
use Rattle.event_store.specs.Kept.{seen_view}
use Rattle.remote_worker.specs.declared.loading.SetFetch.{SetFetch}

-- where the node keeps these views
abbrev pub stands_in : Views → SetFetch → Bool
stands_in views f = is_view (seen_view f.before) (entry_at f.sync.set views)
