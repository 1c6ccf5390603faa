use Rattle.std.proofs.Common.{◌≡◌, ◌∙◌, ℕ, Option, Ok, Err, ap}
use Rattle.std.specs.Prelude.{option_map}
use Rattle.slon_model.specs.Deeds.{knowledge, view_of}
use Rattle.slon_model.specs.Place.{Place}
use Rattle.event_store.specs.declared.view.View.{View}
use Rattle.event_store.specs.Kept.{seen_view}
use Rattle.node_store.specs.Polling.{OfNode}
use Rattle.remote_worker.specs.Fetching.{seen_of}
use Rattle.remote_worker.proofs.Looking.{looked_up, seen_fails, seen_so}
use Rattle.remote_worker.proofs.fetching.kept_seen.Goals as goal

-- what is looked up of the view
abbrev ViewAt : ℕ → Place → Option View → Type 0
ViewAt set = OfNode (λ k found. option_map seen_view found ≡ view_of set (knowledge k))

pub returns-in_ok-seen_in-in-Ok-clause-looks : goal.returns-in_ok-seen_in-in-Ok-clause-looks
returns-in_ok-seen_in-in-Ok-clause-looks g c =
    seen_so (λ q says k there. c.in_ok-seen_in-in-Ok.ensures.seen ∙ ap (seen_of c.args.era) (says k there))
    (looked_up (ViewAt c.args.set) (Ok c.in-Ok.view) c.in-Ok.ensures.acts c.in-Ok.ensures.looks c.in-Ok.ensures.same)

pub returns-in-Err-clause-looks : goal.returns-in-Err-clause-looks
returns-in-Err-clause-looks g c =
    seen_fails (looked_up (ViewAt c.args.set) (Err c.in-Err.fault) c.in-Err.ensures.acts c.in-Err.ensures.looks
    c.in-Err.ensures.same)
