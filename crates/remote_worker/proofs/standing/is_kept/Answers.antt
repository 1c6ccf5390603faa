use Rattle.std.proofs.Common.{◌∙◌, ◌+◌, ◌∷◌, drop, sym, ap}
use Rattle.std.proofs.lemmas.List.{drop_more, drop_all}
use Rattle.slon_model.specs.Maps.{entry_at}
use Rattle.slon_model.specs.Working.{is_view}
use Rattle.event_store.specs.Kept.{seen_view}
use Rattle.node_state.specs.Held.{seen_views}
use Rattle.remote_worker.proofs.Left.{kept_beside, kept_here}
use Rattle.remote_worker.proofs.standing.is_kept.Goals as goal

pub returns-then-set-id : goal.returns-then-set-id
returns-then-set-id c =
    let views = c.args.views.now in
    let at = c.loop-id.id-index in
    let item = c.loop-id-item.result in
    let more = drop (at + 1) views in
    let set = c.args.set in
    let step = drop_more views at item c.loop-id-test.true ∙ ap (λ v. v ∷ more) (sym c.loop-id-item.is) in
    c.is_same_view.ensures
    ∙ sym (ap (is_view (seen_view c.args.view.now)) (kept_here set item more (seen_views views) c.if-set-id.true
    (ap (λ vs. entry_at set (seen_views vs)) (sym step) ∙ c.loop-id.invariant)))

pub loop-id-preserved : goal.loop-id-preserved
loop-id-preserved c =
    let views = c.args.views.now in
    let at = c.loop-id.id-index in
    let item = c.loop-id-item.result in
    let more = drop (at + 1) views in
    let set = c.args.set in
    let step = drop_more views at item c.loop-id-test.true ∙ ap (λ v. v ∷ more) (sym c.loop-id-item.is) in
    kept_beside set item more (seen_views views) c.if-set-id.false
    (ap (λ vs. entry_at set (seen_views vs)) (sym step) ∙ c.loop-id.invariant)

pub returns : goal.returns
returns c =
    let views = c.args.views.now in
    let set = c.args.set in
    let end = drop_all c.loop-id.id-index views c.loop-id-test.false in
    ap (λ vs. is_view (seen_view c.args.view.now) (entry_at set (seen_views vs))) (sym end)
    ∙ ap (is_view (seen_view c.args.view.now)) c.loop-id.invariant
