use Rattle.std.proofs.Common.{sym, ap, subst, ◌∙◌}
use Rattle.store_rows.specs.Space.{IsPending, Becomes}
use Rattle.store_rows.proofs.Spaces.{pending_as}
use Rattle.event_store.specs.Holds.{ShowsStreams}
use Rattle.node_change.proofs.Relaying.{same_views, told_by, views_by}
use Rattle.node_change.proofs.forwarding.tell_views.Goals as goal

pub returns-in-Nothing-clause-turns : goal.returns-in-Nothing-clause-turns
returns-in-Nothing-clause-turns g c base config s p =
    let own = c.args.own in
    let none = sym c.told_of.ensures.is ∙ c.in-Nothing.is in
    subst (λ views. IsPending (ShowsStreams base (record s { views = views })) (g.K.Keeper.kept c.args.keeper.now))
    (sym (told_by own c.args.body.now config s.views ∙ ap (views_by own config s.views) none))
    (pending_as (λ m both. same_views both.0) p)

pub returns-in-Forwards-clause-turns : goal.returns-in-Forwards-clause-turns
returns-in-Forwards-clause-turns g c base config s p =
    let own = c.args.own in
    let forwards = sym c.told_of.ensures.is ∙ c.in-Forwards.is in
    subst (λ views. Becomes (ShowsStreams base (record s { views = views }))
    (g.K.Keeper.kept c.begin_forwarding.new.keeper) c.begin_forwarding.result)
    (sym (told_by own c.args.body.now config s.views ∙ ap (views_by own config s.views) forwards))
    (c.begin_forwarding.ensures.turns base config s p)

pub returns-in-Leaves-clause-turns : goal.returns-in-Leaves-clause-turns
returns-in-Leaves-clause-turns g c base config s p =
    let own = c.args.own in
    let leaves = sym c.told_of.ensures.is ∙ c.in-Leaves.is in
    subst (λ views. Becomes (ShowsStreams base (record s { views = views }))
    (g.K.Keeper.kept c.drop_view.new.keeper) c.drop_view.result)
    (sym (told_by own c.args.body.now config s.views ∙ ap (views_by own config s.views) leaves))
    (c.drop_view.ensures.turns base s (pending_as (λ m both. both.0) p))
