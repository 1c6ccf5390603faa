use Rattle.std.proofs.Common.{[], ◌∷◌, ◌++◌, cond, ◌∙◌, sym, ap}
use Rattle.slon_model.specs.Rows.{member}
use Rattle.slonik_exec.proofs.Seated.{any_member}
use Rattle.cluster_engine.proofs.slons.add_slon.Goals as goal

pub returns-in_ok-push : goal.returns-in_ok-push
returns-in_ok-push c =
    let started = c.args.started.now.items in
    let is = c.contains.ensures.value ∙ any_member c.args.node c.deref.result.now
    ∙ ap (member c.args.node) c.deref.ensures.value in
    c.in_ok-push.ensures.items
    ∙ sym (ap (λ b. cond b started (started ++ c.args.node ∷ [])) (sym is ∙ c.if-not-contains.true))

pub returns-else-not-contains : goal.returns-else-not-contains
returns-else-not-contains c =
    let started = c.args.started.now.items in
    let is = c.contains.ensures.value ∙ any_member c.args.node c.deref.result.now
    ∙ ap (member c.args.node) c.deref.ensures.value in
    sym (ap (λ b. cond b started (started ++ c.args.node ∷ [])) (sym is ∙ c.if-not-contains.false))
