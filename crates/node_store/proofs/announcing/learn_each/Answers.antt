use Rattle.std.proofs.Common.{◌+◌, ◌∷◌, drop, rules, subst, sym, ap, ◌∙◌}
use Rattle.std.proofs.lemmas.List.{drop_more, drop_all}
use Rattle.slon_base.specs.Codec.{AllAre}
use Rattle.node_rows.specs.declared.body.Body.{Body}
use Rattle.node_rows.specs.Spellings.{CanBody}
use Rattle.node_store.proofs.Learning.{IsLearning, none_learned, one_learned, all_learned}
use Rattle.node_store.proofs.announcing.learn_each.Goals as goal

pub loop-body-init : goal.loop-body-init
loop-body-init g =
    let rest : IsLearning g.args.bodies.now g.args.bodies.now g.args.node.now.members g.args.node.now.members =
    none_learned g.args.bodies.now g.args.node.now.members in
    search (rules, rest)

pub loop-body-preserved : goal.loop-body-preserved
loop-body-preserved g =
    let bodies = g.args.bodies.now in
    let at = g.loop-body.body-index in
    let more = drop (at + 1) bodies in
    let body : Body = g.body-item.result in
    let before = g.loop-body.invariant in
    let step = drop_more bodies at body g.loop-body-test.true ∙ ap (λ b. b ∷ more) (sym g.body-item.is) in
    let can = subst (AllAre CanBody) step before.can in
    let rest : IsLearning more bodies g.args.node.now.members g.learn.new.self.members =
    one_learned (subst (λ bs. IsLearning bs bodies g.args.node.now.members g.loop-body.node.members) step before.rest)
    g.in_ok-learn.ensures.members g.in_ok-learn.ensures.names in
    search (rules, rest, can)

pub returns-clause-learned : goal.returns-clause-learned
returns-clause-learned g =
    let bodies = g.args.bodies.now in
    let end = drop_all g.loop-body.body-index bodies g.loop-body-test.false in
    all_learned (subst (λ bs. IsLearning bs bodies g.args.node.now.members g.loop-body.node.members) end
    g.loop-body.invariant.rest)
