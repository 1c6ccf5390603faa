use Rattle.std.proofs.Common.{true, false, refl, subst}
use Rattle.slon_model.specs.Tasks.{ToStart}
use Rattle.slonik_exec.specs.Databases.{bases_of}
use Rattle.slonik_exec.specs.Reached.{HasNode}
use Rattle.cluster_engine.specs.Clustered.{cluster_of}
use Rattle.cluster_engine.proofs.Turns.{none_has, unknown_acted, on_acted}
use Rattle.cluster_engine.proofs.cluster.Cluster.turn_on.Goals as goal

pub returns-then-not-has_node : goal.returns-then-not-has_node
returns-then-not-has_node g c =
    unknown_acted (ToStart c.args.node) c.args.node _ (cluster_of g.K.Keeper.kept c.args.self.now) (λ w. refl)
    (none_has c.args.node (cluster_of g.K.Keeper.kept c.args.self.now).bases
    (subst (λ xs. HasNode c.args.node (bases_of {g = g.K.Keeper} g.K.Keeper.kept xs) false) c.deref.ensures.value
    (subst (HasNode c.args.node (bases_of g.K.Keeper.kept c.deref.result.now)) c.if-not-has_node.true
    c.has_node.ensures)))

pub returns : goal.returns
returns g c =
    on_acted c.args.node (cluster_of g.K.Keeper.kept c.args.self.now) _
    (subst (λ xs. HasNode c.args.node (bases_of {g = g.K.Keeper} g.K.Keeper.kept xs) true) c.deref.ensures.value
    (subst (HasNode c.args.node (bases_of g.K.Keeper.kept c.deref.result.now)) c.if-not-has_node.false
    c.has_node.ensures)) c.in_ok-add_slon.ensures
