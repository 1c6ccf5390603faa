use Rattle.std.proofs.Common.{◌≡◌, ◌∙◌, Some, None, refl, sym, ap}
use Rattle.std.specs.List.{position}
use Rattle.slon_model.specs.Tasks.{ToStop}
use Rattle.slonik_exec.specs.Turning.{is_this}
use Rattle.slonik_exec.proofs.Seated.{Turning, turning_at, none_at}
use Rattle.cluster_engine.specs.Clustered.{cluster_of}
use Rattle.cluster_engine.proofs.Turns.{unknown_acted, off_acted}
use Rattle.cluster_engine.proofs.cluster.Cluster.turn_off.Goals as goal

pub returns-in_default : goal.returns-in_default
returns-in_default g c =
    let items = c.args.self.now.databases.items in
    let none : position (is_this c.args.node) items ≡ None =
    ap (position (is_this c.args.node)) (sym c.deref.ensures.value) ∙ sym c.index_of_node.ensures ∙ c.in_default.is in
    unknown_acted (ToStop c.args.node) c.args.node _ (cluster_of g.K.Keeper.kept c.args.self.now) (λ w. refl)
    (λ w fits. none_at g.K.Keeper.kept c.args.node w.places items fits none)

pub returns : goal.returns
returns g c =
    let kept = g.K.Keeper.kept in
    let items = c.args.self.now.databases.items in
    let node = c.args.node in
    let d = c.index.result.now in
    let at : position (is_this node) items ≡ Some c.in-Some.i =
    ap (position (is_this node)) (sym c.deref.ensures.value) ∙ sym c.index_of_node.ensures ∙ c.in-Some.is in
    let t : Turning kept node items c.in-Some.i d =
    record { at = at; held = c.index.ensures; distinct = c.requires.distinct } in
    off_acted node (cluster_of kept c.args.self.now) d.name _ _
    (λ w fits. let f = turning_at w.places t fits in (f.place, f.first)) c.remove_slon.ensures c.forget.ensures
