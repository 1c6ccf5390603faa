use Rattle.std.proofs.Common.{◌≡◌, refl, sym, ap, subst, ◌∙◌}
use Rattle.std.specs.Option.{option_map}
use Rattle.slon_base.specs.Codec.{IsText}
use Rattle.slon_base.specs.Keeper.{Store}
use Rattle.store_rows.specs.Space.{IsPending}
use Rattle.store_rows.proofs.Spaces.{becomes}
use Rattle.slon_model.specs.Membership.{first_of_cluster}
use Rattle.node_change.specs.Becoming.{IsNode, named}
use Rattle.node_change.proofs.FirstNodes.{with_own, first_made}
use Rattle.node_change.proofs.Naming.{named_node}
use Rattle.node_change.proofs.founding.found_node.Goals as goal

pub returns-clause-turns : goal.returns-clause-turns
returns-clause-turns g c run m cluster is none =
    let id = c.args.id in
    let comment = c.args.comment.now in
    let n = first_of_cluster id comment run in
    let put = with_own id c.in_ok-copy.field-0 in
    let pending : IsPending (λ mid. mid ≡ put m) (g.K.Keeper.kept c.put_row.new.keeper) = record {
      store = put m;
      is = c.in_ok-put_row.ensures.put ∙ ap (option_map (option_map put)) is;
      has = refl;
    } in
    let can = c.requires.can in
    let made = named_node (first_made id comment run m (can.0, subst IsText (sym cluster) can.1, can.2) none) in
    let same : named id run.cluster (with_own id comment m) ≡ named id c.args.cluster.now (put m) =
    λ k. named id (cluster k) (with_own id (sym c.in_ok-copy.ensures k) m) in
    becomes _ (named id c.args.cluster.now) _ c.put_identity.result c.put_identity.ensures.put
    c.put_identity.ensures.only pending
    (λ mid is. subst (λ (x : Store). IsNode n m (named id c.args.cluster.now x)) (sym is)
    (subst (λ (x : Store). IsNode n m x) same made))
