use Rattle.std.proofs.Common.{◌∙◌, Some, refl, ap}
use Rattle.std.proofs.lemmas.Result.{err_from_is_err_and}
use Rattle.store_rows.proofs.Causes.{outside_within}
use Rattle.slon_model.specs.Membership.{first_of_cluster}
use Rattle.node_store.proofs.Midways.{midway_begun, midway_on, breaks_on, enters_as, enters_ends}
use Rattle.node_store.proofs.Becoming.{node_kept}
use Rattle.node_store.proofs.writing.write_first.Goals as goal

pub returns-in_err-found_node-clause-enters : goal.returns-in_err-found_node-clause-enters
returns-in_err-found_node-clause-enters g c =
    let founds = c.in_err-found_node.ensures in
    enters_as _ _ c.from_residual-in_err-found_node.result
    (err_from_is_err_and c.from_residual-in_err-found_node.result c.from_residual-in_err-found_node.ensures.1)
    (breaks_on _ (midway_begun c.in_ok-begin.ensures) founds.safe (outside_within _ founds.only) refl)

pub returns-clause-enters : goal.returns-clause-enters
returns-clause-enters g c =
    enters_ends c.keep_node.result (midway_on (midway_begun c.in_ok-begin.ensures) c.in_ok-found_node.ensures.safe)
    c.keep_node.ensures.safe c.keep_node.ensures.within

pub returns-clause-writes : goal.returns-clause-writes
returns-clause-writes g c run m cluster held none =
    let n = first_of_cluster c.args.id c.args.comment.now run in
    let turns = c.in_ok-found_node.ensures.turns run m cluster
    (c.in_ok-begin.ensures.opened ∙ ap (λ h. Some h) held) none in
    node_kept (g.K.Keeper.kept c.keep_node.new.keeper) n m turns.store c.args.stamp c.keep_node.result
    (c.as_slice.ensures ∙ c.in_ok-stamp.ensures, turns.has)
    (c.keep_node.ensures.keeps n m turns.store turns.is turns.has)
