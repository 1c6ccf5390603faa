use Rattle.std.proofs.Common.{◌∙◌, Some, ap, subst}
use Rattle.std.proofs.lemmas.Result.{err_from_is_err_and}
use Rattle.slon_model.specs.Membership.{joining}
use Rattle.node_change.specs.Both.{stopped}
use Rattle.node_change.proofs.Both.{stop_handed}
use Rattle.app_store.proofs.Pending.{exit_as}
use Rattle.node_store.specs.Acting.{WritesNode}
use Rattle.node_store.proofs.Becoming.{node_kept}
use Rattle.node_store.proofs.Midways.{midway_begun, midway_well, breaks_start, second_to, second_stops, second_handed}
use Rattle.node_store.proofs.Midways.{second_ends}
use Rattle.node_change.proofs.Both.{well_none}
use Rattle.app_store.specs.Steps.{Starts}
use Rattle.node_store.proofs.writing.write_node.Goals as goal

pub returns-in_err-sided-clause-enters : goal.returns-in_err-sided-clause-enters
returns-in_err-sided-clause-enters g c =
    let from = g.K.Keeper.kept c.args.from.now in
    let to = g.K.Keeper.kept c.args.to.now in
    let begun = g.K.Keeper.kept c.begin.new.keeper in
    second_handed from from to begun c.from_residual.result
    (err_from_is_err_and c.from_residual.result c.from_residual.ensures.1)
    (second_to c.in_err-sided.ensures.side well_none
    (breaks_start (subst (Starts to begun) c.in_err-sided.ensures.same c.begin.ensures)))

pub returns-in_err-join_node-clause-enters : goal.returns-in_err-join_node-clause-enters
returns-in_err-join_node-clause-enters g c =
    let result = c.from_residual-in_err-join_node.result in
    let from = g.K.Keeper.kept c.args.from.now in
    let from_new = g.K.Keeper.kept c.join_node.new.from in
    let to = g.K.Keeper.kept c.args.to.now in
    let to_new = g.K.Keeper.kept c.join_node.new.to in
    second_handed from from_new to to_new result
    (err_from_is_err_and result c.from_residual-in_err-join_node.ensures.1)
    (second_stops _ (record { from = from; from_new = from_new; to = to; to_new = to_new })
    (g.K.Keeper.kept c.begin.new.keeper)
    (midway_begun (subst (Starts to (g.K.Keeper.kept c.begin.new.keeper)) c.in_ok-sided.ensures.same c.begin.ensures))
    c.in_err-join_node.ensures.within c.in_err-join_node.ensures.safe)

pub returns-in_err-join_node-clause-writes : goal.returns-in_err-join_node-clause-writes
returns-in_err-join_node-clause-writes g c n run m t own cluster seen held known is none =
    let result = c.from_residual-in_err-join_node.result in
    let to = g.K.Keeper.kept c.args.to.now in
    let begun = g.K.Keeper.kept c.begin.new.keeper in
    let starts = subst (Starts to begun) c.in_ok-sided.ensures.same c.begin.ensures in
    exit_as (λ r. WritesNode (joining c.args.joining.new n run) t c.args.joining.node_stamp r
    (g.K.Keeper.kept c.join_node.new.to)) (stopped result)
    (stop_handed result (err_from_is_err_and result c.from_residual-in_err-join_node.ensures.1))
    (c.in_err-join_node.ensures.turns n run m t own cluster seen held known
    (starts.opened ∙ ap (λ h. Some h) is) none)

pub returns-clause-enters : goal.returns-clause-enters
returns-clause-enters g c =
    let joined = c.in_ok-join_node.ensures.safe in
    let to = g.K.Keeper.kept c.args.to.now in
    second_ends c.sided-2.result c.sided-2.ensures.same c.sided-2.ensures.side joined.0
    (midway_well (midway_begun
    (subst (Starts to (g.K.Keeper.kept c.begin.new.keeper)) c.in_ok-sided.ensures.same c.begin.ensures)) joined.1)
    (c.keep_node.ensures.safe, c.keep_node.ensures.within)

pub returns-clause-writes : goal.returns-clause-writes
returns-clause-writes g c n run m t own cluster seen held known is none =
    let to = g.K.Keeper.kept c.args.to.now in
    let begun = g.K.Keeper.kept c.begin.new.keeper in
    let starts = subst (Starts to begun) c.in_ok-sided.ensures.same c.begin.ensures in
    let joined = joining c.args.joining.new n run in
    let turns = c.in_ok-join_node.ensures.turns n run m t own cluster seen held known
    (starts.opened ∙ ap (λ h. Some h) is) none in
    subst (λ r. WritesNode joined t c.args.joining.node_stamp r (g.K.Keeper.kept c.keep_node.new.keeper))
    c.sided-2.ensures.same
    (node_kept (g.K.Keeper.kept c.keep_node.new.keeper) joined t turns.store c.args.joining.node_stamp
    c.keep_node.result (c.as_slice.ensures ∙ c.in-Ok.ensures, turns.has)
    (c.keep_node.ensures.keeps joined t turns.store turns.is turns.has))
