use Rattle.std.proofs.Common.{sym}
use Rattle.std.proofs.lemmas.Result.{err_from_is_err_and}
use Rattle.store_rows.proofs.Spaces.{hands_stop, pending_same}
use Rattle.set_config.proofs.nodes.store_node.Goals as goal

pub returns-in_err-live-clause-turns : goal.returns-in_err-live-clause-turns
returns-in_err-live-clause-turns g c base config p =
    hands_stop _ _ c.from_residual.result (err_from_is_err_and c.from_residual.result c.from_residual.ensures.1)
    (c.in_err-live.ensures.gives base config p)

pub returns-clause-turns : goal.returns-clause-turns
returns-clause-turns g c base config p =
    let live = c.in_ok-live.ensures.gives base config p in
    let copied = c.in_ok-copy.ensures in
    rw (sym live) (rw (sym copied) (c.put_node.ensures.turns base config (pending_same p c.in_ok-live.ensures.same)))
