use Rattle.std.proofs.Common.{sym}
use Rattle.std.proofs.lemmas.Result.{err_from_is_err_and}
use Rattle.store_rows.proofs.Spaces.{hands_stop, pending_same}
use Rattle.set_config.proofs.nodes.drop_node.Goals as goal

pub returns-in_err-comment-clause-turns : goal.returns-in_err-comment-clause-turns
returns-in_err-comment-clause-turns g c base config p =
    hands_stop _ _ c.from_residual.result (err_from_is_err_and c.from_residual.result c.from_residual.ensures.1)
    (c.in_err-comment.ensures.gives base config p)

pub returns-clause-turns : goal.returns-clause-turns
returns-clause-turns g c base config p =
    let kept = c.in_ok-comment.ensures.gives base config p in
    rw (sym kept) (c.put_node.ensures.turns base config (pending_same p c.in_ok-comment.ensures.same))
