use Rattle.std.proofs.lemmas.Result.{err_from_is_err_and}
use Rattle.store_rows.proofs.Spaces.{hands_stop}
use Rattle.set_config.proofs.handing.move_set.Goals as goal

pub returns-in_err-hand_set-clause-turns : goal.returns-in_err-hand_set-clause-turns
returns-in_err-hand_set-clause-turns g c base config p =
    hands_stop _ _ c.from_residual.result
    (err_from_is_err_and c.from_residual.result c.from_residual.ensures.1)
    (c.in_err-hand_set.ensures.turns base config p)

pub returns-clause-turns : goal.returns-clause-turns
returns-clause-turns g c base config p =
    c.unlock_set.ensures.turns base _ (c.in_ok-hand_set.ensures.turns base config p)
