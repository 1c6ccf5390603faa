use Rattle.std.proofs.lemmas.Result.{err_from_is_err_and}
use Rattle.store_rows.proofs.Spaces.{hands_stop}
use Rattle.set_config.proofs.handing.drop_set.Goals as goal

pub returns-in_err-end_set-clause-turns : goal.returns-in_err-end_set-clause-turns
returns-in_err-end_set-clause-turns g c base config p =
    hands_stop _ _ c.from_residual.result
    (err_from_is_err_and c.from_residual.result c.from_residual.ensures.1)
    (c.in_err-end_set.ensures.turns base config p)

pub returns-in_err-drop_tables-clause-turns : goal.returns-in_err-drop_tables-clause-turns
returns-in_err-drop_tables-clause-turns g c base config p =
    hands_stop _ _ c.from_residual-in_err-drop_tables.result
    (err_from_is_err_and c.from_residual-in_err-drop_tables.result c.from_residual-in_err-drop_tables.ensures.1)
    (c.in_err-drop_tables.ensures.turns base _ (c.in_ok-end_set.ensures.turns base config p))

pub returns-clause-turns : goal.returns-clause-turns
returns-clause-turns g c base config p =
    c.clear_receivers.ensures.turns base _ (c.in_ok-drop_tables.ensures.turns base _
    (c.in_ok-end_set.ensures.turns base config p))
