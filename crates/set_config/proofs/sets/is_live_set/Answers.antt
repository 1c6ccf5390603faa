use Rattle.std.proofs.Common.{ap, sym, is_some, ◌∙◌}
use Rattle.std.proofs.lemmas.Result.{err_from_is_err_and}
use Rattle.slon_model.specs.Config.{live_set}
use Rattle.set_config.proofs.Changed.{live_is}
use Rattle.set_config.proofs.Holding.{gives_stop}
use Rattle.set_config.proofs.sets.is_live_set.Goals as goal

pub returns-in_err-find_set-clause-gives : goal.returns-in_err-find_set-clause-gives
returns-in_err-find_set-clause-gives g c base config p =
    gives_stop _ c.from_residual.result (err_from_is_err_and c.from_residual.result c.from_residual.ensures.1)
    (c.in_err-find_set.ensures.gives base config p)

pub returns-in-None-clause-gives : goal.returns-in-None-clause-gives
returns-in-None-clause-gives g c base config p =
    ap (λ o. is_some (live_set o)) (sym c.in-None.is ∙ c.in_ok-find_set.ensures.gives base config p)

pub returns-in-Some-clause-gives : goal.returns-in-Some-clause-gives
returns-in-Some-clause-gives g c base config p =
    live_is c.in-Some.row
    ∙ ap (λ o. is_some (live_set o)) (sym c.in-Some.is ∙ c.in_ok-find_set.ensures.gives base config p)
