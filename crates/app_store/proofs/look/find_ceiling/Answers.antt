use Rattle.std.proofs.Common.{Some}
use Rattle.std.proofs.lemmas.Result.{err_from_is_err_and}
use Rattle.app_store.specs.Steps.{Says}
use Rattle.app_store.proofs.Formed.{passes_on, number_of}
use Rattle.app_store.proofs.Pending.{exit_as}
use Rattle.app_store.proofs.MetaNumbers.{some_same, not_some}
use Rattle.app_store.proofs.look.find_ceiling.Goals as goal

pub returns-in_err-number-clause-form : goal.returns-in_err-number-clause-form
returns-in_err-number-clause-form g c m seen =
    passes_on _ _ c.from_residual.result (err_from_is_err_and c.from_residual.result c.from_residual.ensures.1)
    (λ space lacks. (lacks.0, λ ceiling. lacks.1 (number_of ceiling))) (c.in_err-number.ensures.form m seen)

pub returns-in_err-number-clause-says : goal.returns-in_err-number-clause-says
returns-in_err-number-clause-says g c m number seen small is =
    exit_as (Says number) c.from_residual.result (err_from_is_err_and c.from_residual.result c.from_residual.ensures.1)
    (c.in_err-number.ensures.says m (Some number) seen small is)

pub returns-in-Some-clause-says : goal.returns-in-Some-clause-says
returns-in-Some-clause-says g c m number seen small is =
    some_same c.in-Some.number number (rw c.in-Some.is at (c.in_ok-number.ensures.says m (Some number) seen small is))

pub returns-in-None-clause-says : goal.returns-in-None-clause-says
returns-in-None-clause-says g c m number seen small is =
    absurd (not_some number (rw c.in-None.is at (c.in_ok-number.ensures.says m (Some number) seen small is)))
