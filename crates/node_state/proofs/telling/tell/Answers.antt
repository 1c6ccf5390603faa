use Rattle.std.proofs.Common.{◌∙◌, inr}
use Rattle.std.proofs.lemmas.Result.{err_from_is_err_and}
use Rattle.node_state.proofs.Formed.{passes_on}
use Rattle.store_rows.proofs.Spaces.{sight_safe}
use Rattle.node_state.proofs.Counting.{status_formed}
use Rattle.node_state.proofs.telling.tell.Goals as goal

pub returns-clause-form : goal.returns-clause-form
returns-clause-form g c m seen =
    let log = c.in_ok-log.ensures in
    let views = c.in_ok-views.ensures in
    let read = sight_safe log.safe log.same ∙ seen in
    let later = sight_safe views.safe views.same ∙ read in
    status_formed c.args.own m (record { status = c.in_ok-log.log; small = log.small; spelled = log.found m seen })
    (views.form m read) (c.in_ok-progress.ensures.form m later)

pub returns-in_err-progress-clause-form : goal.returns-in_err-progress-clause-form
returns-in_err-progress-clause-form g c m seen =
    let log = c.in_ok-log.ensures in
    let views = c.in_ok-views.ensures in
    let read = sight_safe log.safe log.same ∙ seen in
    let later = sight_safe views.safe views.same ∙ read in
    let failed = c.from_residual-in_err-progress in
    passes_on _ _ failed.result (err_from_is_err_and failed.result failed.ensures.1)
    (λ space handed. inr (
      record { status = c.in_ok-log.log; small = log.small; spelled = log.found m seen },
      inr (views.found m read, handed),
    )) (c.in_err-progress.ensures.form m later)
