use Rattle.std.proofs.Common.{◌∙◌, ap}
use Rattle.std.specs.Prelude.{◌==◌}
use Rattle.std.specs.List.{list_any}
use Rattle.std.proofs.lemmas.Result.{err_from_is_err_and}
use Rattle.node_state.proofs.Formed.{gives_stop}
use Rattle.remote_worker.proofs.Naming.{any_seen}
use Rattle.remote_worker.proofs.reading.receives_from.Goals as goal

pub returns-in_err-views-clause-says : goal.returns-in_err-views-clause-says
returns-in_err-views-clause-says g c m n seen held =
    gives_stop _ c.from_residual.result (err_from_is_err_and c.from_residual.result c.from_residual.ensures.1)
    (c.in_err-views.ensures.says m n seen held)

pub returns-clause-says : goal.returns-clause-says
returns-clause-says g c m n seen held =
    c.any_of.ensures ∙ ap (list_any (λ v. v.1.origin == c.args.origin)) c.as_slice.ensures.value
    ∙ any_seen c.args.origin c.in_ok-views.views
    ∙ ap (list_any (λ v. v.1.origin == c.args.origin)) (c.in_ok-views.ensures.says m n seen held)
