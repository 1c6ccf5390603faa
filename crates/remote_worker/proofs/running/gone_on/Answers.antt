use Rattle.std.proofs.Common.{◌∙◌, ◌++◌, [], ◌∷◌, append_assoc, ap, sym}
use Rattle.std.proofs.lemmas.Result.{IfOk-weaker}
use Rattle.remote_worker.specs.Running.{sets_in, sets_of_all}
use Rattle.remote_worker.proofs.running.gone_on.Goals as goal

pub returns-then-is_beside-clause-sets : goal.returns-then-is_beside-clause-sets
returns-then-is_beside-clause-sets c =
    let before = sets_of_all c.args.runs.now in
    IfOk-weaker c.longer.result _ _ (λ last is.
    ap (λ sets. before ++ sets) is ∙ sym (append_assoc before (sets_in c.args.run) (c.args.kept ∷ [])))
    c.longer.ensures.sets
