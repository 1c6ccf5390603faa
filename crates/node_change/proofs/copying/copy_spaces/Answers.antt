use Rattle.std.proofs.lemmas.Result.{err_from_is_err_and}
use Rattle.node_change.proofs.Both.{both_then, both_handed}
use Rattle.node_change.proofs.copying.copy_spaces.Goals as goal

pub returns-in_err-copy_space-clause-safe : goal.returns-in_err-copy_space-clause-safe
returns-in_err-copy_space-clause-safe g c =
    let i = c.loop-space.invariant in
    let result = c.from_residual.result in
    both_then _ _ result i.from_well i.to_well
    (both_handed _ _ _ _ result (err_from_is_err_and result c.from_residual.ensures.1) c.in_err-copy_space.ensures.safe)
