use Rattle.std.proofs.Common.{◌∙◌, subst}
use Rattle.slon_base.specs.Keeper.{put_at}
use Rattle.app_store.specs.Steps.{Leaves}
use Rattle.app_store.proofs.work.make_ceiling.Goals as goal

pub returns-clause-works : goal.returns-clause-works
returns-clause-works g c m held =
    let first = c.new.ensures in
    let last = c.new-2.ensures in
    subst (λ f. Leaves f m c.transact.result (g.K.Keeper.kept c.transact.new.keeper))
    (λ i other. put_at (last.space i) (last.key i) ((last.value ∙ c.as_slice-3.ensures ∙ c.in_ok-stamp.ensures) i)
    (put_at (first.space i) ((first.key ∙ c.as_slice.ensures ∙ c.in_ok-key.ensures) i)
    ((first.value ∙ c.as_slice-2.ensures ∙ c.in_ok-ceiling.ensures) i) other))
    (c.transact.ensures.leaves m held)
