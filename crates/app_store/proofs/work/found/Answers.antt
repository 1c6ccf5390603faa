use Rattle.std.proofs.Common.{◌∙◌, subst}
use Rattle.slon_base.specs.Keeper.{put_at}
use Rattle.app_store.specs.Steps.{Leaves}
use Rattle.app_store.proofs.work.found.Goals as goal

pub returns-clause-works : goal.returns-clause-works
returns-clause-works g c m held =
    let first = c.new.ensures in
    let next = c.new-2.ensures in
    let xids = c.new-3.ensures in
    let last = c.new-4.ensures in
    subst (λ f. Leaves f m c.transact.result (g.K.Keeper.kept c.transact.new.keeper))
    (λ i other. put_at (last.space i) (last.key i) ((last.value ∙ c.as_slice-3.ensures ∙ c.in_ok-stamp.ensures) i)
    (put_at (xids.space i) (xids.key i) ((xids.value ∙ c.as_slice-2.ensures ∙ c.in_ok-ceiling.ensures) i)
    (put_at (next.space i) (next.key i) ((next.value ∙ c.as_slice.ensures ∙ c.in_ok-ceiling.ensures) i)
    (put_at (first.space i) (first.key i) (first.value i) other))))
    (c.transact.ensures.leaves m held)
