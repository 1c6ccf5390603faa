use Rattle.std.proofs.Common.{◌∙◌, Some, refl, ap, inl, inr}
use Rattle.std.proofs.lemmas.Result.{err_from_is_err_and}
use Rattle.app_store.specs.Works.{RecoversTo, Was, Founded}
use Rattle.app_store.proofs.Pending.{sight-idle, exit_as}
use Rattle.app_store.proofs.numbers.recover.Goals as goal

pub returns-in_err-numbers-clause-recovers : goal.returns-in_err-numbers-clause-recovers
returns-in_err-numbers-clause-recovers g c m stamp xids numbers held a b d is =
    let found = c.in_err-numbers.ensures.finds m (sight-idle (g.K.Keeper.kept c.args.keeper.now) c.requires
    ∙ held) stamp xids numbers a b d is in
    exit_as (λ r. RecoversTo m stamp xids numbers r (g.K.Keeper.kept c.find_numbers.new.keeper)) c.from_residual.result
    (err_from_is_err_and c.from_residual.result c.from_residual.ensures.1)
    (inl (c.in_err-numbers.ensures.safe.held ∙ held), found)

pub returns-in-Some-clause-recovers : goal.returns-in-Some-clause-recovers
returns-in-Some-clause-recovers g c m stamp xids numbers held a b d is =
    let found = rw c.in-Some.is at (c.in_ok-numbers.ensures.finds m
    (sight-idle (g.K.Keeper.kept c.args.keeper.now) c.requires ∙ held) stamp xids numbers a b d is) in
    Was found.3 (ap (λ n. Some n) found.0)
    (λ i. record { stamp = found.0 i; xid_ceiling = found.1 i; number_ceiling = found.2 i })
    (c.in_ok-numbers.ensures.safe.held ∙ held)

pub returns-in-Done-clause-recovers : goal.returns-in-Done-clause-recovers
returns-in-Done-clause-recovers g c m stamp xids numbers held a b d is =
    let found = c.in_ok-numbers.ensures.finds m (sight-idle (g.K.Keeper.kept c.args.keeper.now) c.requires
    ∙ held) stamp xids numbers a b d is in
    let zero = rw c.in-None.is at found in
    let work = c.in_ok-found-in-None.ensures.works m (c.in_ok-numbers.ensures.safe.held ∙ held) in
    Founded zero refl refl (rw c.in-Done.is at work)

pub returns-in-InDoubt-clause-recovers : goal.returns-in-InDoubt-clause-recovers
returns-in-InDoubt-clause-recovers g c m stamp xids numbers held a b d is =
    let found = c.in_ok-numbers.ensures.finds m (sight-idle (g.K.Keeper.kept c.args.keeper.now) c.requires
    ∙ held) stamp xids numbers a b d is in
    let zero = rw c.in-None.is at found in
    let work = c.in_ok-found-in-None.ensures.works m (c.in_ok-numbers.ensures.safe.held ∙ held) in
    let either = rw c.in-InDoubt.is at work in
    (elim either [ inl before ↦ inl before | inr after ↦ inr (zero, after) ], tt)
