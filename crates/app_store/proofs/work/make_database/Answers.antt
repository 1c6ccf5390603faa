use Rattle.std.proofs.Common.{◌∙◌, subst, ap, ℕ, List, arith}
use Rattle.std.specs.FinMap.{len, len-empty}
use Rattle.slon_base.specs.Keeper.{nothing, key_cmp}
use Rattle.app_store.specs.Works.{TellsEmpty}
use Rattle.app_store.proofs.Pending.{sight-idle}
use Rattle.app_store.proofs.work.make_database.Goals as goal

pub returns-then-not-empty-clause-works : goal.returns-then-not-empty-clause-works
returns-then-not-empty-clause-works g c held =
    let told = subst (TellsEmpty nothing) c.if-not-empty.true (c.in_ok-empty.ensures.tells nothing
    (sight-idle (g.K.Keeper.kept c.args.keeper.now) c.requires ∙ held)) in
    absurd (omega (arith, told.1, len-empty key_cmp (List ℕ)))

pub returns-clause-full : goal.returns-clause-full
returns-clause-full g c m pair held =
    let told = subst (TellsEmpty m) c.if-not-empty.false (c.in_ok-empty.ensures.tells m
    (sight-idle (g.K.Keeper.kept c.args.keeper.now) c.requires ∙ held)) in
    absurd (omega (arith, pair.2, ap len (told pair.0 pair.1), len-empty key_cmp (List ℕ)))
