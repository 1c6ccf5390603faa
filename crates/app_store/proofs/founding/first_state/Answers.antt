use Rattle.std.proofs.Common.{◌∙◌, refl, inl}
use Rattle.std.proofs.lemmas.Bool.{false≢true, true≢false}
use Rattle.node_keeper.specs.Fused.{fuse_kept}
use Rattle.app_store.specs.Base.{memory_of}
use Rattle.app_store.proofs.Standing.{is_down}
use Rattle.app_store.proofs.Rising.{begins_done, begins_doubt, begins_fault}
use Rattle.app_store.proofs.Halting.{stopped}
use Rattle.app_store.proofs.Serving.{worked_on, worked_rollback, ran_or, ran_or_doubt, founds_well, founds_doubt}
use Rattle.app_store.proofs.Serving.{founds_stop}
use Rattle.app_store.proofs.founding.first_state.Goals as goal

pub returns-in-None-clause-founds : goal.returns-in-None-clause-founds
returns-in-None-clause-founds g c =
    let tries = rw c.in-None.is at c.in-Ok.ensures.tries in
    founds_well _ _ _ refl (worked_on (worked_rollback c.rollback.ensures.rolls_back) (ran_or refl tries))
    (λ told from. tries.sure.told told (c.rollback.ensures.rolls_back.cause.told told from))
    (λ held memory. absurd (false≢true (rw c.in-None.is at
    (c.in-Ok.ensures.works (c.rollback.ensures.rolls_back.held ∙ held))).0))
    (λ m pair held. (
      inl refl,
      (rw c.in-None.is at
          (c.in-Ok.ensures.full m pair (c.rollback.ensures.rolls_back.held ∙ held))).1,
    ))

pub returns-in-Done-clause-founds : goal.returns-in-Done-clause-founds
returns-in-Done-clause-founds g c =
    let tries = rw (c.in-Some.is, c.in-Done.is) at c.in-Ok.ensures.tries in
    founds_well _ _ _ refl (worked_on (worked_rollback c.rollback.ensures.rolls_back) (ran_or refl tries))
    (λ told from. tries.sure.told told (c.rollback.ensures.rolls_back.cause.told told from))
    (λ held memory. begins_done _ c.fresh-in-Done.ensures (rw (c.in-Some.is, c.in-Done.is) at
    (c.in-Ok.ensures.works (c.rollback.ensures.rolls_back.held ∙ held))).1)
    (λ m pair held. absurd (true≢false (rw (c.in-Some.is, c.in-Done.is) at
    (c.in-Ok.ensures.full m pair (c.rollback.ensures.rolls_back.held ∙ held))).0))

pub returns-in-InDoubt-clause-founds : goal.returns-in-InDoubt-clause-founds
returns-in-InDoubt-clause-founds g c =
    let tries = rw (c.in-Some.is, c.in-InDoubt.is) at c.in-Ok.ensures.tries in
    founds_doubt _ _ _ (worked_on (worked_rollback c.rollback.ensures.rolls_back) (ran_or_doubt tries))
    (λ told from. tries.sure.told told (c.rollback.ensures.rolls_back.cause.told told from))
    (rw c.rollback.ensures.rolls_back.doubts at tries.doubts.1)
    (λ held memory. begins_doubt _ c.fresh-in-InDoubt.ensures (rw (c.in-Some.is, c.in-InDoubt.is) at
    (c.in-Ok.ensures.works (c.rollback.ensures.rolls_back.held ∙ held))).1)
    (λ m pair held. absurd (true≢false (rw (c.in-Some.is, c.in-InDoubt.is) at
    (c.in-Ok.ensures.full m pair (c.rollback.ensures.rolls_back.held ∙ held))).0))

pub returns-in-Err-clause-founds : goal.returns-in-Err-clause-founds
returns-in-Err-clause-founds g c =
    let tries = c.in-Err.ensures.tries in
    let ran = worked_on (worked_rollback c.rollback.ensures.rolls_back) (ran_or refl tries) in
    founds_stop _ c.in-Err.stop c.fall-fault.result _ (record {
      fault_is = c.fall-fault.ensures.fault;
      within = tries.counted.within;
      ran = ran;
      told = λ told from. tries.sure.told told (c.rollback.ensures.rolls_back.cause.told told from);
      doubts = tries.doubts ∙ c.rollback.ensures.rolls_back.doubts;
      full = λ m pair held.
          let leaves = c.in-Err.ensures.full m pair (c.rollback.ensures.rolls_back.held ∙ held) in
          (leaves.1, leaves.0);
    })
    (λ held memory. let works = c.in-Err.ensures.works (c.rollback.ensures.rolls_back.held ∙ held) in
    begins_fault (record {
      kept = fuse_kept g.K.Keeper.kept c.args.keeper.now;
      memory = memory_of c.fresh-state.result;
    }) _ c.in-Err.stop c.fall-fault.result c.fresh-state.ensures works.0
    (stopped _ _ _ _ (is_down c.fall-fault.ensures.down) ran.rose
    c.fall-fault.ensures.fault
    (memory, works.1)))
