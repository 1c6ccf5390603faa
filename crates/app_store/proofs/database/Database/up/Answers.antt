use Rattle.std.proofs.Common.{◌∙◌, sym, ap, subst, arith}
use Rattle.store_rows.specs.Spending.{Stays}
use Rattle.node_keeper.specs.Fused.{fuse_kept}
use Rattle.app_store.specs.Base.{base_of}
use Rattle.app_store.proofs.Standing.{is_down}
use Rattle.app_store.proofs.MetaNumbers.{are_of}
use Rattle.app_store.proofs.Upright.{down_at}
use Rattle.app_store.proofs.Rising.{cleared, cleared_stays, cleared_told, fuse_stays, rises_ok, rises_err}
use Rattle.app_store.proofs.Serving.{serves_risen, serves_unrisen, ran_sure, worked_rollback, worked_on, worked_told}
use Rattle.app_store.proofs.database.Database.up.Goals as goal

pub returns-in-Ok-clause-arms : goal.returns-in-Ok-clause-arms
returns-in-Ok-clause-arms g c down =
    λ n most. c.in-Ok.ensures.sure.still n
    (cleared_stays (fuse_kept g.K.Keeper.kept c.args.self.now.keeper) c.disarm.ensures.kept
    c.rollback.ensures.rolls_back n most)

pub returns-in-Err-clause-arms : goal.returns-in-Err-clause-arms
returns-in-Err-clause-arms g c down =
    λ n most. c.in-Err.ensures.sure.still n
    (cleared_stays (fuse_kept g.K.Keeper.kept c.args.self.now.keeper) c.disarm.ensures.kept
    c.rollback.ensures.rolls_back n most)

pub returns-in-Ok-clause-serves : goal.returns-in-Ok-clause-serves
returns-in-Ok-clause-serves g c =
    let was = fuse_kept g.K.Keeper.kept c.args.self.now.keeper in
    let stays = subst (λ k. Stays was.can_fail k.can_fail) (sym c.disarm.ensures.kept)
    (fuse_stays g.K.Keeper.kept c.args.self.now.keeper) in
    serves_risen (base_of g.K.Keeper.kept c.args.self.now) _ c.settled-answer.result (record {
      ran = worked_told (ap (λ k. k.faults) c.disarm.ensures.kept) stays
          (worked_on (worked_rollback c.rollback.ensures.rolls_back)
          (ran_sure c.in-Ok.ensures.sure c.in-Ok.ensures.counted));
      told = λ told from. c.in-Ok.ensures.sure.told told
          (cleared_told was c.disarm.ensures.kept c.rollback.ensures.rolls_back told from);
    }) (λ p ready memory.
    let first = cleared was c.disarm.ensures.kept c.rollback.ensures.rolls_back in
    let restored = c.in-Ok.ensures.restores ready.fits.held.0 p.node p.stamp p.xids.ceiling p.numbers.ceiling
    (first.0 ∙ ready.fits.held.1) (are_of p ready.fits.held.0 ready.spelled ready.fits.held.2) in
    rises_ok _ c.settled-answer.result (down_at ready c.if-self.false) restored.0 (record {
      later = omega (arith, first.1, c.in-Ok.ensures.counted.later);
      answer_is = c.settled-answer.ensures;
      node = c.in-Ok.restored.node;
      starts = c.starting.ensures;
      known = restored.1;
    }))

pub returns-in-Err-clause-serves : goal.returns-in-Err-clause-serves
returns-in-Err-clause-serves g c =
    let was = fuse_kept g.K.Keeper.kept c.args.self.now.keeper in
    let stays = subst (λ k. Stays was.can_fail k.can_fail) (sym c.disarm.ensures.kept)
    (fuse_stays g.K.Keeper.kept c.args.self.now.keeper) in
    let ran = worked_told (ap (λ k. k.faults) c.disarm.ensures.kept) stays
    (worked_on (worked_rollback c.rollback.ensures.rolls_back)
    (ran_sure c.in-Err.ensures.sure c.in-Err.ensures.counted)) in
    serves_unrisen (base_of g.K.Keeper.kept c.args.self.now) _ c.in-Err.stop c.fall.result (record {
      ran = ran;
      told = λ told from. c.in-Err.ensures.sure.told told
          (cleared_told was c.disarm.ensures.kept c.rollback.ensures.rolls_back told from);
    }) (c.fall.ensures.fault, c.in-Err.ensures.counted.within, c.fall.ensures.down.up) (λ p ready memory.
    let first = cleared was c.disarm.ensures.kept c.rollback.ensures.rolls_back in
    let recovers = c.in-Err.ensures.restores ready.fits.held.0 p.node p.stamp p.xids.ceiling p.numbers.ceiling
    (first.0 ∙ ready.fits.held.1) (are_of p ready.fits.held.0 ready.spelled ready.fits.held.2) in
    rises_err _ c.in-Err.stop c.fall.result (down_at ready c.if-self.false) recovers.0 (record {
      down = is_down c.fall.ensures.down;
      rose = ran.rose;
      fault_is = c.fall.ensures.fault;
      no_memory = memory;
      only = recovers.1;
    }))

pub returns-in-Ok-clause-hands : goal.returns-in-Ok-clause-hands
returns-in-Ok-clause-hands g c m held space handed =
    let first = cleared (fuse_kept g.K.Keeper.kept c.args.self.now.keeper) c.disarm.ensures.kept
    c.rollback.ensures.rolls_back in
    c.in-Ok.ensures.form m (first.0 ∙ held) space handed.1
