use Rattle.std.proofs.Common.{refl, ap}
use Rattle.slon_base.specs.declared.charge.Charge.TheVariants.{After}
use Rattle.app_store.specs.Base.{base_of}
use Rattle.app_store.proofs.Upright.{up_at, untouched}
use Rattle.app_store.proofs.Rising.{crashes_now, crashes_later}
use Rattle.app_store.proofs.Serving.{serves_well, ran_not, serves_armed}
use Rattle.app_store.proofs.database.Database.crash.Goals as goal

pub returns-in-Now-clause-serves : goal.returns-in-Now-clause-serves
returns-in-Now-clause-serves g c =
    rw c.in-Now.is (serves_well _ (base_of g.K.Keeper.kept c.args.self.now) _ _ (c.if-not-self.false, refl) refl
    (ran_not _)
    (λ p ready memory. crashes_now _ (up_at ready c.if-not-self.false)
    (record { down = c.take_down.ensures; looked = untouched _ })))

pub returns-in-After-clause-serves : goal.returns-in-After-clause-serves
returns-in-After-clause-serves g c =
    rw c.in-After.is
    (serves_armed _ (base_of g.K.Keeper.kept c.args.self.now) _ refl c.if-not-self.false
    (c.arm.ensures.kept, ap (λ calls. After calls c.in-After.keep) c.from.ensures)
    (λ p ready memory. crashes_later _ _ refl (up_at ready c.if-not-self.false) c.arm.ensures.kept))

pub returns-in-AtCommit-clause-serves : goal.returns-in-AtCommit-clause-serves
returns-in-AtCommit-clause-serves g c =
    rw c.in-AtCommit.is
    (serves_armed _ (base_of g.K.Keeper.kept c.args.self.now) _ refl c.if-not-self.false
    (c.arm_commit.ensures.kept, refl)
    (λ p ready memory. crashes_later _ _ refl (up_at ready c.if-not-self.false) c.arm_commit.ensures.kept))
