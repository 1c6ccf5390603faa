use Rattle.app_store.proofs.Halting.{stopped}
use Rattle.app_store.proofs.Upright.{up_at}
use Rattle.app_store.proofs.Lifting.{raised_ok, raised_big, raised_stop}
use Rattle.slon_model.specs.declared.numbering.Numbering.TheVariants.{Xids, Actions}
use Rattle.app_store.proofs.database.Database.raise.Goals as goal

pub returns-in-Ok-clause-raises : goal.returns-in-Ok-clause-raises
returns-in-Ok-clause-raises g c p ready memory =
    rw c.in-Xids.is
    (raised_ok Xids _ _ _ (up_at ready c.requires)
    (c.in-Ok.ensures.lifts ready.fits.held.0 ready.fits.held.1) c.in-Ok.ensures.counted.later)

pub returns-in-TooBig-clause-raises : goal.returns-in-TooBig-clause-raises
returns-in-TooBig-clause-raises g c p ready memory =
    rw c.in-Xids.is
    (raised_big Xids _ c.overflow.result (up_at ready c.requires)
    (rw c.in-TooBig.is at (c.in-Err.ensures.lifts ready.fits.held.0 ready.fits.held.1))
    (record {
      fault_is = c.overflow.ensures.fault;
      later = c.in-Err.ensures.counted.later;
      down = record {
        up = c.overflow.ensures.down.up;
        doubt = c.overflow.ensures.down.doubt;
        identity = c.overflow.ensures.down.identity;
      };
    }))

pub returns-in-Stopped-clause-raises : goal.returns-in-Stopped-clause-raises
returns-in-Stopped-clause-raises g c p ready memory =
    rw c.in-Xids.is
    (raised_stop Xids _ c.in-Stopped.stop c.fall.result (up_at ready c.requires)
    (rw c.in-Stopped.is at (c.in-Err.ensures.lifts ready.fits.held.0 ready.fits.held.1))
    (λ only. stopped _ _ _ _ (record {
      up = c.fall.ensures.down.up;
      doubt = c.fall.ensures.down.doubt;
      identity = c.fall.ensures.down.identity;
    }) (rw c.in-Stopped.is at c.in-Err.ensures.counted.failed) c.fall.ensures.fault (memory, only)))

pub returns-in-Ok-lift-clause-raises : goal.returns-in-Ok-lift-clause-raises
returns-in-Ok-lift-clause-raises g c p ready memory =
    rw c.in-Actions.is
    (raised_ok Actions _ _ _ (up_at ready c.requires)
    (c.in-Ok-lift.ensures.lifts ready.fits.held.0 ready.fits.held.1) c.in-Ok-lift.ensures.counted.later)

pub returns-in-TooBig-unlifted-clause-raises : goal.returns-in-TooBig-unlifted-clause-raises
returns-in-TooBig-unlifted-clause-raises g c p ready memory =
    rw c.in-Actions.is
    (raised_big Actions _ c.overflow-in-TooBig-unlifted.result (up_at ready c.requires)
    (rw c.in-TooBig-unlifted.is at (c.in-Err-lift.ensures.lifts ready.fits.held.0 ready.fits.held.1))
    (record {
      fault_is = c.overflow-in-TooBig-unlifted.ensures.fault;
      later = c.in-Err-lift.ensures.counted.later;
      down = record {
        up = c.overflow-in-TooBig-unlifted.ensures.down.up;
        doubt = c.overflow-in-TooBig-unlifted.ensures.down.doubt;
        identity = c.overflow-in-TooBig-unlifted.ensures.down.identity;
      };
    }))

pub returns-in-Stopped-unlifted-clause-raises : goal.returns-in-Stopped-unlifted-clause-raises
returns-in-Stopped-unlifted-clause-raises g c p ready memory =
    rw c.in-Actions.is
    (raised_stop Actions _ c.in-Stopped-unlifted.stop c.fall-in-Stopped-unlifted.result (up_at ready c.requires)
    (rw c.in-Stopped-unlifted.is at (c.in-Err-lift.ensures.lifts ready.fits.held.0 ready.fits.held.1))
    (λ only. stopped _ _ _ _ (record {
      up = c.fall-in-Stopped-unlifted.ensures.down.up;
      doubt = c.fall-in-Stopped-unlifted.ensures.down.doubt;
      identity = c.fall-in-Stopped-unlifted.ensures.down.identity;
    }) (rw c.in-Stopped-unlifted.is at c.in-Err-lift.ensures.counted.failed) c.fall-in-Stopped-unlifted.ensures.fault
    (memory, only)))
