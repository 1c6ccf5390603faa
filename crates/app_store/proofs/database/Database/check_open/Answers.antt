use Rattle.std.proofs.Common.{◌∙◌, refl, sym, arith}
use Rattle.app_store.specs.Base.{base_of}
use Rattle.app_store.specs.Targets.{IsOpen, IsShut, StopsOpen}
use Rattle.app_store.proofs.Halting.{stopped}
use Rattle.app_store.proofs.Pending.{sight-idle}
use Rattle.app_store.proofs.Standing.{is_down, look_fell, looked, up_from, up_running}
use Rattle.app_store.proofs.database.Database.check_open.Goals as goal

pub returns-in-None-clause-finds : goal.returns-in-None-clause-finds
returns-in-None-clause-finds g c p ready memory =
    let b = base_of g.K.Keeper.kept c.args.self.now in
    let says = c.in-Ok.ensures.says ready.fits.held.0 p.node
    (sight-idle b.kept (c.args.self.now.idle c.requires.up) ∙ ready.fits.held.1) ready.fits.held.2.node_held
    (up_running p b ready.fits c.requires.up).1.known in
    IsOpen refl (sym (rw c.in-None.is at says))
    (looked p b _ ready.fits c.in-Ok.ensures.safe.held c.in-Ok.ensures.safe.later)

pub returns-in-None-clause-form : goal.returns-in-None-clause-form
returns-in-None-clause-form g c m held =
    let b = base_of g.K.Keeper.kept c.args.self.now in
    let seen = sight-idle b.kept (c.args.self.now.idle c.requires.up) ∙ held in (
      rw c.in-None.is at (c.in-Ok.ensures.tells m seen),
      c.in-Ok.ensures.form m seen,
      record { memory = refl; held = c.in-Ok.ensures.safe.held },
    )

pub returns-in-Some-clause-finds : goal.returns-in-Some-clause-finds
returns-in-Some-clause-finds g c p ready memory =
    let b = base_of g.K.Keeper.kept c.args.self.now in
    let says = c.in-Ok.ensures.says ready.fits.held.0 p.node
    (sight-idle b.kept (c.args.self.now.idle c.requires.up) ∙ ready.fits.held.1) ready.fits.held.2.node_held
    (up_running p b ready.fits c.requires.up).1.known in
    IsShut c.in-Some.fault refl (sym (rw c.in-Some.is at says))
    (looked p b _ ready.fits c.in-Ok.ensures.safe.held c.in-Ok.ensures.safe.later)

pub returns-in-Err-clause-finds : goal.returns-in-Err-clause-finds
returns-in-Err-clause-finds g c p ready memory =
    let b = base_of g.K.Keeper.kept c.args.self.now in
    let says = c.in-Err.ensures.says ready.fits.held.0 p.node
    (sight-idle b.kept (c.args.self.now.idle c.requires.up) ∙ ready.fits.held.1) ready.fits.held.2.node_held
    (up_running p b ready.fits c.requires.up).1.known in
    StopsOpen c.fall.result refl
    (look_fell p b _ c.in-Err.stop c.fall.result (up_from ready c.requires.up) c.in-Err.ensures.safe.held
    (stopped _ _ _ _ (is_down c.fall.ensures.down)
    (λ failed. c.in-Err.ensures.safe.rises failed _ (omega arith)) c.fall.ensures.fault (memory, says)))
