use Rattle.std.proofs.Common.{◌∙◌, ap}
use Rattle.std.specs.FinMap.{get}
use Rattle.slon_model.specs.Names.{find_named}
use Rattle.app_store.specs.Base.{base_of}
use Rattle.app_store.specs.Spelled.{tables}
use Rattle.app_store.proofs.Halting.{stopped}
use Rattle.app_store.proofs.Holding.{columns_small, columns_of}
use Rattle.app_store.proofs.Pending.{held_gives}
use Rattle.app_store.proofs.Standing.{is_down, look_fell, looked, up_from}
use Rattle.app_store.proofs.database.Database.width.Goals as goal

pub returns-in-Ok-clause-looks : goal.returns-in-Ok-clause-looks
returns-in-Ok-clause-looks g c p ready memory =
    let fits = ready.fits in
    let says = (held_gives (c.args.self.now.idle c.requires.up) c.in-Ok.ensures fits.held.0 fits.held.1).says
    (find_named c.args.table.now p.tables) (columns_small c.args.table.now p.tables ready.spelled.narrow)
    (ap (get (fits.held.0 tables)) (c.as_slice.ensures ∙ c.in_ok-key.ensures)
    ∙ columns_of p fits.held.0 c.args.table.now fits.held.2) in (
      says,
      looked p (base_of g.K.Keeper.kept c.args.self.now) _ fits c.in-Ok.ensures.held c.in-Ok.ensures.counted.later,
    )

pub returns-clause-looks : goal.returns-clause-looks
returns-clause-looks g c p ready memory =
    let fits = ready.fits in
    let says = (held_gives (c.args.self.now.idle c.requires.up) c.in-Err.ensures fits.held.0 fits.held.1).says
    (find_named c.args.table.now p.tables) (columns_small c.args.table.now p.tables ready.spelled.narrow)
    (ap (get (fits.held.0 tables)) (c.as_slice.ensures ∙ c.in_ok-key.ensures)
    ∙ columns_of p fits.held.0 c.args.table.now fits.held.2) in
    look_fell p (base_of g.K.Keeper.kept c.args.self.now) _ c.in-Err.stop c.fall.result (up_from ready c.requires.up)
    c.in-Err.ensures.held
    (stopped _ _ _ _ (is_down c.fall.ensures.down) c.in-Err.ensures.counted.failed c.fall.ensures.fault (memory, says))
