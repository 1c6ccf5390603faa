use Rattle.std.proofs.Common.{is_some, refl}
use Rattle.slon_model.specs.Names.{find_named}
use Rattle.slon_model.specs.Place.{standing_rows}
use Rattle.app_store.specs.Base.{base_of}
use Rattle.app_store.proofs.Holding.{columns_small, columns_of}
use Rattle.app_store.proofs.Pending.{held_gives}
use Rattle.app_store.proofs.Standing.{is_down, look_fell, up_from}
use Rattle.app_store.proofs.Upright.{up_at, is_looked}
use Rattle.slon_model.specs.Tasks.{ToList}
use Rattle.app_store.proofs.Listing.{table_of}
use Rattle.app_store.proofs.Transacting.{rows_refused, rows_listed}
use Rattle.app_store.proofs.Halting.{halted, stopped}
use Rattle.app_store.proofs.Serving.{serves_well, serves_stop, ran_looks, none_is, some_is, plain_fell}
use Rattle.app_store.proofs.database.Database.rows.Goals as goal

pub returns-in-None-clause-serves : goal.returns-in-None-clause-serves
returns-in-None-clause-serves g c =
    serves_well (ToList c.args.table.now) (base_of g.K.Keeper.kept c.args.self.now) _ _ (c.if-not-self.false, refl) refl
    (ran_looks c.in-Ok.ensures) (λ p ready memory.
    let says =
    (held_gives (c.args.self.now.idle c.if-not-self.false) c.in-Ok.ensures ready.fits.held.0 ready.fits.held.1).says
    (find_named c.args.table.now p.tables) (standing_rows p c.args.table.now)
    (columns_small c.args.table.now p.tables ready.spelled.narrow)
    (columns_of p ready.fits.held.0 c.args.table.now ready.fits.held.2)
    (table_of p ready.fits.held.0 c.args.table.now c.requires ready.spelled ready.fits.held.2) in
    rows_refused c.args.table.now _ (up_at ready c.if-not-self.false)
    (none_is _ (is_some (find_named c.args.table.now p.tables)) (rw c.in-None.is at says))
    (is_looked c.in-Ok.ensures))

pub returns-in-Some-clause-serves : goal.returns-in-Some-clause-serves
returns-in-Some-clause-serves g c =
    serves_well (ToList c.args.table.now) (base_of g.K.Keeper.kept c.args.self.now) _ _ (c.if-not-self.false, refl) refl
    (ran_looks c.in-Ok.ensures) (λ p ready memory.
    let says =
    (held_gives (c.args.self.now.idle c.if-not-self.false) c.in-Ok.ensures ready.fits.held.0 ready.fits.held.1).says
    (find_named c.args.table.now p.tables) (standing_rows p c.args.table.now)
    (columns_small c.args.table.now p.tables ready.spelled.narrow)
    (columns_of p ready.fits.held.0 c.args.table.now ready.fits.held.2)
    (table_of p ready.fits.held.0 c.args.table.now c.requires ready.spelled ready.fits.held.2) in
    let both = some_is c.in-Some.rows _ (is_some (find_named c.args.table.now p.tables)) (rw c.in-Some.is at says) in
    rows_listed c.args.table.now _ c.in-Some.rows (up_at ready c.if-not-self.false) both.0 both.1
    (is_looked c.in-Ok.ensures))

pub returns-in-Err-clause-serves : goal.returns-in-Err-clause-serves
returns-in-Err-clause-serves g c =
    serves_stop (ToList c.args.table.now) (base_of g.K.Keeper.kept c.args.self.now) _ c.in-Err.stop c.fall.result
    (c.if-not-self.false, refl) (halted _ _ _ _ _ (c.fall.ensures.fault, c.in-Err.ensures.counted.within)
    ((ran_looks c.in-Err.ensures), (λ _. c.in-Err.ensures.doubts)) c.fall.ensures.down.up) (λ p ready memory.
    let says =
    (held_gives (c.args.self.now.idle c.if-not-self.false) c.in-Err.ensures ready.fits.held.0 ready.fits.held.1).says
    (find_named c.args.table.now p.tables) (standing_rows p c.args.table.now)
    (columns_small c.args.table.now p.tables ready.spelled.narrow)
    (columns_of p ready.fits.held.0 c.args.table.now ready.fits.held.2)
    (table_of p ready.fits.held.0 c.args.table.now c.requires ready.spelled ready.fits.held.2) in
    plain_fell (ToList c.args.table.now) c.fall.result _ (up_at ready c.if-not-self.false) refl
    (look_fell p (base_of g.K.Keeper.kept c.args.self.now) _ c.in-Err.stop c.fall.result
    (up_from ready c.if-not-self.false) c.in-Err.ensures.held
    (stopped _ _ _ _ (is_down c.fall.ensures.down) c.in-Err.ensures.counted.failed
    c.fall.ensures.fault
    (memory, says))))

pub returns-in-None-clause-hands : goal.returns-in-None-clause-hands
returns-in-None-clause-hands g c m held space handed =
    (held_gives (c.args.self.now.idle c.if-not-self.false) c.in-Ok.ensures m held).form space handed.1

pub returns-in-Some-clause-hands : goal.returns-in-Some-clause-hands
returns-in-Some-clause-hands g c m held space handed =
    (held_gives (c.args.self.now.idle c.if-not-self.false) c.in-Ok.ensures m held).form space handed.1
