use Rattle.std.proofs.Common.{◌∙◌, is_some, refl, sym, ap, arith}
use Rattle.std.specs.FinMap.{get}
use Rattle.slon_model.specs.Names.{find_named}
use Rattle.app_store.specs.Base.{base_of}
use Rattle.app_store.specs.Spelled.{tables}
use Rattle.app_store.proofs.Holding.{columns_small, columns_of}
use Rattle.app_store.proofs.Pending.{held_gives}
use Rattle.app_store.proofs.Standing.{is_down, look_fell, up_from}
use Rattle.app_store.proofs.Upright.{up_at, is_looked}
use Rattle.slon_model.specs.Tasks.{ToMake}
use Rattle.app_store.proofs.Transacting.{table_refused, table_at_limit}
use Rattle.app_store.proofs.Halting.{halted, stopped}
use Rattle.app_store.proofs.Serving.{serves_well, serves_stop, serves_big, serves_settled, settled_big, settled_stop}
use Rattle.app_store.proofs.Serving.{ran_looks, plain_fell}
use Rattle.app_store.proofs.database.Database.table_at_limit.Goals as goal

pub returns-in-Some-clause-serves : goal.returns-in-Some-clause-serves
returns-in-Some-clause-serves g c columns =
    serves_well (ToMake c.args.table.now columns) (base_of g.K.Keeper.kept c.args.self.now) _ _
    (c.requires.up, refl) refl (ran_looks c.in-Ok.ensures) (λ p ready memory.
    let says =
    (held_gives (c.args.self.now.idle c.requires.up) c.in-Ok.ensures ready.fits.held.0 ready.fits.held.1).says
    (find_named c.args.table.now p.tables) (columns_small c.args.table.now p.tables ready.spelled.narrow)
    (ap (get (ready.fits.held.0 tables)) (c.as_slice.ensures ∙ c.in_ok-key.ensures)
    ∙ columns_of p ready.fits.held.0 c.args.table.now ready.fits.held.2) in
    table_refused c.args.table.now columns _ (up_at ready c.requires.up)
    (ap is_some (sym (rw c.in-Some.is at says))) (is_looked c.in-Ok.ensures))

pub returns-in-Ok-clause-serves : goal.returns-in-Ok-clause-serves
returns-in-Ok-clause-serves g c columns =
    serves_settled (ToMake c.args.table.now columns) (base_of g.K.Keeper.kept c.args.self.now) _ c.overflow.result
    (settled_big c.overflow.result c.overflow.ensures.fault)
    (serves_big (ToMake c.args.table.now columns) (base_of g.K.Keeper.kept c.args.self.now) _ c.overflow.result
    (c.requires.up, refl) (record {
      fault_is = c.overflow.ensures.fault;
      ran = (ran_looks c.in-Ok.ensures);
      needed = (omega (arith, c.requires.limit, c.overflow.ensures.down.stamp));
      fell = c.overflow.ensures.down.up;
    }) (λ p ready memory.
    let says =
    (held_gives (c.args.self.now.idle c.requires.up) c.in-Ok.ensures ready.fits.held.0 ready.fits.held.1).says
    (find_named c.args.table.now p.tables) (columns_small c.args.table.now p.tables ready.spelled.narrow)
    (ap (get (ready.fits.held.0 tables)) (c.as_slice.ensures ∙ c.in_ok-key.ensures)
    ∙ columns_of p ready.fits.held.0 c.args.table.now ready.fits.held.2) in
    table_at_limit c.args.table.now columns _ (up_at ready c.requires.up)
    (ap is_some (sym (rw c.in-None.is at says))) c.requires.limit
    (record { down = c.overflow.ensures.down; looked = is_looked c.in-Ok.ensures })))

pub returns-clause-serves : goal.returns-clause-serves
returns-clause-serves g c columns =
    serves_settled (ToMake c.args.table.now columns) (base_of g.K.Keeper.kept c.args.self.now) _ c.fall.result
    (settled_stop c.in-Err.stop c.fall.result _ c.fall.ensures.fault)
    (serves_stop (ToMake c.args.table.now columns) (base_of g.K.Keeper.kept c.args.self.now) _ c.in-Err.stop
    c.fall.result (c.requires.up, refl)
    (halted _ _ _ _ _ (c.fall.ensures.fault, c.in-Err.ensures.counted.within)
    ((ran_looks c.in-Err.ensures), (λ _. c.in-Err.ensures.doubts)) c.fall.ensures.down.up) (λ p ready memory.
    let says =
    (held_gives (c.args.self.now.idle c.requires.up) c.in-Err.ensures ready.fits.held.0 ready.fits.held.1).says
    (find_named c.args.table.now p.tables) (columns_small c.args.table.now p.tables ready.spelled.narrow)
    (ap (get (ready.fits.held.0 tables)) (c.as_slice.ensures ∙ c.in_ok-key.ensures)
    ∙ columns_of p ready.fits.held.0 c.args.table.now ready.fits.held.2) in
    plain_fell (ToMake c.args.table.now columns) c.fall.result _ (up_at ready c.requires.up) refl
    (look_fell p (base_of g.K.Keeper.kept c.args.self.now) _ c.in-Err.stop c.fall.result
    (up_from ready c.requires.up) c.in-Err.ensures.held
    (stopped _ _ _ _ (is_down c.fall.ensures.down) c.in-Err.ensures.counted.failed
    c.fall.ensures.fault
    (memory, says)))))
