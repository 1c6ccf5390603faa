use Rattle.std.proofs.Common.{◌∙◌, refl, sym, arith}
use Rattle.slon_model.specs.Names.{find_named}
use Rattle.app_store.specs.Base.{base_of}
use Rattle.app_store.proofs.Holding.{columns_small, columns_of}
use Rattle.app_store.proofs.Standing.{is_down, look_fell, up_from}
use Rattle.app_store.proofs.Upright.{up_at}
use Rattle.slon_model.specs.Tasks.{ToMake}
use Rattle.app_store.proofs.Transacting.{table_refused, table_made, table_doubted}
use Rattle.app_store.proofs.Halting.{halted, stopped}
use Rattle.app_store.proofs.Serving.{serves_well, serves_stop, serves_doubt, ran_or, ran_or_doubt, serves_settled}
use Rattle.app_store.proofs.Serving.{settled_stop, plain_fell}
use Rattle.app_store.proofs.database.Database.table.Goals as goal

pub returns-then-self-ge-STORED_LIMIT-clause-serves : goal.returns-then-self-ge-STORED_LIMIT-clause-serves
returns-then-self-ge-STORED_LIMIT-clause-serves g c = c.table_at_limit.ensures.serves c.args.columns

pub returns-then-self-ge-STORED_LIMIT-clause-hands : goal.returns-then-self-ge-STORED_LIMIT-clause-hands
returns-then-self-ge-STORED_LIMIT-clause-hands g c = c.table_at_limit.ensures.hands c.args.columns

pub returns-in-None-clause-serves : goal.returns-in-None-clause-serves
returns-in-None-clause-serves g c =
    serves_well (ToMake c.args.table.now c.args.columns) (base_of g.K.Keeper.kept c.args.self.now) _ _
    (c.if-not-self.false, refl) refl (ran_or refl (rw c.in-None.is at c.in-Ok.ensures.tries)) (λ p ready memory.
    let works =
    c.in-Ok.ensures.works ready.fits.held.0 (find_named c.args.table.now p.tables) ready.fits.held.1
    (columns_small c.args.table.now p.tables ready.spelled.narrow)
    (columns_of p ready.fits.held.0 c.args.table.now ready.fits.held.2) in
    let made = rw c.in-None.is at works in
    table_refused c.args.table.now c.args.columns _ (up_at ready c.if-not-self.false) made.0
    (record { held = made.1 ∙ sym ready.fits.held.1; later = c.in-Ok.ensures.tries.counted.later }))

pub returns-in-Done-clause-serves : goal.returns-in-Done-clause-serves
returns-in-Done-clause-serves g c =
    serves_well (ToMake c.args.table.now c.args.columns) (base_of g.K.Keeper.kept c.args.self.now) _ _
    (c.if-not-self.false, refl) refl (ran_or refl (rw (c.in-Some.is, c.in-Done.is) at c.in-Ok.ensures.tries))
    (λ p ready memory.
    let works =
    c.in-Ok.ensures.works ready.fits.held.0 (find_named c.args.table.now p.tables) ready.fits.held.1
    (columns_small c.args.table.now p.tables ready.spelled.narrow)
    (columns_of p ready.fits.held.0 c.args.table.now ready.fits.held.2) in
    let made = rw (c.in-Some.is, c.in-Done.is) at works in
    table_made c.args.table.now c.args.columns _ (up_at ready c.if-not-self.false)
    (record { absent = made.0; less = omega (arith, c.if-self-ge-STORED_LIMIT.false) })
    (record { held = made.1; later = c.in-Ok.ensures.tries.counted.later }))

pub returns-in-InDoubt-clause-serves : goal.returns-in-InDoubt-clause-serves
returns-in-InDoubt-clause-serves g c =
    let tries = rw (c.in-Some.is, c.in-InDoubt.is) at c.in-Ok.ensures.tries in
    serves_doubt (ToMake c.args.table.now c.args.columns) (base_of g.K.Keeper.kept c.args.self.now) _ _
    (c.if-not-self.false, refl)
    (record { ran = (ran_or_doubt tries); doubts = tries.doubts.1; fell = c.take_down.ensures.up })
    (λ p ready memory.
    let works =
    c.in-Ok.ensures.works ready.fits.held.0 (find_named c.args.table.now p.tables) ready.fits.held.1
    (columns_small c.args.table.now p.tables ready.spelled.narrow)
    (columns_of p ready.fits.held.0 c.args.table.now ready.fits.held.2) in
    let made = rw (c.in-Some.is, c.in-InDoubt.is) at works in
    table_doubted c.args.table.now c.args.columns _ (up_at ready c.if-not-self.false)
    (record { absent = made.0; less = omega (arith, c.if-self-ge-STORED_LIMIT.false) })
    (record {
      up = c.take_down.ensures.up;
      doubt = refl;
      identity = c.take_down.ensures.identity;
      later = c.in-Ok.ensures.tries.counted.later;
      either = made.1;
    }))

pub returns-in-Err-clause-serves : goal.returns-in-Err-clause-serves
returns-in-Err-clause-serves g c =
    serves_settled (ToMake c.args.table.now c.args.columns) (base_of g.K.Keeper.kept c.args.self.now) _ c.fall.result
    (settled_stop c.in-Err.stop c.fall.result _ c.fall.ensures.fault)
    (serves_stop (ToMake c.args.table.now c.args.columns)
    (base_of g.K.Keeper.kept c.args.self.now) _ c.in-Err.stop c.fall.result (c.if-not-self.false, refl)
    (halted _ _ _ _ _ (c.fall.ensures.fault, c.in-Err.ensures.tries.counted.within)
    ((ran_or refl c.in-Err.ensures.tries), (λ _. c.in-Err.ensures.tries.doubts)) c.fall.ensures.down.up)
    (λ p ready memory.
    let works =
    c.in-Err.ensures.works ready.fits.held.0 (find_named c.args.table.now p.tables) ready.fits.held.1
    (columns_small c.args.table.now p.tables ready.spelled.narrow)
    (columns_of p ready.fits.held.0 c.args.table.now ready.fits.held.2) in
    plain_fell (ToMake c.args.table.now c.args.columns) c.fall.result _ (up_at ready c.if-not-self.false) refl
    (look_fell p (base_of g.K.Keeper.kept c.args.self.now) _ c.in-Err.stop c.fall.result
    (up_from ready c.if-not-self.false) (works.0 ∙ sym ready.fits.held.1)
    (stopped _ _ _ _ (is_down c.fall.ensures.down) c.in-Err.ensures.tries.counted.failed
    c.fall.ensures.fault
    (memory, works.1)))))
