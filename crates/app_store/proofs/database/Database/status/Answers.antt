use Rattle.std.proofs.Common.{refl}
use Rattle.slon_model.specs.World.{halt_in}
use Rattle.node_state.specs.Handed.{HandedStatus}
use Rattle.app_store.specs.Handed.{HandedTold}
use Rattle.app_store.proofs.Handing.{tells_acting, tells_stop}
use Rattle.slon_model.specs.Tasks.{ToTell}
use Rattle.app_store.specs.Base.{base_of}
use Rattle.app_store.proofs.Halting.{halted, stopped}
use Rattle.app_store.proofs.MetaNumbers.{log_of_place}
use Rattle.app_store.proofs.Pending.{held_gives}
use Rattle.app_store.proofs.Serving.{serves_well, serves_stop, ran_looks, ran_not, plain_fell}
use Rattle.app_store.proofs.Standing.{is_down, look_fell, up_from}
use Rattle.app_store.proofs.Telling.{told_none, told_some, node_known, nobody_handed, node_handed}
use Rattle.app_store.proofs.Telling.{handed_node}
use Rattle.app_store.proofs.Upright.{up_at, is_looked, running}
use Rattle.app_store.proofs.database.Database.status.Goals as goal

pub returns-in-None-clause-serves : goal.returns-in-None-clause-serves
returns-in-None-clause-serves g c =
    serves_well ToTell (base_of g.K.Keeper.kept c.args.self.now) _ _ (c.if-not-self.false, refl) refl (ran_not _)
    (λ p ready memory.
    told_none (up_at ready c.if-not-self.false) c.in-None.ensures.value c.new.ensures c.new-in-None.ensures)

pub returns-in-Ok-clause-serves : goal.returns-in-Ok-clause-serves
returns-in-Ok-clause-serves g c =
    serves_well ToTell (base_of g.K.Keeper.kept c.args.self.now) _ _ (c.if-not-self.false, refl) refl
    (ran_looks c.in-Ok.ensures) (λ p ready memory.
    let at = up_at ready c.if-not-self.false in
    let known = node_known p.node (running at).1.known.identity_is c.in-Some.ensures.value in
    let says = (held_gives (c.args.self.now.idle c.if-not-self.false) c.in-Ok.ensures ready.fits.held.0
    ready.fits.held.1).says known.0 known.2 (known.3 ready.fits.held.0 ready.fits.held.2.node_held)
    (log_of_place known.0 ready.fits.held.2 (running at).1.founded known.1) in
    told_some known.0 _ c.in-Ok.answer at known.1 says (is_looked c.in-Ok.ensures))

pub returns-in-Err-clause-serves : goal.returns-in-Err-clause-serves
returns-in-Err-clause-serves g c =
    serves_stop ToTell (base_of g.K.Keeper.kept c.args.self.now) _ c.in-Err.stop c.fall.result
    (c.if-not-self.false, refl) (halted _ _ _ _ _ (c.fall.ensures.fault, c.in-Err.ensures.counted.within)
    ((ran_looks c.in-Err.ensures), (λ _. c.in-Err.ensures.doubts)) c.fall.ensures.down.up) (λ p ready memory.
    let at = up_at ready c.if-not-self.false in
    let known = node_known p.node (running at).1.known.identity_is c.in-Some.ensures.value in
    let says = (held_gives (c.args.self.now.idle c.if-not-self.false) c.in-Err.ensures ready.fits.held.0
    ready.fits.held.1).says known.0 known.2 (known.3 ready.fits.held.0 ready.fits.held.2.node_held)
    (log_of_place known.0 ready.fits.held.2 (running at).1.founded known.1) in
    plain_fell ToTell c.fall.result _ at (rw (known.1) refl)
    (look_fell p (base_of g.K.Keeper.kept c.args.self.now) _ c.in-Err.stop c.fall.result
    (up_from ready c.if-not-self.false) c.in-Err.ensures.held
    (stopped _ _ _ _ (is_down c.fall.ensures.down) c.in-Err.ensures.counted.failed
    c.fall.ensures.fault (memory, says))))

pub returns-in-None-clause-hands : goal.returns-in-None-clause-hands
returns-in-None-clause-hands g c m held space handed =
    nobody_handed c.args.self.now.state.node.identity m space c.in-None.ensures.value handed.1

pub returns-in-Ok-clause-hands : goal.returns-in-Ok-clause-hands
returns-in-Ok-clause-hands g c m held space handed =
    (held_gives (c.args.self.now.idle c.if-not-self.false) c.in-Ok.ensures m held).form space
    (node_handed c.args.self.now.state.node.identity m space c.in-Some.ensures.value handed.1)

pub returns-in-Err-clause-hands : goal.returns-in-Err-clause-hands
returns-in-Err-clause-hands g c m held =
    tells_acting _ _ (halt_in c.fall.result) c.if-not-self.false
    (tells_stop (HandedStatus c.in-Some.own m) (HandedTold c.args.self.now.state.node.identity m) c.in-Err.stop
    c.fall.result _ c.fall.ensures.fault
    (λ space. handed_node c.args.self.now.state.node.identity m space c.in-Some.ensures.value)
    (held_gives (c.args.self.now.idle c.if-not-self.false) c.in-Err.ensures m held).form)
