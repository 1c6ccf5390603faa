use Rattle.std.proofs.Common.{◌≡◌, false, Err, ap, subst, arith}
use Rattle.std.specs.Prelude.{unwrap_or}
use Rattle.std.proofs.lemmas.Result.{err_from_is_err_and}
use Rattle.slon_model.specs.Place.{is_running}
use Rattle.slon_model.specs.Reaching.{emitting}
use Rattle.slon_model.specs.Sessions.{seat}
use Rattle.node_store.specs.Acting.{ActsAs, Burst, emission, emitted}
use Rattle.app_store.specs.Base.{base_of}
use Rattle.app_store.specs.Serves.{answered, is_memory, trouble}
use Rattle.node_store.proofs.Acting.{never_memory}
use Rattle.node_store.proofs.Emitted.{felled_fits}
use Rattle.node_store.proofs.Several.{stamp_beyond}
use Rattle.app_store.proofs.Transacting.{last_stamp}
use Rattle.app_store.proofs.Upright.{up_at, running, untouched}
use Rattle.node_store.proofs.announcing.announce.Goals as goal

pub returns-then-database-ge-STORED_LIMIT-clause-announces : goal.returns-then-database-ge-STORED_LIMIT-clause-announces
returns-then-database-ge-STORED_LIMIT-clause-announces g c p n ready is memory name ms bodies learns =
    let at = up_at ready c.requires.up in
    let most = c.if-database-ge-STORED_LIMIT.true in
    Burst 1 (ap (λ f. Err f) c.overflow.ensures.fault)
    (stamp_beyond (emission name p n ms) p
    (last_stamp p c.args.database.now.state.stamp (running at).1.stamp (omega (arith, most))))
    (felled_fits at _ (record { down = c.overflow.ensures.down; looked = untouched _ }))

pub returns-in_err-taken-in-Some-clause-announces : goal.returns-in_err-taken-in-Some-clause-announces
returns-in_err-taken-in-Some-clause-announces g c p n ready is memory name ms bodies learns =
    absurd (never_memory _ c.from_residual.result
    (err_from_is_err_and c.from_residual.result c.from_residual.ensures.1) memory)

pub returns-in_ok-taken-in-Some-clause-announces : goal.returns-in_ok-taken-in-Some-clause-announces
returns-in_ok-taken-in-Some-clause-announces g c p n ready is memory name ms bodies learns =
    let at = up_at ready c.requires.up in
    let seen = c.in_ok-taken-in-Some.ensures.taken p ready (ap is_running (running at).0) in
    subst (λ own. is_memory (trouble (answered (emitted own) c.emit.result)) ≡ false →
    ActsAs (emission name p n ms) (emitting (seat name p n) ms).answer p
    (answered (emitted own) c.emit.result) (base_of g.K.Keeper.kept c.emit.new.database))
    (ap (λ o. unwrap_or o 0) c.in-Some.ensures.id)
    (λ out. c.emit.ensures.announces p n ready is out seen name ms bodies learns) memory
