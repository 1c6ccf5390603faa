use Rattle.std.proofs.Common.{◌+◌, Ok, ap, refl, sym, subst, arith}
use Rattle.std.proofs.lemmas.Result.{err_from_is_err_and}
use Rattle.node_keeper.specs.Fused.{fuse_kept}
use Rattle.slon_model.specs.declared.reply.Answered.TheVariants.{Sure, InDoubt}
use Rattle.node_store.specs.Acting.{Stood, Wavered, HasLearned}
use Rattle.app_store.specs.Base.{memory_of}
use Rattle.node_store.proofs.Emitted.{Announcement, said_of, emitter_in, told_in, is_written, held_stood}
use Rattle.node_store.proofs.Emitted.{number_in, either_held, emission_stands, emission_wavers, emission_stops}
use Rattle.node_store.proofs.Endings.{commit_breaks}
use Rattle.node_store.proofs.Several.{emission_within}
use Rattle.node_store.proofs.Acting.{never_memory}
use Rattle.app_store.proofs.Transacting.{small_stamp}
use Rattle.app_store.proofs.Upright.{up_at, running}
use Rattle.node_store.proofs.announcing.emit.Goals as goal

pub returns-in_ok-learn_each-in-Done-clause-announces : goal.returns-in_ok-learn_each-in-Done-clause-announces
returns-in_ok-learn_each-in-Done-clause-announces g c p n ready is memory seen name ms bodies learns =
    let at = up_at ready c.requires.up in
    let a : Announcement p = record { node = n; is = is; parts = ms; name = name } in
    let said = said_of a at c.requires.own seen bodies c.requires.some learns in
    let w = is_written {mid = fuse_kept g.K.Keeper.kept c.write_events.new.keeper} at a
    (c.in-Ok.ensures.writes (emitter_in at a) (told_in at a said) ready.fits.held.1) in
    let done = rw c.in-Done.is at c.in-Ok-finish.ensures.ends in
    Stood (ap (λ x. Ok (Sure x)) (number_in a said w.has))
    (emission_within name p n ms
    (small_stamp p c.args.database.now.state.stamp (running at).1.stamp c.requires.room) w.has.small)
    (emission_stands at a _ (record {
      store = w.store;
      number = c.in-Ok.number;
      has = w.has;
      changed = record {
        held = held_stood w _ done.ends;
        later = omega (arith, c.in-Ok.ensures.enters.later, done.counted.later);
      };
      members = c.learn_each.new.node.members;
      learned = subst (λ bs. HasLearned bs c.args.database.now.state.node.members c.learn_each.new.node.members)
          (sym bodies) c.in_ok-learn_each-in-Done.ensures.learned;
      memory = λ i. record (memory_of c.args.database.now.state) {
        stamp = c.args.database.now.state.stamp + 1;
        identity = c.in_ok-learn_each-in-Done.ensures.identity i;
        members = c.learn_each.new.node.members;
      };
    }) learns)

pub returns-in-InDoubt-clause-announces : goal.returns-in-InDoubt-clause-announces
returns-in-InDoubt-clause-announces g c p n ready is memory seen name ms bodies learns =
    let at = up_at ready c.requires.up in
    let a : Announcement p = record { node = n; is = is; parts = ms; name = name } in
    let said = said_of a at c.requires.own seen bodies c.requires.some learns in
    let w = is_written {mid = fuse_kept g.K.Keeper.kept c.write_events.new.keeper} at a
    (c.in-Ok.ensures.writes (emitter_in at a) (told_in at a said) ready.fits.held.1) in
    let doubt = rw c.in-InDoubt.is at c.in-Ok-finish.ensures.ends in
    let fits = emission_wavers at a w.store _ w.has (record {
      up = c.take_down.ensures.up;
      doubt = refl;
      identity = c.take_down.ensures.identity;
      later = omega (arith, c.in-Ok.ensures.enters.later, doubt.counted.later);
      either = either_held w (fuse_kept g.K.Keeper.kept c.finish.new.keeper) c.in-Ok.ensures.enters.held doubt.ends;
    }) in
    Wavered fits.0 (ap (λ x. Ok (InDoubt x)) (number_in a said w.has))
    (emission_within name p n ms
    (small_stamp p c.args.database.now.state.stamp (running at).1.stamp c.requires.room) w.has.small) fits.1

pub returns-in-Err-finish-clause-announces : goal.returns-in-Err-finish-clause-announces
returns-in-Err-finish-clause-announces g c p n ready is memory seen name ms bodies learns =
    commit_breaks (up_at ready c.requires.up) c.requires.room c.in-Ok.ensures.enters c.in-Err-finish.ensures.ends
    (record { down = c.fall.ensures.down; fault_is = c.fall.ensures.fault }) memory

pub returns-in-Err-clause-announces : goal.returns-in-Err-clause-announces
returns-in-Err-clause-announces g c p n ready is memory seen name ms bodies learns =
    let at = up_at ready c.requires.up in
    let a : Announcement p = record { node = n; is = is; parts = ms; name = name } in
    let said = said_of a at c.requires.own seen bodies c.requires.some learns in
    emission_stops (c.args.database.now.state.stamp + 1) at a c.in-Err.stop c.fall-in-Err.result _ (
      small_stamp p c.args.database.now.state.stamp (running at).1.stamp c.requires.room,
      c.in-Err.ensures.writes (emitter_in at a) (told_in at a said) ready.fits.held.1,
    ) (
      record {
        held = c.in-Err.ensures.enters.held;
        down = c.fall-in-Err.ensures.down;
        rose = c.in-Err.ensures.enters.failed;
        fault_is = c.fall-in-Err.ensures.fault;
      },
      c.in-Err.ensures.enters.later,
      memory,
    )

pub returns-in_err-learn_each-in-Done-clause-announces : goal.returns-in_err-learn_each-in-Done-clause-announces
returns-in_err-learn_each-in-Done-clause-announces g c p n ready is memory seen name ms bodies learns =
    absurd (never_memory _ c.from_residual.result
    (err_from_is_err_and c.from_residual.result c.from_residual.ensures.1) memory)
