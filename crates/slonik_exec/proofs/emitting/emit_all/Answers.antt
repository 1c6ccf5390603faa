use Rattle.std.proofs.Common.{true, false, Ok, Err, ap, subst}
use Rattle.std.proofs.lemmas.Bool.{false≢true}
use Rattle.app_store.specs.Base.{base_of}
use Rattle.app_store.specs.Serves.{answered}
use Rattle.node_store.specs.Acting.{Announces, emitted, own_id}
use Rattle.slonik_exec.proofs.Events.{emits_if, answered_so}
use Rattle.slonik_exec.proofs.emitting.emit_all.Goals as goal

pub returns-in-Ok-default-true-clause-emits : goal.returns-in-Ok-default-true-clause-emits
returns-in-Ok-default-true-clause-emits g c =
    let arm = c.in-Ok-default-true in
    let number = arm.number in
    emits_if c.args.seat.now.name c.answered.result (Ok (emitted c.in-Some.node (number, true))) c.answered.ensures
    (λ short. absurd (false≢true short))
    (subst (λ r. Announces c.args.bodies.now (base_of g.K.Keeper.kept c.args.seat.now.database) r
    (base_of g.K.Keeper.kept c.announce.new.database)) (answered_so (record {
      found = c.node_id.result;
      told = c.node_id.ensures.id;
      is = c.in-Some.is;
      doubtful = arm.field-0-1;
      same = arm.field-0-1-test;
      result_is = arm.is;
    })) c.announce.ensures.announces)

pub returns-in-Ok-default-false-clause-emits : goal.returns-in-Ok-default-false-clause-emits
returns-in-Ok-default-false-clause-emits g c =
    let arm = c.in-Ok-default-false in
    let number = arm.number in
    emits_if c.args.seat.now.name c.answered-in-Ok-default-false.result
    (Ok (emitted c.in-Some.node (number, false))) c.answered-in-Ok-default-false.ensures
    (λ short. absurd (false≢true short))
    (subst (λ r. Announces c.args.bodies.now (base_of g.K.Keeper.kept c.args.seat.now.database) r
    (base_of g.K.Keeper.kept c.announce.new.database)) (answered_so (record {
      found = c.node_id.result;
      told = c.node_id.ensures.id;
      is = c.in-Some.is;
      doubtful = arm.field-0-1;
      same = arm.field-0-1-test;
      result_is = arm.is;
    })) c.announce.ensures.announces)

pub returns-in-Err-clause-emits : goal.returns-in-Err-clause-emits
returns-in-Err-clause-emits g c =
    emits_if c.args.seat.now.name c.told-in-Err.result
    (Err c.in-Err.fault) c.told-in-Err.ensures.reply c.told-in-Err.ensures.memory
    (subst (λ r. Announces c.args.bodies.now (base_of g.K.Keeper.kept c.args.seat.now.database) r
    (base_of g.K.Keeper.kept c.announce.new.database))
    (ap (answered (emitted (own_id c.args.seat.now.database.state.node.identity))) c.in-Err.is)
    c.announce.ensures.announces)
