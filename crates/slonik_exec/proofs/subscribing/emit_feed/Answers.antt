use Rattle.std.proofs.Common.{◌∙◌, Ok, ap}
use Rattle.slon_model.specs.Subscribing.{feed_bodies}
use Rattle.node_state.proofs.Formed.{if_ok}
use Rattle.app_store.specs.Base.{base_of}
use Rattle.slonik_exec.specs.Answering.{Answers, AtNode}
use Rattle.slonik_exec.specs.Emitting.{EmitsAll}
use Rattle.slonik_exec.specs.Statements.{feed_as, feed_said}
use Rattle.slonik_exec.proofs.Feeding.{feed_emitted, stopped_due}
use Rattle.slonik_exec.proofs.Leading.{SaysReign}
use Rattle.slonik_exec.proofs.Works.{looked_by, answers_then}
use Rattle.slonik_exec.proofs.subscribing.emit_feed.Goals as goal

pub returns-in-Ok-clause-answers : goal.returns-in-Ok-clause-answers
returns-in-Ok-clause-answers g c =
    let name = c.args.seat.now.name in
    let old = base_of g.K.Keeper.kept c.args.seat.now.database in
    let mid = base_of g.K.Keeper.kept c.set_reign.new.database in
    let new = base_of g.K.Keeper.kept c.emit_all.new.seat.database in
    if_ok (λ reply. Answers name mid reply new) (λ reply. Answers name old reply new) c.emit_all.result
    (λ reply answers. answers_then c.in-Ok.ensures.acts answers) c.emit_all.ensures.answers

pub returns-in-Ok-clause-comes : goal.returns-in-Ok-clause-comes
returns-in-Ok-clause-comes g c =
    let name = c.args.seat.now.name in
    let f = feed_as c.args.feed in
    let old = base_of g.K.Keeper.kept c.args.seat.now.database in
    let mid = base_of g.K.Keeper.kept c.set_reign.new.database in
    let new = base_of g.K.Keeper.kept c.emit_all.new.seat.database in
    let look = looked_by (SaysReign f.set_id) c.in-Ok.is c.set_reign.ensures.acts
    (c.set_reign.ensures.looks, c.set_reign.ensures.same) in
    if_ok (λ reply. EmitsAll name c.feed_bodies.result mid reply new)
    (λ reply. AtNode name (λ s. Ok (feed_said f s)) old reply new) c.emit_all.result
    (λ reply emits. feed_emitted f look (c.feed_bodies.ensures ∙ ap (λ e. feed_bodies e f) c.era_in.ensures) emits)
    c.emit_all.ensures.emits

pub returns-in-Err-clause-comes : goal.returns-in-Err-clause-comes
returns-in-Err-clause-comes g c =
    let f = feed_as c.args.feed in
    stopped_due c.args.seat.now.name (feed_said f) c.told.result
    (looked_by (SaysReign f.set_id) c.in-Err.is c.set_reign.ensures.acts
    (c.set_reign.ensures.looks, c.set_reign.ensures.same)) c.told.ensures.reply c.told.ensures.memory
