use Rattle.std.proofs.Common.{◌∙◌, Ok, ap}
use Rattle.node_state.proofs.Formed.{if_ok}
use Rattle.app_store.specs.Base.{base_of}
use Rattle.slonik_exec.specs.Answering.{Answers, AtNode}
use Rattle.slonik_exec.specs.Emitting.{EmitsAll}
use Rattle.slonik_exec.specs.Statements.{feed_as, feed_said, told_said}
use Rattle.slonik_exec.proofs.Feeding.{SaysRow, changed_emitted, new_emitted, stopped_due}
use Rattle.slonik_exec.proofs.Works.{looked_by, answers_then}
use Rattle.slonik_exec.proofs.subscribing.emit_told.Goals as goal

pub returns-in-Ok-true-clause-answers : goal.returns-in-Ok-true-clause-answers
returns-in-Ok-true-clause-answers g c =
    let name = c.args.seat.now.name in
    let old = base_of g.K.Keeper.kept c.args.seat.now.database in
    let mid = base_of g.K.Keeper.kept c.knows_receiver.new.database in
    let new = base_of g.K.Keeper.kept c.emit_all.new.seat.database in
    let look = looked_by (SaysRow (feed_as c.args.feed))
    (c.in-Ok-true.is ∙ ap (λ b. Ok b) c.in-Ok-true.field-0-test) c.knows_receiver.ensures.acts
    (c.knows_receiver.ensures.looks, c.knows_receiver.ensures.same) in
    if_ok (λ reply. Answers name mid reply new) (λ reply. Answers name old reply new) c.emit_all.result
    (λ reply answers. answers_then look.acts answers) c.emit_all.ensures.answers

pub returns-in-Ok-true-clause-comes : goal.returns-in-Ok-true-clause-comes
returns-in-Ok-true-clause-comes g c =
    let name = c.args.seat.now.name in
    let f = feed_as c.args.feed in
    let old = base_of g.K.Keeper.kept c.args.seat.now.database in
    let mid = base_of g.K.Keeper.kept c.knows_receiver.new.database in
    let new = base_of g.K.Keeper.kept c.emit_all.new.seat.database in
    let look = looked_by (SaysRow f) (c.in-Ok-true.is ∙ ap (λ b. Ok b) c.in-Ok-true.field-0-test)
    c.knows_receiver.ensures.acts (c.knows_receiver.ensures.looks, c.knows_receiver.ensures.same) in
    if_ok (λ reply. EmitsAll name c.changed_bodies.result mid reply new)
    (λ reply. AtNode name (λ s. Ok (told_said f s)) old reply new) c.emit_all.result
    (λ reply emits. changed_emitted f look c.changed_bodies.ensures emits) c.emit_all.ensures.emits

pub returns-in-Ok-false-clause-answers : goal.returns-in-Ok-false-clause-answers
returns-in-Ok-false-clause-answers g c =
    let name = c.args.seat.now.name in
    let old = base_of g.K.Keeper.kept c.args.seat.now.database in
    let mid = base_of g.K.Keeper.kept c.knows_receiver.new.database in
    let new = base_of g.K.Keeper.kept c.emit_feed.new.seat.database in
    let look = looked_by (SaysRow (feed_as c.args.feed))
    (c.in-Ok-false.is ∙ ap (λ b. Ok b) c.in-Ok-false.field-0-test) c.knows_receiver.ensures.acts
    (c.knows_receiver.ensures.looks, c.knows_receiver.ensures.same) in
    if_ok (λ reply. Answers name mid reply new) (λ reply. Answers name old reply new) c.emit_feed.result
    (λ reply answers. answers_then look.acts answers) c.emit_feed.ensures.answers

pub returns-in-Ok-false-clause-comes : goal.returns-in-Ok-false-clause-comes
returns-in-Ok-false-clause-comes g c =
    let name = c.args.seat.now.name in
    let f = feed_as c.args.feed in
    let old = base_of g.K.Keeper.kept c.args.seat.now.database in
    let mid = base_of g.K.Keeper.kept c.knows_receiver.new.database in
    let new = base_of g.K.Keeper.kept c.emit_feed.new.seat.database in
    let look = looked_by (SaysRow f) (c.in-Ok-false.is ∙ ap (λ b. Ok b) c.in-Ok-false.field-0-test)
    c.knows_receiver.ensures.acts (c.knows_receiver.ensures.looks, c.knows_receiver.ensures.same) in
    if_ok (λ reply. AtNode name (λ s. Ok (feed_said f s)) mid reply new)
    (λ reply. AtNode name (λ s. Ok (told_said f s)) old reply new) c.emit_feed.result
    (λ reply comes. new_emitted f look comes) c.emit_feed.ensures.comes

pub returns-in-Err-clause-comes : goal.returns-in-Err-clause-comes
returns-in-Err-clause-comes g c =
    let f = feed_as c.args.feed in
    stopped_due c.args.seat.now.name (told_said f) c.told.result
    (looked_by (SaysRow f) c.in-Err.is c.knows_receiver.ensures.acts
    (c.knows_receiver.ensures.looks, c.knows_receiver.ensures.same)) c.told.ensures.reply c.told.ensures.memory
