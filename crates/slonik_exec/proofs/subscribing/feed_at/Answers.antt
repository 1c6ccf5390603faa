use Rattle.std.proofs.Common.{◌∙◌, List, Option, Some, None, Ok, subst}
use Rattle.slon_model.specs.declared.reply.Refusal.{Refusal}
use Rattle.slon_model.specs.Sessions.{Seat}
use Rattle.slon_model.specs.Subscribing.{NewFeed, feed_checks, fed_at}
use Rattle.node_state.proofs.Formed.{if_ok}
use Rattle.app_store.specs.Base.{base_of}
use Rattle.slonik_exec.specs.Answering.{Answers, AtNode}
use Rattle.slonik_exec.specs.Statements.{feed_as, told_said}
use Rattle.slonik_exec.proofs.Works.{Checked, checked_as, answers_then, ended_due, passed_behind}
use Rattle.slonik_exec.proofs.subscribing.feed_at.Goals as goal

abbrev Due : NewFeed → Seat → List (Option Refusal)
Due f s = feed_checks s f

pub returns-in-Some : goal.returns-in-Some
returns-in-Some g c =
    let f = feed_as c.args.feed in
    let first : Checked c.args.seat.now.name (Due f) (base_of g.K.Keeper.kept c.args.seat.now.database)
    (Some c.in-Some.reply) (base_of g.K.Keeper.kept c.check_feed.new.seat.database)
    = checked_as c.in-Some.is (record {
      checks = c.in_ok-reply.ensures.checks;
      refuses = c.in_ok-reply.ensures.refuses;
    }) in
    record { answers = first.checks; comes = ended_due (told_said f) first; name = c.in_ok-reply.ensures.name }

pub returns : goal.returns
returns g c =
    let f = feed_as c.args.feed in
    let name = c.args.seat.now.name in
    let own = c.check_feed.new.seat.name in
    let old = base_of g.K.Keeper.kept c.args.seat.now.database in
    let mid = base_of g.K.Keeper.kept c.check_feed.new.seat.database in
    let new = base_of g.K.Keeper.kept c.emit_told.new.seat.database in
    let first : Checked name (Due f) old None mid
    = checked_as c.in_default.is (record {
      checks = c.in_ok-reply.ensures.checks;
      refuses = c.in_ok-reply.ensures.refuses;
    }) in
    let same = c.in_ok-reply.ensures.name in
    record {
      answers = if_ok (λ reply. Answers own mid reply new) (λ reply. Answers name old reply new) c.emit_told.result
          (λ reply answers. answers_then first.checks.0 (subst (λ n. Answers n mid reply new) same answers))
          c.emit_told.ensures.answers;
      comes = if_ok (λ reply. AtNode own (λ s. Ok (told_said f s)) mid reply new)
          (λ reply. AtNode name (fed_at f) old reply new) c.emit_told.result
          (λ reply comes. passed_behind (told_said f) first
          (subst (λ n. AtNode n (λ s. Ok (told_said f s)) mid reply new) same comes)) c.emit_told.ensures.comes;
      name = c.emit_told.ensures.name ∙ same;
    }
