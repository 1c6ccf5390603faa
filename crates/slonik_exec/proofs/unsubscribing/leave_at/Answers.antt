use Rattle.std.proofs.Common.{◌∙◌, ℕ, List, [], ◌∷◌, Option, Some, None, refl}
use Rattle.node_rows.specs.declared.body.Body.TheVariants.{UnsubscribeSet}
use Rattle.slon_model.specs.declared.reply.Refusal.{Refusal}
use Rattle.slon_model.specs.Reaching.{emitting}
use Rattle.slon_model.specs.Sessions.{Seat, Stated, tells}
use Rattle.slon_model.specs.Subscribing.{leave_checks, left_at}
use Rattle.node_state.proofs.Formed.{if_ok}
use Rattle.node_state.proofs.Learning.{plain_learns}
use Rattle.app_store.specs.Base.{base_of}
use Rattle.slonik_exec.specs.Answering.{AtNode}
use Rattle.slonik_exec.specs.Emitting.{Emits}
use Rattle.slonik_exec.proofs.Works.{Checked, checked_as, ended_due}
use Rattle.slonik_exec.proofs.Events.{Spoke, spoke_as, answers_behind, emits_behind}
use Rattle.slonik_exec.proofs.unsubscribing.leave_at.Goals as goal

abbrev Due : ℕ → ℕ → Seat → List (Option Refusal)
Due set receiver s = leave_checks set receiver s.known.config

abbrev Says : ℕ → ℕ → Seat → Stated
Says set receiver s = emitting s (tells (UnsubscribeSet set receiver) ∷ [])

pub returns-in-Some : goal.returns-in-Some
returns-in-Some g c =
    let set = c.args.set in
    let receiver = c.args.receiver in
    let first : Checked c.args.seat.now.name (Due set receiver) (base_of g.K.Keeper.kept c.args.seat.now.database)
    (Some c.in-Some.reply) (base_of g.K.Keeper.kept c.check_leave.new.seat.database)
    = checked_as c.in-Some.is (record {
      checks = c.in_ok-reply.ensures.checks;
      refuses = c.in_ok-reply.ensures.refuses;
    }) in
    record { answers = first.checks; comes = ended_due (Says set receiver) first; name = c.in_ok-reply.ensures.name }

pub returns : goal.returns
returns g c =
    let set = c.args.set in
    let receiver = c.args.receiver in
    let name = c.args.seat.now.name in
    let old = base_of g.K.Keeper.kept c.args.seat.now.database in
    let mid = base_of g.K.Keeper.kept c.check_leave.new.seat.database in
    let new = base_of g.K.Keeper.kept c.emit.new.seat.database in
    let first : Checked name (Due set receiver) old None mid
    = checked_as c.in_default.is (record {
      checks = c.in_ok-reply.ensures.checks;
      refuses = c.in_ok-reply.ensures.refuses;
    }) in
    let spoke : Spoke name (UnsubscribeSet set receiver) mid c.emit.result new
    = spoke_as c.in_ok-reply.ensures.name refl
    (record { answers = c.emit.ensures.answers; emits = c.emit.ensures.emits }) in
    record {
      answers = answers_behind c.emit.result first spoke;
      comes = if_ok (λ reply. Emits name (UnsubscribeSet set receiver) mid reply new)
          (λ reply. AtNode name (left_at set receiver) old reply new) c.emit.result
          (λ reply emits p n ready is. emits_behind first emits p n [] (ready, is, plain_learns n _ refl)) spoke.emits;
      name = c.emit.ensures.name ∙ c.in_ok-reply.ensures.name;
    }
