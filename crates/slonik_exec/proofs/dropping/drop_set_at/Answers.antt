use Rattle.std.proofs.Common.{◌∙◌, ℕ, List, [], ◌∷◌, Option, Some, None, refl}
use Rattle.node_rows.specs.declared.body.Body.TheVariants.{DropSet}
use Rattle.slon_model.specs.declared.reply.Refusal.{Refusal}
use Rattle.slon_model.specs.Reaching.{emitting, origin_checks}
use Rattle.slon_model.specs.Sessions.{Seat, Stated, tells}
use Rattle.node_state.proofs.Formed.{if_ok}
use Rattle.node_state.proofs.Dropping.{drop_learns}
use Rattle.app_store.specs.Base.{base_of}
use Rattle.slonik_exec.specs.Answering.{AtNode}
use Rattle.slonik_exec.specs.Emitting.{Emits}
use Rattle.slonik_exec.specs.Statements.{set_dropped}
use Rattle.slonik_exec.proofs.Sitting.{homes_at}
use Rattle.slonik_exec.proofs.Works.{Checked, checked_as, none_left, ended_due}
use Rattle.slonik_exec.proofs.Events.{Spoke, spoke_as, answers_behind, emits_behind}
use Rattle.slonik_exec.proofs.dropping.drop_set_at.Goals as goal

abbrev Due : ℕ → Seat → List (Option Refusal)
Due set s = origin_checks s set

abbrev Says : ℕ → Seat → Stated
Says set s = emitting s (tells (DropSet set) ∷ [])

pub returns-in-Some : goal.returns-in-Some
returns-in-Some g c =
    let first : Checked c.args.seat.now.name (Due c.args.set) (base_of g.K.Keeper.kept c.args.seat.now.database)
    (Some c.in-Some.reply) (base_of g.K.Keeper.kept c.check_origin.new.seat.database)
    = checked_as c.in-Some.is (record {
      checks = c.in_ok-reply.ensures.checks;
      refuses = c.in_ok-reply.ensures.refuses;
    }) in
    record {
      answers = first.checks;
      comes = ended_due (Says c.args.set) first;
      name = c.in_ok-reply.ensures.name;
    }

pub returns : goal.returns
returns g c =
    let set = c.args.set in
    let name = c.args.seat.now.name in
    let old = base_of g.K.Keeper.kept c.args.seat.now.database in
    let mid = base_of g.K.Keeper.kept c.check_origin.new.seat.database in
    let new = base_of g.K.Keeper.kept c.emit.new.seat.database in
    let first : Checked name (Due set) old None mid
    = checked_as (none_left c.in_ok-reply.field-0 c.in_default.not-Some) (record {
      checks = c.in_ok-reply.ensures.checks;
      refuses = c.in_ok-reply.ensures.refuses;
    }) in
    let spoke : Spoke name (DropSet set) mid c.emit.result new
    = spoke_as c.in_ok-reply.ensures.name refl
    (record { answers = c.emit.ensures.answers; emits = c.emit.ensures.emits }) in
    record {
      answers = answers_behind c.emit.result first spoke;
      comes = if_ok (λ reply. Emits name (DropSet set) mid reply new)
          (λ reply. AtNode name (set_dropped set) old reply new) c.emit.result
          (λ reply emits p n ready is. emits_behind first emits p n []
          (ready, is, drop_learns n _ refl (homes_at p n old ready is))) spoke.emits;
      name = c.emit.ensures.name ∙ c.in_ok-reply.ensures.name;
    }
