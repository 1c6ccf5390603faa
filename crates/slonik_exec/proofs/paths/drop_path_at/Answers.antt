use Rattle.std.proofs.Common.{◌∙◌, ℕ, not, List, [], ◌∷◌, Option, Some, None, refl}
use Rattle.node_rows.specs.declared.body.Body.TheVariants.{DropPath}
use Rattle.slon_model.specs.declared.reply.Refusal.{Refusal}
use Rattle.slon_model.specs.declared.reply.Refusal.TheVariants as refused
use Rattle.slon_model.specs.Config.{has_path}
use Rattle.slon_model.specs.Reaching.{emitting}
use Rattle.slon_model.specs.Sessions.{Seat, Stated, when, tells}
use Rattle.node_state.proofs.Formed.{if_ok}
use Rattle.node_state.proofs.Learning.{plain_learns}
use Rattle.app_store.specs.Base.{base_of}
use Rattle.slonik_exec.specs.Answering.{AtNode}
use Rattle.slonik_exec.specs.Emitting.{Emits}
use Rattle.slonik_exec.specs.Statements.{path_dropped}
use Rattle.slonik_exec.proofs.Works.{Checked, checked_as, none_left, ended_due}
use Rattle.slonik_exec.proofs.Events.{Spoke, spoke_as, answers_behind, emits_behind}
use Rattle.slonik_exec.proofs.paths.drop_path_at.Goals as goal

abbrev Due : ℕ → ℕ → Seat → List (Option Refusal)
Due client server s = when (not (has_path client server s.known.config)) (refused.NoPath server) ∷ []

abbrev Says : ℕ → ℕ → Seat → Stated
Says client server s = emitting s (tells (DropPath server client) ∷ [])

pub returns-in-Some : goal.returns-in-Some
returns-in-Some g c =
    let client = c.args.client in
    let server = c.args.server in
    let first : Checked c.args.seat.now.name (Due client server) (base_of g.K.Keeper.kept c.args.seat.now.database)
    (Some c.in-Some.reply) (base_of g.K.Keeper.kept c.check_path.new.seat.database)
    = checked_as c.in-Some.is (record {
      checks = c.in_ok-reply.ensures.checks;
      refuses = c.in_ok-reply.ensures.refuses;
    }) in
    record {
      answers = first.checks;
      comes = ended_due (Says client server) first;
      name = c.in_ok-reply.ensures.name;
    }

pub returns : goal.returns
returns g c =
    let client = c.args.client in
    let server = c.args.server in
    let name = c.args.seat.now.name in
    let old = base_of g.K.Keeper.kept c.args.seat.now.database in
    let mid = base_of g.K.Keeper.kept c.check_path.new.seat.database in
    let new = base_of g.K.Keeper.kept c.emit.new.seat.database in
    let first : Checked name (Due client server) old None mid
    = checked_as (none_left c.in_ok-reply.field-0 c.in_default.not-Some) (record {
      checks = c.in_ok-reply.ensures.checks;
      refuses = c.in_ok-reply.ensures.refuses;
    }) in
    let spoke : Spoke name (DropPath server client) mid c.emit.result new
    = spoke_as c.in_ok-reply.ensures.name refl
    (record { answers = c.emit.ensures.answers; emits = c.emit.ensures.emits }) in
    record {
      answers = answers_behind c.emit.result first spoke;
      comes = if_ok (λ reply. Emits name (DropPath server client) mid reply new)
          (λ reply. AtNode name (path_dropped client server) old reply new) c.emit.result
          (λ reply emits p n ready is. emits_behind first emits p n [] (ready, is, plain_learns n _ refl)) spoke.emits;
      name = c.emit.ensures.name ∙ c.in_ok-reply.ensures.name;
    }
