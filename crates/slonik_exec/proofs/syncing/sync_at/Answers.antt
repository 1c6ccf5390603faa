use Rattle.std.proofs.Common.{◌∙◌, List, [], ◌∷◌, Option, Some, None, refl}
use Rattle.node_rows.specs.declared.body.Body.TheVariants.{Sync}
use Rattle.slon_model.specs.declared.reply.Refusal.{Refusal}
use Rattle.slon_model.specs.declared.reply.Refusal.TheVariants as refused
use Rattle.slon_model.specs.Membership.{synced}
use Rattle.slon_model.specs.Sessions.{Seat, when}
use Rattle.slon_model.specs.Turns.{is_synced, sync_at}
use Rattle.node_state.proofs.Formed.{if_ok}
use Rattle.node_state.proofs.Learning.{plain_learns}
use Rattle.app_store.specs.Base.{base_of}
use Rattle.slonik_exec.specs.Answering.{AtNode}
use Rattle.slonik_exec.specs.Emitting.{Emits}
use Rattle.slonik_exec.proofs.Works.{Checked, checked_as, none_left, ended_due}
use Rattle.slonik_exec.proofs.Events.{Spoke, spoke_as, answers_behind, emits_behind}
use Rattle.slonik_exec.proofs.syncing.sync_at.Goals as goal

abbrev Due : Seat → List (Option Refusal)
Due s = when (is_synced s) refused.Nothing ∷ []

pub returns-in-Some : goal.returns-in-Some
returns-in-Some g c =
    let first : Checked c.args.seat.now.name Due (base_of g.K.Keeper.kept c.args.seat.now.database)
    (Some c.in-Some.reply) (base_of g.K.Keeper.kept c.check_synced.new.seat.database)
    = checked_as c.in-Some.is (record {
      checks = c.in_ok-reply.ensures.checks;
      refuses = c.in_ok-reply.ensures.refuses;
    }) in
    record {
      answers = first.checks;
      comes = ended_due synced first;
      name = c.in_ok-reply.ensures.name;
    }

pub returns : goal.returns
returns g c =
    let name = c.args.seat.now.name in
    let old = base_of g.K.Keeper.kept c.args.seat.now.database in
    let mid = base_of g.K.Keeper.kept c.check_synced.new.seat.database in
    let new = base_of g.K.Keeper.kept c.emit.new.seat.database in
    let first : Checked name Due old None mid
    = checked_as (none_left c.in_ok-reply.field-0 c.in_default.not-Some) (record {
      checks = c.in_ok-reply.ensures.checks;
      refuses = c.in_ok-reply.ensures.refuses;
    }) in
    let spoke : Spoke name Sync mid c.emit.result new
    = spoke_as c.in_ok-reply.ensures.name refl
    (record { answers = c.emit.ensures.answers; emits = c.emit.ensures.emits }) in
    record {
      answers = answers_behind c.emit.result first spoke;
      comes = if_ok (λ reply. Emits name Sync mid reply new)
          (λ reply. AtNode name sync_at old reply new) c.emit.result
          (λ reply emits p n ready is. emits_behind first emits p n [] (ready, is, plain_learns n _ refl)) spoke.emits;
      name = c.emit.ensures.name ∙ c.in_ok-reply.ensures.name;
    }
