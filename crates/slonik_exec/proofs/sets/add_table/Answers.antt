use Rattle.std.proofs.Common.{◌∙◌, ℕ, List, [], ◌∷◌, Option, Some, None, refl}
use Rattle.std.specs.Prelude.{option_map}
use Rattle.node_rows.specs.declared.body.Body.TheVariants.{SetAddTable}
use Rattle.slon_model.specs.declared.reply.Refusal.{Refusal}
use Rattle.slon_model.specs.declared.reply.Refusal.TheVariants as refused
use Rattle.slon_model.specs.Place.{standing_rows}
use Rattle.slon_model.specs.Reaching.{emitting}
use Rattle.slon_model.specs.Sessions.{Seat, writer_of}
use Rattle.slon_model.specs.Sets.{adding}
use Rattle.node_state.proofs.Formed.{if_ok}
use Rattle.node_state.proofs.Learning.{table_learns}
use Rattle.app_store.specs.Base.{base_of}
use Rattle.slonik_exec.specs.Emitting.{Emits}
use Rattle.slonik_exec.specs.Statements.{AddsTable}
use Rattle.slonik_exec.proofs.Making.{table_as}
use Rattle.slonik_exec.proofs.Works.{Checked, checked_as, none_left, ended_due}
use Rattle.slonik_exec.proofs.Events.{Spoke, spoke_as, answers_behind, emits_behind}
use Rattle.slonik_exec.proofs.sets.add_table.Goals as goal

abbrev Due : List ℕ → Seat → List (Option Refusal)
Due table s = option_map refused.Busy (writer_of (table ∷ []) s.place) ∷ []

pub returns-in-Some-clause-adds : goal.returns-in-Some-clause-adds
returns-in-Some-clause-adds g c p n ready is addable =
    let t = table_as c.args.table in
    let first : Checked c.args.seat.now.name (Due t.name) (base_of g.K.Keeper.kept c.args.seat.now.database)
    (Some c.in-Some.reply) (base_of g.K.Keeper.kept c.check_writers.new.seat.database)
    = checked_as c.in-Some.is (record {
      checks = c.in_ok-reply.ensures.checks;
      refuses = c.in_ok-reply.ensures.refuses;
    }) in
    ended_due (λ s. emitting s (adding s t ∷ [])) first p n ready is

pub returns : goal.returns
returns g c =
    let t = table_as c.args.table in
    let name = c.args.seat.now.name in
    let old = base_of g.K.Keeper.kept c.args.seat.now.database in
    let mid = base_of g.K.Keeper.kept c.check_writers.new.seat.database in
    let new = base_of g.K.Keeper.kept c.emit.new.seat.database in
    let body = SetAddTable t.set_id t.id t.name t.comment in
    let first : Checked name (Due t.name) old None mid
    = checked_as (none_left c.in_ok-reply.field-0 c.in_default.not-Some) (record {
      checks = c.in_ok-reply.ensures.checks;
      refuses = c.in_ok-reply.ensures.refuses;
    }) in
    let spoke : Spoke name body mid c.emit.result new
    = spoke_as c.in_ok-reply.ensures.name
    (λ i. SetAddTable t.set_id t.id (c.in_ok-copy.ensures i) (c.in_ok-copy-2.ensures i))
    (record { answers = c.emit.ensures.answers; emits = c.emit.ensures.emits }) in
    record {
      answers = answers_behind c.emit.result first spoke;
      adds = if_ok (λ reply. Emits name body mid reply new) (λ reply. AddsTable name t old reply new) c.emit.result
          (λ reply emits p n ready is addable. emits_behind first emits p n ((t.name, standing_rows p t.name) ∷ []) (
            ready,
            is,
            table_learns n _ refl (record {
              leads = addable.leads;
              free = addable.fresh;
              unused = addable.free;
            }),
          )) spoke.emits;
      name = c.emit.ensures.name ∙ c.in_ok-reply.ensures.name;
    }
