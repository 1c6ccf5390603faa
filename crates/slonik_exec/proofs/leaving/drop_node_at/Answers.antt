use Rattle.std.proofs.Common.{◌≡◌, ◌∙◌, ◌==◌, ℕ, false, List, [], ◌∷◌, Some, None, refl, sym, ap, subst}
use Rattle.std.proofs.lemmas.Bool.{eq-eqb, ne_eqb}
use Rattle.node_rows.specs.declared.body.Body.TheVariants.{DropNode}
use Rattle.slon_model.specs.declared.reply.Refusal.TheVariants as refused
use Rattle.slon_model.specs.declared.reply.Reply.{Reply}
use Rattle.slon_model.specs.Reaching.{emitting}
use Rattle.slon_model.specs.Sessions.{Seat, Stated, when, checked, tells, seat}
use Rattle.node_state.proofs.Formed.{if_ok}
use Rattle.node_state.proofs.Learning.{plain_learns}
use Rattle.app_store.specs.Base.{Base, base_of}
use Rattle.slonik_exec.specs.Answering.{ComesAt, RefusesAt, AtNode}
use Rattle.slonik_exec.specs.Emitting.{Emits}
use Rattle.slonik_exec.specs.Statements.{leaver_checks, node_dropped}
use Rattle.slonik_exec.proofs.Works.{Checked, checked_as, none_left, ended_due}
use Rattle.slonik_exec.proofs.Events.{Spoke, spoke_as, answers_behind, emits_behind}
use Rattle.slonik_exec.proofs.leaving.drop_node_at.Goals as goal

abbrev Says : ℕ → Seat → Stated
Says node s = emitting s (tells (DropNode node) ∷ [])

-- the two are not one node
unlike : {name : List ℕ} {old new : Base} {reply : Reply} (node event_node : ℕ) → (node == event_node) ≡ false →
    AtNode name (λ s. checked (leaver_checks node s) (Says node s)) old reply new →
    AtNode name (node_dropped node event_node) old reply new
unlike {name} {new = new} {reply} node event_node other comes p n ready is =
    let s = seat name p n in
    subst (λ b. ComesAt name p (checked (when b (refused.SameNode node) ∷ leaver_checks node s)
    (Says node s)) reply new) (sym other) (comes p n ready is)

pub returns-then-node-event_node-clause-comes : goal.returns-then-node-event_node-clause-comes
returns-then-node-event_node-clause-comes g c p n ready is =
    let node = c.args.node in
    let s = seat c.args.seat.now.name p n in
    RefusesAt (refused.SameNode node)
    (ap (λ b. checked (when b (refused.SameNode node) ∷ leaver_checks node s) (Says node s))
    (eq-eqb node c.args.event_node c.if-node-event_node.true)) refl ready.fits

pub returns-in-Some : goal.returns-in-Some
returns-in-Some g c =
    let node = c.args.node in
    let event_node = c.args.event_node in
    let first : Checked c.args.seat.now.name (leaver_checks node) (base_of g.K.Keeper.kept c.args.seat.now.database)
    (Some c.in-Some.reply) (base_of g.K.Keeper.kept c.check_leaver.new.seat.database)
    = checked_as c.in-Some.is (record {
      checks = c.in_ok-reply.ensures.checks;
      refuses = c.in_ok-reply.ensures.refuses;
    }) in
    record {
      answers = first.checks;
      comes = unlike node event_node (ne_eqb node event_node c.if-node-event_node.false) (ended_due (Says node) first);
      name = c.in_ok-reply.ensures.name;
    }

pub returns : goal.returns
returns g c =
    let node = c.args.node in
    let event_node = c.args.event_node in
    let name = c.args.seat.now.name in
    let old = base_of g.K.Keeper.kept c.args.seat.now.database in
    let mid = base_of g.K.Keeper.kept c.check_leaver.new.seat.database in
    let new = base_of g.K.Keeper.kept c.emit.new.seat.database in
    let first : Checked name (leaver_checks node) old None mid
    = checked_as (none_left c.in_ok-reply.field-0 c.in_default.not-Some) (record {
      checks = c.in_ok-reply.ensures.checks;
      refuses = c.in_ok-reply.ensures.refuses;
    }) in
    let spoke : Spoke name (DropNode node) mid c.emit.result new
    = spoke_as c.in_ok-reply.ensures.name refl
    (record { answers = c.emit.ensures.answers; emits = c.emit.ensures.emits }) in
    record {
      answers = answers_behind c.emit.result first spoke;
      comes = if_ok (λ reply. Emits name (DropNode node) mid reply new)
          (λ reply. AtNode name (node_dropped node event_node) old reply new) c.emit.result
          (λ reply emits. unlike node event_node (ne_eqb node event_node c.if-node-event_node.false)
          (λ p n ready is. emits_behind first emits p n [] (ready, is, plain_learns n _ refl))) spoke.emits;
      name = c.emit.ensures.name ∙ c.in_ok-reply.ensures.name;
    }
