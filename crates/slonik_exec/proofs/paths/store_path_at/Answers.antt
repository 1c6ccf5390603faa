use Rattle.std.proofs.Common.{◌≡◌, ◌∙◌, ◌==◌, ℕ, false, List, [], ◌∷◌, Option, Some, None, refl, sym, ap}
use Rattle.std.proofs.Common.{subst}
use Rattle.std.proofs.lemmas.Bool.{eq-eqb, ne_eqb}
use Rattle.node_rows.specs.declared.body.Body.TheVariants.{StorePath}
use Rattle.slon_model.specs.declared.reply.Refusal.{Refusal}
use Rattle.slon_model.specs.declared.reply.Refusal.TheVariants as refused
use Rattle.slon_model.specs.declared.reply.Reply.{Reply}
use Rattle.slon_model.specs.Maps.{entry_at}
use Rattle.slon_model.specs.Membership.{is_dropped}
use Rattle.slon_model.specs.Reaching.{emitting}
use Rattle.slon_model.specs.Sessions.{Seat, Stated, when, checked, tells, seat}
use Rattle.node_state.proofs.Formed.{if_ok}
use Rattle.node_state.proofs.Learning.{plain_learns}
use Rattle.app_store.specs.Base.{Base, base_of}
use Rattle.slonik_exec.specs.Answering.{ComesAt, RefusesAt, AtNode}
use Rattle.slonik_exec.specs.Emitting.{Emits}
use Rattle.slonik_exec.specs.Statements.{path_stored}
use Rattle.slonik_exec.proofs.Works.{Checked, checked_as, none_left, ended_due}
use Rattle.slonik_exec.proofs.Events.{Spoke, spoke_as, answers_behind, emits_behind}
use Rattle.slonik_exec.proofs.paths.store_path_at.Goals as goal

abbrev Due : ℕ → Seat → List (Option Refusal)
Due server s = when (is_dropped (entry_at server s.known.config.nodes)) (refused.NoNode server) ∷ []

abbrev Says : ℕ → ℕ → List ℕ → Seat → Stated
Says client server conninfo s = emitting s (tells (StorePath server client conninfo) ∷ [])

-- the two are not one node
unlike : {name : List ℕ} {old new : Base} {reply : Reply} (client server : ℕ) (conninfo : List ℕ) →
    (client == server) ≡ false →
    AtNode name (λ s. checked (Due server s) (Says client server conninfo s)) old reply new →
    AtNode name (path_stored client server conninfo) old reply new
unlike {name} {new = new} {reply} client server conninfo other comes p n ready is =
    let s = seat name p n in
    subst (λ b. ComesAt name p (checked (when b (refused.SameNode client) ∷ Due server s)
    (Says client server conninfo s)) reply new) (sym other) (comes p n ready is)

pub returns-then-client-server-clause-comes : goal.returns-then-client-server-clause-comes
returns-then-client-server-clause-comes g c p n ready is =
    let client = c.args.client in
    let server = c.args.server in
    let s = seat c.args.seat.now.name p n in
    RefusesAt (refused.SameNode client) (ap (λ b. checked (when b (refused.SameNode client) ∷ Due server s)
    (Says client server c.args.conninfo.now s)) (eq-eqb client server c.if-client-server.true)) refl ready.fits

pub returns-in-Some : goal.returns-in-Some
returns-in-Some g c =
    let client = c.args.client in
    let server = c.args.server in
    let first : Checked c.args.seat.now.name (Due server) (base_of g.K.Keeper.kept c.args.seat.now.database)
    (Some c.in-Some.reply) (base_of g.K.Keeper.kept c.check_server.new.seat.database)
    = checked_as c.in-Some.is (record {
      checks = c.in_ok-reply.ensures.checks;
      refuses = c.in_ok-reply.ensures.refuses;
    }) in
    record {
      answers = first.checks;
      comes = unlike client server c.args.conninfo.now (ne_eqb client server c.if-client-server.false)
          (ended_due (Says client server c.args.conninfo.now) first);
      name = c.in_ok-reply.ensures.name;
    }

pub returns : goal.returns
returns g c =
    let client = c.args.client in
    let server = c.args.server in
    let conninfo = c.args.conninfo.now in
    let name = c.args.seat.now.name in
    let old = base_of g.K.Keeper.kept c.args.seat.now.database in
    let mid = base_of g.K.Keeper.kept c.check_server.new.seat.database in
    let new = base_of g.K.Keeper.kept c.emit.new.seat.database in
    let first : Checked name (Due server) old None mid
    = checked_as (none_left c.in_ok-reply.field-0 c.in_default.not-Some) (record {
      checks = c.in_ok-reply.ensures.checks;
      refuses = c.in_ok-reply.ensures.refuses;
    }) in
    let spoke : Spoke name (StorePath server client conninfo) mid c.emit.result new
    = spoke_as c.in_ok-reply.ensures.name (ap (StorePath server client) c.in_ok-conninfo.ensures)
    (record { answers = c.emit.ensures.answers; emits = c.emit.ensures.emits }) in
    record {
      answers = answers_behind c.emit.result first spoke;
      comes = if_ok (λ reply. Emits name (StorePath server client conninfo) mid reply new)
          (λ reply. AtNode name (path_stored client server conninfo) old reply new) c.emit.result
          (λ reply emits. unlike client server conninfo (ne_eqb client server c.if-client-server.false)
          (λ p n ready is. emits_behind first emits p n [] (ready, is, plain_learns n _ refl))) spoke.emits;
      name = c.emit.ensures.name ∙ c.in_ok-reply.ensures.name;
    }
