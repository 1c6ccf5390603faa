use Rattle.std.proofs.Common.{◌≡◌, ◌∙◌, ℕ, Bool, List, [], ◌∷◌, Option, Ok, refl, sym, ap}
use Rattle.slon_model.specs.declared.reply.Refusal.{Refusal}
use Rattle.slon_model.specs.declared.reply.Refusal.TheVariants as refused
use Rattle.slon_model.specs.Place.{Place}
use Rattle.slon_model.specs.Sessions.{Seat, when, first_refusal}
use Rattle.slonik_exec.proofs.Works.{looked_by, passes, refuses, stops}
use Rattle.slonik_exec.proofs.Telling.{not_short}
use Rattle.node_store.specs.Looking.{OfConfig}
use Rattle.slon_model.specs.Maps.{entry_at}
use Rattle.slon_model.specs.Membership.{is_dropped}
use Rattle.slonik_exec.proofs.checks.check_server.Goals as goal

abbrev Says : ℕ → Place → Bool → Type 0
Says server = OfConfig (λ k found. found ≡ is_dropped (entry_at server k.nodes))

abbrev Due : ℕ → Seat → List (Option Refusal)
Due server s = when (is_dropped (entry_at server s.known.config.nodes)) (refused.NoNode server) ∷ []

pub returns-in-Ok-false-clause-refuses : goal.returns-in-Ok-false-clause-refuses
returns-in-Ok-false-clause-refuses g c =
    (passes c.args.seat.now.name (Due c.args.server)
    (looked_by (Says c.args.server)
    (c.in-Ok-false.is ∙ ap (λ b. Ok b) c.in-Ok-false.field-0-test) c.is_dropped.ensures.acts
    (c.is_dropped.ensures.looks, c.is_dropped.ensures.same))
    (λ p n ready is says. ap (λ b. first_refusal (when b (refused.NoNode c.args.server) ∷ []))
    (sym (says n is)))).refuses

pub returns-in-Ok-true-clause-refuses : goal.returns-in-Ok-true-clause-refuses
returns-in-Ok-true-clause-refuses g c =
    (refuses c.args.seat.now.name (Due c.args.server) (refused.NoNode c.args.server) refl
    (looked_by (Says c.args.server)
    (c.in-Ok-true.is ∙ ap (λ b. Ok b) c.in-Ok-true.field-0-test) c.is_dropped.ensures.acts
    (c.is_dropped.ensures.looks, c.is_dropped.ensures.same))
    (λ p n ready is says. ap (λ b. first_refusal (when b (refused.NoNode c.args.server) ∷ []))
    (sym (says n is)))).refuses

pub returns-in_ok-told-in-Err : goal.returns-in_ok-told-in-Err
returns-in_ok-told-in-Err g c =
    let reply = c.in_ok-told-in-Err.field-0 in
    let fault = c.in-Err.fault in
    let done = stops c.args.seat.now.name (Due c.args.server)
    (looked_by (Says c.args.server) (c.in-Err.is) c.is_dropped.ensures.acts
    (c.is_dropped.ensures.looks, c.is_dropped.ensures.same)) (record {
      is = c.in_ok-told-in-Err.ensures.reply;
      memory = not_short c.told.result reply fault c.in_ok-told-in-Err.was c.told.ensures.memory;
    }) in
    record { checks = done.checks; refuses = done.refuses; name = refl }
