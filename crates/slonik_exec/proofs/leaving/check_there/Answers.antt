use Rattle.std.proofs.Common.{◌≡◌, ◌∙◌, ℕ, Bool, not, List, [], ◌∷◌, Option, Ok, refl, sym, ap}
use Rattle.slon_model.specs.declared.reply.Refusal.{Refusal}
use Rattle.slon_model.specs.declared.reply.Refusal.TheVariants as refused
use Rattle.slon_model.specs.Config.{is_live}
use Rattle.slon_model.specs.Place.{Place}
use Rattle.slon_model.specs.Sessions.{Seat, when, first_refusal}
use Rattle.node_store.specs.Looking.{OfConfig}
use Rattle.slonik_exec.proofs.Works.{looked_by, passes, refuses, stops}
use Rattle.slonik_exec.proofs.Telling.{not_short}
use Rattle.slonik_exec.proofs.leaving.check_there.Goals as goal

abbrev Says : ℕ → Place → Bool → Type 0
Says node = OfConfig (λ k found. found ≡ is_live node k)

abbrev Due : ℕ → Seat → List (Option Refusal)
Due node s = when (not (is_live node s.known.config)) (refused.NoNode node) ∷ []

pub returns-in-Ok-true-clause-refuses : goal.returns-in-Ok-true-clause-refuses
returns-in-Ok-true-clause-refuses g c =
    (passes c.args.seat.now.name (Due c.args.node) (looked_by (Says c.args.node)
    (c.in-Ok-true.is ∙ ap (λ b. Ok b) c.in-Ok-true.field-0-test) c.has_live.ensures.acts
    (c.has_live.ensures.looks, c.has_live.ensures.same))
    (λ p n ready is says. ap (λ b. first_refusal (when (not b) (refused.NoNode c.args.node) ∷ []))
    (sym (says n is)))).refuses

pub returns-in-Ok-false-clause-refuses : goal.returns-in-Ok-false-clause-refuses
returns-in-Ok-false-clause-refuses g c =
    (refuses c.args.seat.now.name (Due c.args.node) (refused.NoNode c.args.node) refl (looked_by (Says c.args.node)
    (c.in-Ok-false.is ∙ ap (λ b. Ok b) c.in-Ok-false.field-0-test) c.has_live.ensures.acts
    (c.has_live.ensures.looks, c.has_live.ensures.same))
    (λ p n ready is says. ap (λ b. first_refusal (when (not b) (refused.NoNode c.args.node) ∷ []))
    (sym (says n is)))).refuses

pub returns-in_ok-told-in-Err : goal.returns-in_ok-told-in-Err
returns-in_ok-told-in-Err g c =
    let reply = c.in_ok-told-in-Err.field-0 in
    let fault = c.in-Err.fault in
    let done = stops c.args.seat.now.name (Due c.args.node)
    (looked_by (Says c.args.node) c.in-Err.is c.has_live.ensures.acts
    (c.has_live.ensures.looks, c.has_live.ensures.same)) (record {
      is = c.in_ok-told-in-Err.ensures.reply;
      memory = not_short c.told.result reply fault c.in_ok-told-in-Err.was c.told.ensures.memory;
    }) in
    record { checks = done.checks; refuses = done.refuses; name = refl }
