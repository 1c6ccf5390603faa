use Rattle.std.proofs.Common.{◌≡◌, ◌∙◌, ℕ, Bool, List, [], ◌∷◌, Option, Ok, not, refl, sym, ap}
use Rattle.std.specs.Prelude.{is_some}
use Rattle.slon_model.specs.declared.reply.Refusal.{Refusal}
use Rattle.slon_model.specs.declared.reply.Refusal.TheVariants as refused
use Rattle.slon_model.specs.Maps.{pair_at}
use Rattle.slon_model.specs.Place.{Place}
use Rattle.slon_model.specs.Sessions.{Seat, when, first_refusal}
use Rattle.slon_model.specs.Subscribing.{is_unfed}
use Rattle.node_store.specs.Looking.{OfConfig}
use Rattle.slonik_exec.proofs.Feeding.{no_row}
use Rattle.slonik_exec.proofs.Works.{looked_by, passes, refuses, stops}
use Rattle.slonik_exec.proofs.Telling.{not_short}
use Rattle.slonik_exec.proofs.unsubscribing.check_fed.Goals as goal

abbrev Says : ℕ → ℕ → Place → Bool → Type 0
Says set receiver = OfConfig (λ k found. found ≡ is_some (pair_at set receiver k.subscriptions))

abbrev Due : ℕ → ℕ → Seat → List (Option Refusal)
Due set receiver s = when (is_unfed set receiver s.known.config) (refused.NotActive receiver) ∷ []

-- what is tested of the row
abbrev tested : ℕ → Bool → Option Refusal
tested receiver b = first_refusal (when b (refused.NotActive receiver) ∷ [])

pub returns-in-Ok-true-clause-refuses : goal.returns-in-Ok-true-clause-refuses
returns-in-Ok-true-clause-refuses g c =
    let set = c.args.set in
    let receiver = c.args.receiver in
    (passes c.args.seat.now.name (Due set receiver) (looked_by (Says set receiver)
    (c.in-Ok-true.is ∙ ap (λ b. Ok b) c.in-Ok-true.field-0-test) c.knows_receiver.ensures.acts
    (c.knows_receiver.ensures.looks, c.knows_receiver.ensures.same))
    (λ p n ready is says. ap (tested receiver) (no_row _ ∙ ap not (sym (says n is))))).refuses

pub returns-in-Ok-false-clause-refuses : goal.returns-in-Ok-false-clause-refuses
returns-in-Ok-false-clause-refuses g c =
    let set = c.args.set in
    let receiver = c.args.receiver in
    (refuses c.args.seat.now.name (Due set receiver) (refused.NotActive receiver) refl (looked_by (Says set receiver)
    (c.in-Ok-false.is ∙ ap (λ b. Ok b) c.in-Ok-false.field-0-test) c.knows_receiver.ensures.acts
    (c.knows_receiver.ensures.looks, c.knows_receiver.ensures.same))
    (λ p n ready is says. ap (tested receiver) (no_row _ ∙ ap not (sym (says n is))))).refuses

pub returns-in_ok-told-in-Err : goal.returns-in_ok-told-in-Err
returns-in_ok-told-in-Err g c =
    let reply = c.in_ok-told-in-Err.field-0 in
    let fault = c.in-Err.fault in
    let done = stops c.args.seat.now.name (Due c.args.set c.args.receiver)
    (looked_by (Says c.args.set c.args.receiver) c.in-Err.is c.knows_receiver.ensures.acts
    (c.knows_receiver.ensures.looks, c.knows_receiver.ensures.same)) (record {
      is = c.in_ok-told-in-Err.ensures.reply;
      memory = not_short c.told.result reply fault c.in_ok-told-in-Err.was c.told.ensures.memory;
    }) in
    record { checks = done.checks; refuses = done.refuses; name = refl }
