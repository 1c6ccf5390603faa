use Rattle.std.proofs.Common.{◌≡◌, ◌∙◌, ℕ, true, List, [], ◌∷◌, Option, Some, Ok, refl, sym, ap, subst}
use Rattle.slon_model.specs.declared.reply.Refusal.{Refusal}
use Rattle.slon_model.specs.declared.reply.Refusal.TheVariants as refused
use Rattle.slon_model.specs.Place.{Place}
use Rattle.slon_model.specs.Sessions.{Seat, first_refusal}
use Rattle.slon_model.specs.declared.reply.Reply.TheVariants.{Refused}
use Rattle.app_store.specs.Base.{base_of}
use Rattle.slonik_exec.specs.Answering.{AtSeat}
use Rattle.slonik_exec.proofs.Works.{looked_by, passes, refuses, stops}
use Rattle.slonik_exec.proofs.Telling.{not_short}
use Rattle.node_store.specs.Looking.{OfConfig}
use Rattle.slon_model.specs.Reaching.{receiver_with}
use Rattle.std.specs.Option.{option_map}
use Rattle.slonik_exec.proofs.checks.check_receivers.Goals as goal

abbrev Says : ℕ → Place → Option ℕ → Type 0
Says set = OfConfig (λ k found. found ≡ receiver_with (λ e. true) set k)

abbrev Due : ℕ → Seat → List (Option Refusal)
Due set s = option_map refused.HasReceivers (receiver_with (λ e. true) set s.known.config) ∷ []

pub returns-in-Ok-None-clause-refuses : goal.returns-in-Ok-None-clause-refuses
returns-in-Ok-None-clause-refuses g c =
    (passes c.args.seat.now.name (Due c.args.set)
    (looked_by (Says c.args.set)
    (c.in-Ok-None.is ∙ ap (λ o. Ok o) c.in-Ok-None.field-0-is) c.first_receiver.ensures.acts
    (c.first_receiver.ensures.looks, c.first_receiver.ensures.same))
    (λ p n ready is says. ap (λ o. first_refusal (option_map refused.HasReceivers o ∷ [])) (sym (says n is)))).refuses

pub returns-in-Ok-Some-clause-refuses : goal.returns-in-Ok-Some-clause-refuses
returns-in-Ok-Some-clause-refuses g c =
    subst (λ x. AtSeat c.args.seat.now.name (Due c.args.set) (base_of g.K.Keeper.kept c.args.seat.now.database)
    (Some (Refused (refused.HasReceivers x))) (base_of g.K.Keeper.kept c.first_receiver.new.database))
    (sym c.in-Ok-Some.node-is)
    (refuses c.args.seat.now.name (Due c.args.set) (refused.HasReceivers c.in-Ok-Some.node) refl
    (looked_by (Says c.args.set)
    (c.in-Ok-Some.is ∙ ap (λ o. Ok o) c.in-Ok-Some.field-0-is) c.first_receiver.ensures.acts
    (c.first_receiver.ensures.looks, c.first_receiver.ensures.same))
    (λ p n ready is says. ap (λ o. first_refusal (option_map refused.HasReceivers o ∷ [])) (sym (says n is)))).refuses

pub returns-in_ok-told-in-Err : goal.returns-in_ok-told-in-Err
returns-in_ok-told-in-Err g c =
    let reply = c.in_ok-told-in-Err.field-0 in
    let fault = c.in-Err.fault in
    let done = stops c.args.seat.now.name (Due c.args.set)
    (looked_by (Says c.args.set) (c.in-Err.is) c.first_receiver.ensures.acts
    (c.first_receiver.ensures.looks, c.first_receiver.ensures.same)) (record {
      is = c.in_ok-told-in-Err.ensures.reply;
      memory = not_short c.told.result reply fault c.in_ok-told-in-Err.was c.told.ensures.memory;
    }) in
    record { checks = done.checks; refuses = done.refuses; name = refl }
