use Rattle.std.proofs.Common.{◌≡◌, ◌∙◌, ◌==◌, List, [], ◌∷◌, Option, ℕ, refl, sym, ap}
use Rattle.std.specs.List.{list_any}
use Rattle.node_rows.specs.declared.rows.Subscription.{Subscription}
use Rattle.slon_model.specs.declared.reply.Refusal.{Refusal}
use Rattle.slon_model.specs.declared.reply.Refusal.TheVariants as refused
use Rattle.slon_model.specs.Config.{receivers}
use Rattle.slon_model.specs.Maps.{Map}
use Rattle.slon_model.specs.Place.{Place}
use Rattle.slon_model.specs.Sessions.{Seat, when, first_refusal}
use Rattle.slon_model.specs.Subscribing.{provides}
use Rattle.node_store.specs.Looking.{OfConfig}
use Rattle.slonik_exec.proofs.Works.{looked_by, passes, refuses, stops}
use Rattle.slonik_exec.proofs.Telling.{not_short}
use Rattle.slonik_exec.proofs.unsubscribing.check_feeds_none.Goals as goal

abbrev Says : ℕ → Place → List (ℕ × Subscription) → Type 0
Says set = OfConfig (λ k found. found ≡ receivers set k)

abbrev Due : ℕ → ℕ → Seat → List (Option Refusal)
Due set receiver s = when (provides receiver set s.known.config) (refused.HasReceivers receiver) ∷ []

-- what is tested of the rows
abbrev tested : ℕ → Map Subscription → Option Refusal
tested receiver rows =
    first_refusal (when (list_any (λ e. e.1.provider == receiver) rows) (refused.HasReceivers receiver) ∷ [])

pub returns-then-provides-clause-refuses : goal.returns-then-provides-clause-refuses
returns-then-provides-clause-refuses g c =
    let receiver = c.args.receiver in
    (refuses c.args.seat.now.name (Due c.args.set receiver) (refused.HasReceivers receiver) refl
    (looked_by (Says c.args.set) c.in-Ok.is
    c.receivers_of.ensures.acts (c.receivers_of.ensures.looks, c.receivers_of.ensures.same))
    (λ p n ready is says.
    ap (tested receiver) (sym (c.as_slice.ensures.value ∙ says n is))
    ∙ ap (λ b. first_refusal (when b (refused.HasReceivers receiver) ∷ []))
    (sym c.provides.ensures ∙ c.if-provides.true))).refuses

pub returns-else-provides-clause-refuses : goal.returns-else-provides-clause-refuses
returns-else-provides-clause-refuses g c =
    let receiver = c.args.receiver in
    (passes c.args.seat.now.name (Due c.args.set receiver)
    (looked_by (Says c.args.set) c.in-Ok.is
    c.receivers_of.ensures.acts (c.receivers_of.ensures.looks, c.receivers_of.ensures.same))
    (λ p n ready is says.
    ap (tested receiver) (sym (c.as_slice.ensures.value ∙ says n is))
    ∙ ap (λ b. first_refusal (when b (refused.HasReceivers receiver) ∷ []))
    (sym c.provides.ensures ∙ c.if-provides.false))).refuses

pub returns-in_ok-told-in-Err : goal.returns-in_ok-told-in-Err
returns-in_ok-told-in-Err g c =
    let reply = c.in_ok-told-in-Err.field-0 in
    let fault = c.in-Err.fault in
    let done = stops c.args.seat.now.name (Due c.args.set c.args.receiver)
    (looked_by (Says c.args.set) c.in-Err.is c.receivers_of.ensures.acts
    (c.receivers_of.ensures.looks, c.receivers_of.ensures.same)) (record {
      is = c.in_ok-told-in-Err.ensures.reply;
      memory = not_short c.told.result reply fault c.in_ok-told-in-Err.was c.told.ensures.memory;
    }) in
    record { checks = done.checks; refuses = done.refuses; name = refl }
