use Rattle.std.proofs.Common.{◌≡◌, ◌∙◌, ◌&&◌, ◌==◌, not, List, [], ◌∷◌, Option, ℕ, refl, sym, ap}
use Rattle.std.specs.List.{list_any}
use Rattle.node_rows.specs.declared.rows.Subscription.{Subscription}
use Rattle.slon_model.specs.declared.reply.Refusal.{Refusal}
use Rattle.slon_model.specs.declared.reply.Refusal.TheVariants as refused
use Rattle.slon_model.specs.Config.{receivers}
use Rattle.slon_model.specs.Maps.{Map}
use Rattle.slon_model.specs.Place.{Place}
use Rattle.slon_model.specs.Sessions.{Seat, when, first_refusal}
use Rattle.slon_model.specs.Subscribing.{is_provider}
use Rattle.node_store.specs.Looking.{OfConfig}
use Rattle.slonik_exec.specs.declared.subscribing.NewFeed.{NewFeed}
use Rattle.slonik_exec.specs.Statements.{feed_as}
use Rattle.slonik_exec.proofs.Works.{looked_by, passes, refuses, stops}
use Rattle.slonik_exec.proofs.Telling.{not_short}
use Rattle.slonik_exec.proofs.subscribing.check_provides.Goals as goal

abbrev Says : NewFeed → Place → List (ℕ × Subscription) → Type 0
Says f = OfConfig (λ k found. found ≡ receivers f.set_id k)

abbrev Due : NewFeed → Seat → List (Option Refusal)
Due f s = when (is_provider s (feed_as f)) (refused.HasReceivers f.receiver) ∷ []

-- what is tested of the rows
abbrev tested : NewFeed → Map Subscription → Option Refusal
tested f rows =
    first_refusal (when (not f.forward && list_any (λ e. e.1.provider == f.receiver) rows)
    (refused.HasReceivers f.receiver) ∷ [])

pub returns-then-stops_providing-clause-refuses : goal.returns-then-stops_providing-clause-refuses
returns-then-stops_providing-clause-refuses g c =
    let f = c.args.feed in
    (refuses c.args.seat.now.name (Due f) (refused.HasReceivers f.receiver) refl (looked_by (Says f) c.in-Ok.is
    c.receivers_of.ensures.acts (c.receivers_of.ensures.looks, c.receivers_of.ensures.same))
    (λ p n ready is says.
    ap (tested f) (sym (c.as_slice.ensures.value ∙ says n is))
    ∙ ap (λ b. first_refusal (when b (refused.HasReceivers f.receiver) ∷ []))
    (sym c.stops_providing.ensures ∙ c.if-stops_providing.true))).refuses

pub returns-else-stops_providing-clause-refuses : goal.returns-else-stops_providing-clause-refuses
returns-else-stops_providing-clause-refuses g c =
    let f = c.args.feed in
    (passes c.args.seat.now.name (Due f) (looked_by (Says f) c.in-Ok.is
    c.receivers_of.ensures.acts (c.receivers_of.ensures.looks, c.receivers_of.ensures.same))
    (λ p n ready is says.
    ap (tested f) (sym (c.as_slice.ensures.value ∙ says n is))
    ∙ ap (λ b. first_refusal (when b (refused.HasReceivers f.receiver) ∷ []))
    (sym c.stops_providing.ensures ∙ c.if-stops_providing.false))).refuses

pub returns-in_ok-told-in-Err : goal.returns-in_ok-told-in-Err
returns-in_ok-told-in-Err g c =
    let reply = c.in_ok-told-in-Err.field-0 in
    let fault = c.in-Err.fault in
    let done = stops c.args.seat.now.name (Due c.args.feed)
    (looked_by (Says c.args.feed) c.in-Err.is c.receivers_of.ensures.acts
    (c.receivers_of.ensures.looks, c.receivers_of.ensures.same)) (record {
      is = c.in_ok-told-in-Err.ensures.reply;
      memory = not_short c.told.result reply fault c.in_ok-told-in-Err.was c.told.ensures.memory;
    }) in
    record { checks = done.checks; refuses = done.refuses; name = refl }
