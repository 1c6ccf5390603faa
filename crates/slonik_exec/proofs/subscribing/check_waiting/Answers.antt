use Rattle.std.proofs.Common.{◌≡◌, ◌∙◌, Bool, List, [], ◌∷◌, Option, Ok, refl, sym, ap}
use Rattle.slon_model.specs.declared.reply.Refusal.{Refusal}
use Rattle.slon_model.specs.declared.reply.Refusal.TheVariants as refused
use Rattle.slon_model.specs.Place.{Place}
use Rattle.slon_model.specs.Sessions.{Seat, when, first_refusal}
use Rattle.slon_model.specs.Subscribing.{is_waiting}
use Rattle.node_store.specs.Polling.{OfNode}
use Rattle.node_store.specs.Reached.{is_waiting_at}
use Rattle.slonik_exec.specs.declared.subscribing.NewFeed.{NewFeed}
use Rattle.slonik_exec.specs.Statements.{feed_as}
use Rattle.slonik_exec.proofs.Relaying.{waiting_same}
use Rattle.slonik_exec.proofs.Works.{looked_by, passes, refuses, stops}
use Rattle.slonik_exec.proofs.Telling.{not_short}
use Rattle.slonik_exec.proofs.subscribing.check_waiting.Goals as goal

abbrev Says : NewFeed → Place → Bool → Type 0
Says f = OfNode (λ n found. found ≡ is_waiting_at f.set_id f.receiver n)

abbrev Due : NewFeed → Seat → List (Option Refusal)
Due f s = when (is_waiting s (feed_as f)) (refused.NotActive f.receiver) ∷ []

pub returns-in-Ok-false-clause-refuses : goal.returns-in-Ok-false-clause-refuses
returns-in-Ok-false-clause-refuses g c =
    let name = c.args.seat.now.name in
    let f = c.args.feed in
    (passes name (Due f) (looked_by (Says f)
    (c.in-Ok-false.is ∙ ap (λ b. Ok b) c.in-Ok-false.field-0-test) c.is_waiting.ensures.acts
    (c.is_waiting.ensures.looks, c.is_waiting.ensures.same))
    (λ p n ready is says. ap (λ b. first_refusal (when b (refused.NotActive f.receiver) ∷ []))
    (sym (says n is ∙ waiting_same name p n (feed_as f))))).refuses

pub returns-in-Ok-true-clause-refuses : goal.returns-in-Ok-true-clause-refuses
returns-in-Ok-true-clause-refuses g c =
    let name = c.args.seat.now.name in
    let f = c.args.feed in
    (refuses name (Due f) (refused.NotActive f.receiver) refl (looked_by (Says f)
    (c.in-Ok-true.is ∙ ap (λ b. Ok b) c.in-Ok-true.field-0-test) c.is_waiting.ensures.acts
    (c.is_waiting.ensures.looks, c.is_waiting.ensures.same))
    (λ p n ready is says. ap (λ b. first_refusal (when b (refused.NotActive f.receiver) ∷ []))
    (sym (says n is ∙ waiting_same name p n (feed_as f))))).refuses

pub returns-in_ok-told-in-Err : goal.returns-in_ok-told-in-Err
returns-in_ok-told-in-Err g c =
    let reply = c.in_ok-told-in-Err.field-0 in
    let fault = c.in-Err.fault in
    let done = stops c.args.seat.now.name (Due c.args.feed)
    (looked_by (Says c.args.feed) c.in-Err.is c.is_waiting.ensures.acts
    (c.is_waiting.ensures.looks, c.is_waiting.ensures.same)) (record {
      is = c.in_ok-told-in-Err.ensures.reply;
      memory = not_short c.told.result reply fault c.in_ok-told-in-Err.was c.told.ensures.memory;
    }) in
    record { checks = done.checks; refuses = done.refuses; name = refl }
