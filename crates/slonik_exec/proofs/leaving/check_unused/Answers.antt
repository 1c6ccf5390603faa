use Rattle.std.proofs.Common.{◌≡◌, ◌∙◌, ℕ, List, [], ◌∷◌, Option, Some, Ok, refl, sym, ap, subst}
use Rattle.slon_model.specs.declared.reply.Refusal.{Refusal}
use Rattle.slon_model.specs.declared.reply.Refusal.TheVariants as refused
use Rattle.slon_model.specs.Place.{Place}
use Rattle.slon_model.specs.Sessions.{Seat, first_refusal}
use Rattle.slon_model.specs.declared.reply.Reply.TheVariants.{Refused}
use Rattle.app_store.specs.Base.{base_of}
use Rattle.slonik_exec.specs.Answering.{AtSeat}
use Rattle.slonik_exec.proofs.Works.{looked_by, passes, refuses, stops}
use Rattle.slonik_exec.proofs.Telling.{not_short}
use Rattle.node_store.specs.Looking.{OfConfig}
use Rattle.slon_model.specs.Membership.{set_used_by}
use Rattle.std.specs.Option.{option_map}
use Rattle.slonik_exec.proofs.leaving.check_unused.Goals as goal

abbrev Says : ℕ → Place → Option ℕ → Type 0
Says node = OfConfig (λ k found. found ≡ set_used_by node k)

abbrev Due : ℕ → Seat → List (Option Refusal)
Due node s = option_map refused.StillUsed (set_used_by node s.known.config) ∷ []

pub returns-in-Ok-None-clause-refuses : goal.returns-in-Ok-None-clause-refuses
returns-in-Ok-None-clause-refuses g c =
    (passes c.args.seat.now.name (Due c.args.node)
    (looked_by (Says c.args.node)
    (c.in-Ok-None.is ∙ ap (λ o. Ok o) c.in-Ok-None.field-0-is) c.set_used_by.ensures.acts
    (c.set_used_by.ensures.looks, c.set_used_by.ensures.same))
    (λ p n ready is says. ap (λ o. first_refusal (option_map refused.StillUsed o ∷ [])) (sym (says n is)))).refuses

pub returns-in-Ok-Some-clause-refuses : goal.returns-in-Ok-Some-clause-refuses
returns-in-Ok-Some-clause-refuses g c =
    subst (λ x. AtSeat c.args.seat.now.name (Due c.args.node) (base_of g.K.Keeper.kept c.args.seat.now.database)
    (Some (Refused (refused.StillUsed x))) (base_of g.K.Keeper.kept c.set_used_by.new.database))
    (sym c.in-Ok-Some.set-is)
    (refuses c.args.seat.now.name (Due c.args.node) (refused.StillUsed c.in-Ok-Some.set) refl
    (looked_by (Says c.args.node)
    (c.in-Ok-Some.is ∙ ap (λ o. Ok o) c.in-Ok-Some.field-0-is) c.set_used_by.ensures.acts
    (c.set_used_by.ensures.looks, c.set_used_by.ensures.same))
    (λ p n ready is says. ap (λ o. first_refusal (option_map refused.StillUsed o ∷ [])) (sym (says n is)))).refuses

pub returns-in_ok-told-in-Err : goal.returns-in_ok-told-in-Err
returns-in_ok-told-in-Err g c =
    let reply = c.in_ok-told-in-Err.field-0 in
    let fault = c.in-Err.fault in
    let done = stops c.args.seat.now.name (Due c.args.node)
    (looked_by (Says c.args.node) (c.in-Err.is) c.set_used_by.ensures.acts
    (c.set_used_by.ensures.looks, c.set_used_by.ensures.same)) (record {
      is = c.in_ok-told-in-Err.ensures.reply;
      memory = not_short c.told.result reply fault c.in_ok-told-in-Err.was c.told.ensures.memory;
    }) in
    record { checks = done.checks; refuses = done.refuses; name = refl }
