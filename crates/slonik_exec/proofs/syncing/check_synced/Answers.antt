use Rattle.std.proofs.Common.{◌∙◌, List, [], ◌∷◌, Option, Ok, refl, sym, ap}
use Rattle.slon_model.specs.declared.reply.Refusal.{Refusal}
use Rattle.slon_model.specs.declared.reply.Refusal.TheVariants as refused
use Rattle.slon_model.specs.Sessions.{Seat, when, first_refusal}
use Rattle.slon_model.specs.Turns.{is_synced}
use Rattle.node_store.specs.Syncing.{IsSynced}
use Rattle.slonik_exec.proofs.Works.{looked_by, passes, refuses, stops}
use Rattle.slonik_exec.proofs.Telling.{not_short}
use Rattle.slonik_exec.proofs.syncing.check_synced.Goals as goal

abbrev Due : Seat → List (Option Refusal)
Due s = when (is_synced s) refused.Nothing ∷ []

pub returns-in-Ok-false-clause-refuses : goal.returns-in-Ok-false-clause-refuses
returns-in-Ok-false-clause-refuses g c =
    (passes c.args.seat.now.name Due
    (looked_by IsSynced
    (c.in-Ok-false.is ∙ ap (λ b. Ok b) c.in-Ok-false.field-0-test) c.is_synced.ensures.acts
    (c.is_synced.ensures.looks, c.is_synced.ensures.same))
    (λ p n ready is says. ap (λ b. first_refusal (when b refused.Nothing ∷ [])) (sym (says n is)))).refuses

pub returns-in-Ok-true-clause-refuses : goal.returns-in-Ok-true-clause-refuses
returns-in-Ok-true-clause-refuses g c =
    (refuses c.args.seat.now.name Due refused.Nothing refl
    (looked_by IsSynced
    (c.in-Ok-true.is ∙ ap (λ b. Ok b) c.in-Ok-true.field-0-test) c.is_synced.ensures.acts
    (c.is_synced.ensures.looks, c.is_synced.ensures.same))
    (λ p n ready is says. ap (λ b. first_refusal (when b refused.Nothing ∷ [])) (sym (says n is)))).refuses

pub returns-in_ok-told-in-Err : goal.returns-in_ok-told-in-Err
returns-in_ok-told-in-Err g c =
    let reply = c.in_ok-told-in-Err.field-0 in
    let fault = c.in-Err.fault in
    let done = stops c.args.seat.now.name Due
    (looked_by IsSynced c.in-Err.is c.is_synced.ensures.acts
    (c.is_synced.ensures.looks, c.is_synced.ensures.same)) (record {
      is = c.in_ok-told-in-Err.ensures.reply;
      memory = not_short c.told.result reply fault c.in_ok-told-in-Err.was c.told.ensures.memory;
    }) in
    record { checks = done.checks; refuses = done.refuses; name = refl }
