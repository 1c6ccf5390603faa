use Rattle.std.proofs.Common.{◌≡◌, ◌∙◌, ℕ, List, [], ◌∷◌, Option, Some, Ok, refl, sym, ap, subst}
use Rattle.slon_model.specs.declared.reply.Refusal.{Refusal}
use Rattle.slon_model.specs.declared.reply.Refusal.TheVariants as refused
use Rattle.slon_model.specs.Place.{Place}
use Rattle.slon_model.specs.Sessions.{Seat, first_refusal}
use Rattle.slon_model.specs.declared.reply.Reply.TheVariants.{Refused}
use Rattle.app_store.specs.Base.{base_of}
use Rattle.app_store.specs.Parts.{Looks}
use Rattle.slonik_exec.specs.Answering.{AtSeat}
use Rattle.slonik_exec.proofs.Works.{looked_by, passes, refuses, stops}
use Rattle.slonik_exec.proofs.Telling.{not_short}
use Rattle.slon_model.specs.Sessions.{writer_of}
use Rattle.std.specs.Option.{option_map}
use Rattle.slonik_exec.proofs.checks.check_writers.Goals as goal

abbrev Says : List (List ℕ) → Place → Option ℕ → Type 0
Says tables = λ p found. found ≡ writer_of tables p

abbrev Due : List ℕ → Seat → List (Option Refusal)
Due table s = option_map refused.Busy (writer_of (table ∷ []) s.place) ∷ []

pub returns-in-Ok-None-clause-refuses : goal.returns-in-Ok-None-clause-refuses
returns-in-Ok-None-clause-refuses g c =
    let looks = subst (λ ts. Looks (Says ts) (base_of g.K.Keeper.kept c.args.seat.now.database) c.writer.result
    (base_of g.K.Keeper.kept c.writer.new.database)) c.one.ensures c.writer.ensures.looks in
    (passes c.args.seat.now.name (Due c.args.table.now)
    (looked_by (Says (c.args.table.now ∷ [])) (c.in-Ok-None.is ∙ ap (λ o. Ok o) c.in-Ok-None.field-0-is)
    c.writer.ensures.acts (looks, c.writer.ensures.same))
    (λ p n ready is says. ap (λ o. first_refusal (option_map refused.Busy o ∷ [])) (sym says))).refuses

pub returns-in-Ok-Some-clause-refuses : goal.returns-in-Ok-Some-clause-refuses
returns-in-Ok-Some-clause-refuses g c =
    let looks = subst (λ ts. Looks (Says ts) (base_of g.K.Keeper.kept c.args.seat.now.database) c.writer.result
    (base_of g.K.Keeper.kept c.writer.new.database)) c.one.ensures c.writer.ensures.looks in
    subst (λ x. AtSeat c.args.seat.now.name (Due c.args.table.now) (base_of g.K.Keeper.kept c.args.seat.now.database)
    (Some (Refused (refused.Busy x))) (base_of g.K.Keeper.kept c.writer.new.database)) (sym c.in-Ok-Some.xid-is)
    (refuses c.args.seat.now.name (Due c.args.table.now) (refused.Busy c.in-Ok-Some.xid) refl
    (looked_by (Says (c.args.table.now ∷ [])) (c.in-Ok-Some.is ∙ ap (λ o. Ok o) c.in-Ok-Some.field-0-is)
    c.writer.ensures.acts (looks, c.writer.ensures.same))
    (λ p n ready is says. ap (λ o. first_refusal (option_map refused.Busy o ∷ [])) (sym says))).refuses

pub returns-in_ok-told-in-Err : goal.returns-in_ok-told-in-Err
returns-in_ok-told-in-Err g c =
    let looks = subst (λ ts. Looks (Says ts) (base_of g.K.Keeper.kept c.args.seat.now.database) c.writer.result
    (base_of g.K.Keeper.kept c.writer.new.database)) c.one.ensures c.writer.ensures.looks in
    let reply = c.in_ok-told-in-Err.field-0 in
    let fault = c.in-Err.fault in
    let done = stops c.args.seat.now.name (Due c.args.table.now)
    (looked_by (Says (c.args.table.now ∷ [])) (c.in-Err.is) c.writer.ensures.acts
    (looks, c.writer.ensures.same)) (record {
      is = c.in_ok-told-in-Err.ensures.reply;
      memory = not_short c.told.result reply fault c.in_ok-told-in-Err.was c.told.ensures.memory;
    }) in
    record { checks = done.checks; refuses = done.refuses; name = refl }
