use Rattle.std.proofs.Common.{◌≡◌, ◌∙◌, ℕ, Bool, not, List, [], ◌∷◌, Option, Some, None, Ok, refl, sym, ap, subst}
use Rattle.slon_model.specs.declared.reply.Refusal.{Refusal}
use Rattle.slon_model.specs.declared.reply.Refusal.TheVariants as refused
use Rattle.slon_model.specs.Place.{Place}
use Rattle.slon_model.specs.Sessions.{Seat, when, first_refusal}
use Rattle.slon_model.specs.declared.reply.Reply.TheVariants.{Refused}
use Rattle.app_store.specs.Base.{base_of}
use Rattle.slonik_exec.specs.Answering.{AtSeat}
use Rattle.slonik_exec.proofs.Works.{looked_by, passes, refuses, stops}
use Rattle.slonik_exec.proofs.Telling.{not_short}
use Rattle.slon_model.specs.Names.{find_named}
use Rattle.std.specs.Prelude.{is_some, is_none}
use Rattle.slonik_exec.proofs.checks.check_table.Goals as goal

abbrev Says : List ℕ → Place → Bool → Type 0
Says table = λ p found. found ≡ is_some (find_named table p.tables)

abbrev Due : List ℕ → Seat → List (Option Refusal)
Due table s = when (is_none (find_named table s.place.tables)) (refused.NoTable table) ∷ []

none_is : (o : Option ℕ) → is_none o ≡ not (is_some o)
none_is None = refl
none_is (Some columns) = refl

pub returns-in-Ok-true-clause-refuses : goal.returns-in-Ok-true-clause-refuses
returns-in-Ok-true-clause-refuses g c =
    (passes c.args.seat.now.name (Due c.args.table.now)
    (looked_by (Says c.args.table.now)
    (c.in-Ok-true.is ∙ ap (λ b. Ok b) c.in-Ok-true.field-0-test) c.has_table.ensures.acts
    (c.has_table.ensures.looks, c.has_table.ensures.same))
    (λ p n ready is says. ap (λ b. first_refusal (when b (refused.NoTable c.args.table.now) ∷ []))
    (none_is (find_named c.args.table.now p.tables) ∙ ap not (sym says)))).refuses

pub returns-in_ok-table-in-Ok-false-clause-refuses : goal.returns-in_ok-table-in-Ok-false-clause-refuses
returns-in_ok-table-in-Ok-false-clause-refuses g c =
    subst (λ t. AtSeat c.args.seat.now.name (Due c.args.table.now) (base_of g.K.Keeper.kept c.args.seat.now.database)
    (Some (Refused (refused.NoTable t))) (base_of g.K.Keeper.kept c.has_table.new.database))
    (sym c.in_ok-table-in-Ok-false.ensures)
    (refuses c.args.seat.now.name (Due c.args.table.now) (refused.NoTable c.args.table.now) refl
    (looked_by (Says c.args.table.now)
    (c.in-Ok-false.is ∙ ap (λ b. Ok b) c.in-Ok-false.field-0-test) c.has_table.ensures.acts
    (c.has_table.ensures.looks, c.has_table.ensures.same))
    (λ p n ready is says. ap (λ b. first_refusal (when b (refused.NoTable c.args.table.now) ∷ []))
    (none_is (find_named c.args.table.now p.tables) ∙ ap not (sym says)))).refuses

pub returns-in_ok-told-in-Err : goal.returns-in_ok-told-in-Err
returns-in_ok-told-in-Err g c =
    let reply = c.in_ok-told-in-Err.field-0 in
    let fault = c.in-Err.fault in
    let done = stops c.args.seat.now.name (Due c.args.table.now)
    (looked_by (Says c.args.table.now) (c.in-Err.is) c.has_table.ensures.acts
    (c.has_table.ensures.looks, c.has_table.ensures.same)) (record {
      is = c.in_ok-told-in-Err.ensures.reply;
      memory = not_short c.told.result reply fault c.in_ok-told-in-Err.was c.told.ensures.memory;
    }) in
    record { checks = done.checks; refuses = done.refuses; name = refl }
