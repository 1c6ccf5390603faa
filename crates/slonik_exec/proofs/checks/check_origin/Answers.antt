use Rattle.std.proofs.Common.{◌≡◌, ◌∙◌, ◌==◌, ℕ, Bool, true, false, not, List, [], ◌∷◌, Option, Some, None, Ok, refl}
use Rattle.std.proofs.Common.{sym}
use Rattle.std.proofs.Common.{ap}
use Rattle.std.specs.Option.{option_map}
use Rattle.std.specs.Prelude.{is_none}
use Rattle.node_rows.specs.declared.rows.SetRow.{SetRow}
use Rattle.slon_model.specs.Config.{set_row, leads_row}
use Rattle.slon_model.specs.Deeds.{Node, knowledge}
use Rattle.slon_model.specs.declared.reply.Refusal.{Refusal}
use Rattle.slon_model.specs.declared.reply.Refusal.TheVariants as refused
use Rattle.slon_model.specs.Place.{Place}
use Rattle.slon_model.specs.Reaching.{origin_checks}
use Rattle.slon_model.specs.Sessions.{Seat, when, first_refusal}
use Rattle.app_store.specs.Base.{Base, base_of}
use Rattle.app_store.specs.Fits.{Ready}
use Rattle.node_store.specs.declared.looking.Reign.{Reign}
use Rattle.node_store.specs.Looking.{reign_of}
use Rattle.slonik_exec.specs.Answering.{is_id}
use Rattle.slonik_exec.proofs.Leading.{SaysReign}
use Rattle.slonik_exec.proofs.Works.{looked_by, passes, refuses, stops, own_test}
use Rattle.slonik_exec.proofs.Telling.{not_short}
use Rattle.slonik_exec.proofs.checks.check_origin.Goals as goal

abbrev Due : ℕ → Seat → List (Option Refusal)
Due set s = origin_checks s set

-- what the two checks say of the row of a set
abbrev first_of : ℕ → ℕ → Option SetRow → Option Refusal
first_of set own o =
    first_refusal (when (is_none o) (refused.NoSet set) ∷ when (not (leads_row own o)) (refused.NotOrigin set) ∷ [])

of_none : (set own : ℕ) (o : Option SetRow) → None ≡ option_map reign_of o →
    first_of set own o ≡ Some (refused.NoSet set)
of_none set own None is = refl
of_none set own (Some row) is = absurd cc

of_row : (set own : ℕ) (reign : Reign) (leads : Bool) (o : Option SetRow) → Some reign ≡ option_map reign_of o →
    (reign.origin == own) ≡ leads →
    first_of set own o ≡ first_refusal (when (not leads) (refused.NotOrigin set) ∷ [])
of_row set own reign leads None is same = absurd cc
of_row set own reign leads (Some row) is same =
    let reign_is : reign_of row ≡ reign = cc in
    ap (λ b. first_refusal (when (not b) (refused.NotOrigin set) ∷ []))
    (ap (λ r. r.origin == own) reign_is ∙ same)

-- the database is this node or not, by the code and by the rules
own_is : (p : Place) (n : Node) (old new : Base) (origin : ℕ) (leads : Bool) → Ready p old × (p.node ≡ Some n) →
    (old.memory.up ≡ true) × (new.memory ≡ old.memory) → is_id origin new.memory.identity ≡ leads →
    (origin == n.id) ≡ leads
own_is p n old new origin leads (ready, is) (up, same) own =
    own_test p n old origin leads (ready, is) up (sym (ap (λ m. is_id origin m.identity) same) ∙ own)

pub returns-in-Ok-None-clause-refuses : goal.returns-in-Ok-None-clause-refuses
returns-in-Ok-None-clause-refuses g c =
    (refuses c.args.seat.now.name (Due c.args.set) (refused.NoSet c.args.set) refl (looked_by (SaysReign c.args.set)
    (c.in-Ok-None.is ∙ ap (λ o. Ok o) c.in-Ok-None.field-0-is) c.set_reign.ensures.acts
    (c.set_reign.ensures.looks, c.set_reign.ensures.same))
    (λ p n ready is says. of_none c.args.set n.id (set_row c.args.set (knowledge n).config) (says n is))).refuses

pub returns-then-is_own-clause-refuses : goal.returns-then-is_own-clause-refuses
returns-then-is_own-clause-refuses g c =
    let reign = c.in-Ok-Some.reign in
    let own : is_id reign.origin c.set_reign.new.database.state.node.identity ≡ true
    = ap (λ (r : Reign). is_id r.origin c.set_reign.new.database.state.node.identity) (sym c.in-Ok-Some.reign-is)
    ∙ sym c.is_own.ensures ∙ c.if-is_own.true in
    (passes c.args.seat.now.name (Due c.args.set) (looked_by (SaysReign c.args.set)
    (c.in-Ok-Some.is ∙ ap (λ o. Ok o) c.in-Ok-Some.field-0-is) c.set_reign.ensures.acts
    (c.set_reign.ensures.looks, c.set_reign.ensures.same))
    (λ p n ready is says. of_row c.args.set n.id reign true (set_row c.args.set (knowledge n).config) (says n is)
    (own_is p n (base_of g.K.Keeper.kept c.args.seat.now.database)
    (base_of g.K.Keeper.kept c.set_reign.new.database) reign.origin true (ready, is)
    (c.requires.up, c.in-Ok-Some.ensures.same) own))).refuses

pub returns-else-is_own-clause-refuses : goal.returns-else-is_own-clause-refuses
returns-else-is_own-clause-refuses g c =
    let reign = c.in-Ok-Some.reign in
    let own : is_id reign.origin c.set_reign.new.database.state.node.identity ≡ false
    = ap (λ (r : Reign). is_id r.origin c.set_reign.new.database.state.node.identity) (sym c.in-Ok-Some.reign-is)
    ∙ sym c.is_own.ensures ∙ c.if-is_own.false in
    (refuses c.args.seat.now.name (Due c.args.set) (refused.NotOrigin c.args.set) refl (looked_by (SaysReign c.args.set)
    (c.in-Ok-Some.is ∙ ap (λ o. Ok o) c.in-Ok-Some.field-0-is) c.set_reign.ensures.acts
    (c.set_reign.ensures.looks, c.set_reign.ensures.same))
    (λ p n ready is says. of_row c.args.set n.id reign false (set_row c.args.set (knowledge n).config) (says n is)
    (own_is p n (base_of g.K.Keeper.kept c.args.seat.now.database)
    (base_of g.K.Keeper.kept c.set_reign.new.database) reign.origin false (ready, is)
    (c.requires.up, c.in-Ok-Some.ensures.same) own))).refuses

pub returns-in_ok-told-in-Err : goal.returns-in_ok-told-in-Err
returns-in_ok-told-in-Err g c =
    let reply = c.in_ok-told-in-Err.field-0 in
    let fault = c.in-Err.fault in
    let done = stops c.args.seat.now.name (Due c.args.set) (looked_by (SaysReign c.args.set) c.in-Err.is
    c.set_reign.ensures.acts (c.set_reign.ensures.looks, c.set_reign.ensures.same)) (record {
      is = c.in_ok-told-in-Err.ensures.reply;
      memory = not_short c.told.result reply fault c.in_ok-told-in-Err.was c.told.ensures.memory;
    }) in
    record { checks = done.checks; refuses = done.refuses; name = refl }
