use Rattle.std.proofs.Common.{◌≡◌, ◌∙◌, ℕ, ◌==◌, Bool, true, false, not, List, [], ◌∷◌, Option, Ok, refl, sym}
use Rattle.std.proofs.Common.{ap, subst}
use Rattle.std.proofs.lemmas.Bool.{eq-eqb, true≢false}
use Rattle.slon_model.specs.declared.reply.Refusal.{Refusal}
use Rattle.slon_model.specs.declared.reply.Refusal.TheVariants as refused
use Rattle.slon_model.specs.Config.{has_path}
use Rattle.slon_model.specs.Place.{Place}
use Rattle.slon_model.specs.Sessions.{first_refusal, when}
use Rattle.slon_model.specs.Turns.{are_cut}
use Rattle.app_store.specs.Base.{Base, base_of}
use Rattle.node_store.specs.Looking.{OfConfig}
use Rattle.slonik_exec.proofs.Telling.{not_short}
use Rattle.slonik_exec.proofs.Works.{Checked, Looked, looked_by, passes, refuses, stops}
use Rattle.slon_turns.specs.Planning.{IsApart, apart_reply, link_checks}
use Rattle.slon_turns.proofs.planning.check_link.Goals as goal

abbrev Says : ℕ → ℕ → Place → Bool → Type 0
Says node provider = OfConfig (λ c found. found ≡ has_path node provider c)

-- by what is known of the path, of the cut, and of the two ids
abbrev by_three : ℕ → ℕ → Bool → Bool → Bool → List (Option Refusal)
by_three node provider path cut same =
    when (not path) (refused.NoPath provider) ∷ when cut (refused.Severed node provider)
    ∷ when same (refused.NoNode provider) ∷ []

-- the node has a path
linked : {name : List ℕ} {old new : Base} (cuts : List (ℕ × ℕ)) (node provider : ℕ) →
    Looked (Says node provider) old (Ok true) new → (cut same : Bool) → are_cut node provider cuts ≡ cut →
    (provider == node) ≡ same → Checked name (link_checks node provider cuts) old (apart_reply node provider cut same)
    new
linked {name} cuts node provider look true same cut_is same_is =
    refuses name (link_checks node provider cuts) (refused.Severed node provider) refl look
    (λ p n ready is says. ap (λ b. first_refusal (by_three node provider b (are_cut node provider cuts)
    (provider == node))) (sym (says n is))
    ∙ ap (λ b. first_refusal (by_three node provider true b (provider == node))) cut_is)
linked {name} cuts node provider look false true cut_is same_is =
    refuses name (link_checks node provider cuts) (refused.NoNode provider) refl look
    (λ p n ready is says. ap (λ b. first_refusal (by_three node provider b (are_cut node provider cuts)
    (provider == node))) (sym (says n is))
    ∙ ap (λ b. first_refusal (by_three node provider true b (provider == node))) cut_is
    ∙ ap (λ b. first_refusal (by_three node provider true false b)) same_is)
linked {name} cuts node provider look false false cut_is same_is =
    passes name (link_checks node provider cuts) look
    (λ p n ready is says. ap (λ b. first_refusal (by_three node provider b (are_cut node provider cuts)
    (provider == node))) (sym (says n is))
    ∙ ap (λ b. first_refusal (by_three node provider true b (provider == node))) cut_is
    ∙ ap (λ b. first_refusal (by_three node provider true false b)) same_is)

apart_by : (node provider : ℕ) (cut same : Bool) → (provider == node) ≡ same →
    IsApart node provider (apart_reply node provider cut same)
apart_by node provider true same is = tt
apart_by node provider false true is = tt
apart_by node provider false false is = λ one. true≢false (sym (eq-eqb provider node one) ∙ is)

pub returns-in-Ok-true : goal.returns-in-Ok-true
returns-in-Ok-true g c =
    let node = c.args.node in
    let provider = c.args.provider in
    let old = base_of g.K.Keeper.kept c.args.own.now.database in
    let new = base_of g.K.Keeper.kept c.knows_path.new.database in
    let done = subst (λ o. Checked c.args.own.now.name (link_checks node provider c.args.cuts.now) old o new)
    (sym c.apart.ensures)
    (linked c.args.cuts.now node provider (looked_by (Says node provider)
    (c.in-Ok-true.is ∙ ap (λ b. Ok b) c.in-Ok-true.field-0-test) c.knows_path.ensures.acts
    (c.knows_path.ensures.looks, c.knows_path.ensures.same)) (are_cut node provider c.args.cuts.now) (provider == node)
    refl refl) in
    record {
      checks = done.checks;
      refuses = done.refuses;
      apart = subst (IsApart node provider) (sym c.apart.ensures)
          (apart_by node provider (are_cut node provider c.args.cuts.now) (provider == node) refl);
      name = refl;
    }

pub returns-in-Ok-false : goal.returns-in-Ok-false
returns-in-Ok-false g c =
    let node = c.args.node in
    let provider = c.args.provider in
    let done = refuses c.args.own.now.name (link_checks node provider c.args.cuts.now) (refused.NoPath provider) refl
    (looked_by (Says node provider)
    (c.in-Ok-false.is ∙ ap (λ b. Ok b) c.in-Ok-false.field-0-test) c.knows_path.ensures.acts
    (c.knows_path.ensures.looks, c.knows_path.ensures.same))
    (λ p n ready is says. ap (λ b. first_refusal (by_three node provider b (are_cut node provider c.args.cuts.now)
    (provider == node))) (sym (says n is))) in
    record { checks = done.checks; refuses = done.refuses; apart = tt; name = refl }

pub returns-in_ok-told-in-Err : goal.returns-in_ok-told-in-Err
returns-in_ok-told-in-Err g c =
    let reply = c.in_ok-told-in-Err.field-0 in
    let fault = c.in-Err.fault in
    let done = stops c.args.own.now.name (link_checks c.args.node c.args.provider c.args.cuts.now)
    (looked_by (Says c.args.node c.args.provider) (c.in-Err.is) c.knows_path.ensures.acts
    (c.knows_path.ensures.looks, c.knows_path.ensures.same)) (record {
      is = c.in_ok-told-in-Err.ensures.reply;
      memory = not_short c.told.result reply fault c.in_ok-told-in-Err.was c.told.ensures.memory;
    }) in
    record { checks = done.checks; refuses = done.refuses; apart = tt; name = refl }
