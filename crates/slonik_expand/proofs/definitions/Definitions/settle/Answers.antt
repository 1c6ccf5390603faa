use Rattle.std.proofs.Common.{◌≡◌, ◌<◌, ℕ, List, [], ◌∷◌, Some, true, map, length, is_ok, arith}
use Rattle.std.proofs.lemmas.List.{length-append}
use Rattle.indexmap.specs.IndexMap.{get_by_text}
use Rattle.slonik_expand.specs.Shared.{are_ordered, capped, meanings}
use Rattle.slonik_expand.proofs.SharedDefinitions.{only_is, kept_if, ordered_new, counted_one, settles_new}
use Rattle.slonik_expand.proofs.SharedDefinitions.{settles_earlier}
use Rattle.slonik_expand.proofs.definitions.Definitions.settle.Goals as goal

pub invariant_of-self-clause-ordered : goal.invariant_of-self-clause-ordered
invariant_of-self-clause-ordered c =
    let old = c.args.self.now in
    kept_if (λ l. are_ordered 0 l ≡ true) (is_ok c.push.result) old.made.items _ c.args.definition c.push.ensures.items
    old.ordered (ordered_new old.made.items c.args.definition old.ordered c.requires.below)

pub invariant_of-self-clause-counted : goal.invariant_of-self-clause-counted
invariant_of-self-clause-counted c =
    let old = c.args.self.now in
    kept_if (λ l. map (λ d. d.len) l ≡ map (λ ts. capped (length ts)) (meanings l)) (is_ok c.push.result) old.made.items
    _ c.args.definition c.push.ensures.items
    old.counted (counted_one old.made.items c.args.definition old.counted c.requires)

pub invariant_of-self-clause-placed : goal.invariant_of-self-clause-placed
invariant_of-self-clause-placed c =
    let old = c.args.self.now in
    kept_if (λ l. (name : List ℕ) (place : ℕ) → get_by_text old.places name ≡ Some place → place < length l)
    (is_ok c.push.result) old.made.items _ c.args.definition
    c.push.ensures.items old.placed (λ name place e. omega
    (arith, old.placed name place e, length-append old.made.items (c.args.definition ∷ [])))

pub returns-in-Some-clause-settles : goal.returns-in-Some-clause-settles
returns-in-Some-clause-settles c =
    settles_earlier c.args.self.now.made.items c.args.definition c.in-Some.place
    (only_is c.args.definition.parts.items c.in-Some.place c.in-Some.ensures) c.requires

pub returns-in_ok-push-in-None-clause-settles : goal.returns-in_ok-push-in-None-clause-settles
returns-in_ok-push-in-None-clause-settles c =
    settles_new c.args.self.now.made.items c.push.new.self.items c.args.definition _ c.in_ok-push-in-None.ensures.items
    (omega (arith, c.len.ensures, c.push.new.self.ok.0))
