use Rattle.std.proofs.Common.{◌≡◌, inl, inr, ℕ, ◌+◌, Some, None, List, ◌∷◌, get_or, drop, rules, sym, subst, ◌∙◌}
use Rattle.std.proofs.lemmas.List.{drop_more, drop_all}
use Rattle.slon_base.specs.Keeper.{Store, sight}
use Rattle.store_rows.proofs.Spaces.{sight_on}
use Rattle.event_store.specs.Formed.{HasProgress, Lacks}
use Rattle.event_store.specs.Hearing.{HandedNode, HandedNodes, AreOrigin, HandedLeast}
use Rattle.event_store.proofs.lagging.least_confirmed.Goals as goal

-- the first node was read, so what was handed comes behind it
behind_first : (m : Store) (origin n : ℕ) (ns : List ℕ) (space : ℕ) → (HandedNode m origin n space → ⊥) →
    HandedNodes m origin (n ∷ ns) space → HandedNodes m origin ns space
behind_first m origin n ns space read (inl first) = absurd (read first)
behind_first m origin n ns space read (inr more) = more

pub loop-node-preserved : goal.loop-node-preserved
loop-node-preserved g c =
    let old = g.K.Keeper.kept c.args.keeper.now in
    let mid = g.K.Keeper.kept c.loop-node.keeper in
    let origin = c.args.origin in
    let known = c.args.known.now in
    let at = c.loop-node.node-index in
    let before = c.loop-node.invariant in
    let step = drop_more known at 0 c.loop-node-test.true in
    let left : (m : Store) → sight old ≡ Some m → (space : ℕ) → HandedNodes m origin known space →
    HandedNodes m origin (drop (at + 1) known) space =
    λ m seen space handed. behind_first m origin (get_or known at 0) (drop (at + 1) known) space
    (c.in_ok-least.ensures.form m (sight_on old mid before.held before.same ∙ seen) space)
    (subst (λ ns. HandedNodes m origin ns space) step (before.left m seen space handed)) in
    let fronts : (m : Store) (space : ℕ) → HandedNodes m origin (drop (at + 1) known) space →
    HandedNodes m origin known space =
    λ m space more. before.fronts m space (subst (λ ns. HandedNodes m origin ns space) (sym step) (inr more)) in
    let others : c.in_ok-least.least ≡ None → AreOrigin origin (drop (at + 1) known) → AreOrigin origin known =
    λ none all. let both = c.in_ok-least.ensures.none none in
    before.others both.1 (subst (AreOrigin origin) (sym step) (both.0, all)) in
    let none : AreOrigin origin known → (c.in_ok-least.least ≡ None) × AreOrigin origin (drop (at + 1) known) =
    λ all. let so_far = before.none all in
    let parts = subst (AreOrigin origin) step so_far.1 in
    (c.in_ok-least.ensures.origin parts.0 ∙ so_far.0, parts.1) in
    search (rules, left, fronts, others, none)

-- all rows were read
none_handed : (m : Store) (own origin : ℕ) (known : List ℕ) (space : ℕ) → (HandedNodes m origin known space → ⊥) →
    (Lacks 11 (HasProgress own origin m) space → ⊥) → HandedLeast m own origin known space → ⊥
none_handed m own origin known space none last (inl handed) = none handed
none_handed m own origin known space none last (inr (all, lacks)) = last lacks

pub returns-in_ok-confirmed-in-None-clause-form : goal.returns-in_ok-confirmed-in-None-clause-form
returns-in_ok-confirmed-in-None-clause-form g c m seen space =
    let old = g.K.Keeper.kept c.args.keeper.now in
    let mid = g.K.Keeper.kept c.loop-node.keeper in
    let before = c.loop-node.invariant in
    let end = drop_all c.loop-node.node-index c.args.known.now c.loop-node-test.false in
    none_handed m c.args.own c.args.origin c.args.known.now space
    (λ handed. subst (λ ns. HandedNodes m c.args.origin ns space) end (before.left m seen space handed))
    (c.in_ok-confirmed-in-None.ensures.form m (sight_on old mid before.held before.same ∙ seen) space)
