use Rattle.std.proofs.Common.{◌∙◌, ◌+◌, ◌∷◌, drop, Some, sym, ap, subst, arith}
use Rattle.std.specs.BTreeMap.{Updates}
use Rattle.std.specs.Ordering.{nat_cmp}
use Rattle.std.proofs.lemmas.List.{drop_more, drop_all}
use Rattle.slon_lemmas.proofs.Tests.{none_of}
use Rattle.node_state.proofs.Joining.{AreMarked, none_marked, all_marked, marked_past, marked_on, leading_some}
use Rattle.node_state.proofs.members.leads_of.Goals as goal

pub loop-set-init : goal.loop-set-init
loop-set-init c = none_marked c.args.own c.new-leads.result c.args.sets.now c.new-leads.ensures.empty

pub loop-set-preserved-then-contains_key : goal.loop-set-preserved-then-contains_key
loop-set-preserved-then-contains_key c =
    let sets = c.args.sets.now in
    let n = c.loop-set.set-index in
    let e = c.loop-set-item.result in
    let rest = drop_more sets n e (omega arith) ∙ ap (λ x. x ∷ drop (n + 1) sets) (sym c.loop-set-item.is) in
    marked_past c.args.own c.loop-set.leads e (drop (n + 1) sets) sets
    (sym c.contains_key.ensures ∙ c.if-contains_key.true)
    (subst (λ left. AreMarked c.args.own c.loop-set.leads left sets) rest c.loop-set.invariant)

pub loop-set-preserved : goal.loop-set-preserved
loop-set-preserved c =
    let sets = c.args.sets.now in
    let n = c.loop-set.set-index in
    let e = c.loop-set-item.result in
    let rest = drop_more sets n e (omega arith) ∙ ap (λ x. x ∷ drop (n + 1) sets) (sym c.loop-set-item.is) in
    let value = c.then_some.ensures ∙ leading_some c.args.own e.1 in
    marked_on c.args.own c.loop-set.leads c.insert.new.self e (drop (n + 1) sets) sets (
      none_of _ (sym c.contains_key.ensures ∙ c.if-contains_key.false),
      subst (λ v. Updates nat_cmp c.loop-set.leads c.insert.new.self e.0 (Some v)) value c.in_ok-insert.ensures.updates,
    )
    (subst (λ left. AreMarked c.args.own c.loop-set.leads left sets) rest c.loop-set.invariant)

pub returns : goal.returns
returns c =
    let sets = c.args.sets.now in
    all_marked c.args.own c.loop-set.leads sets
    (subst (λ left. AreMarked c.args.own c.loop-set.leads left sets) (drop_all c.loop-set.set-index sets (omega arith))
    c.loop-set.invariant)
