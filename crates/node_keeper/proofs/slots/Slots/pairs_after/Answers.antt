use Rattle.std.proofs.Common.{◌≡◌, ap, sym, ◌∙◌, ◌++◌, arith}
use Rattle.std.proofs.lemmas.Grind.{common_steps}
use Rattle.std.specs.FinMap.{entries}
use Rattle.slon_base.specs.Keeper.{after}
use Rattle.node_keeper.specs.Slots.{pairs, living, shown}
use Rattle.node_keeper.proofs.SlotPairs.{entries-pairs, living-between}
use Rattle.node_keeper.proofs.ReadAhead.{in_front}
use Rattle.node_keeper.proofs.slots.Slots.pairs_after.Goals as goal

pub loop-key-init : goal.loop-key-init
loop-key-init c =
    let found = ap living (c.into_iter-key-iterator.ensures.into_iter_gives ∙ c.range-key-items.ensures.between tt)
    ∙ living-between c.in_ok-start.start c.args.self.now.map.entries c.range-key-items.ensures.ordered in (
      tt,
      tt,
      ap (λ xs. xs ++ living c.into_iter-key-iterator.result) c.in_ok-found.ensures.items
          ∙ found ∙ ap (λ k. after k (living c.args.self.now.map.entries)) c.in_ok-start.ensures
          ∙ ap (after c.args.key.now) (sym (entries-pairs c.args.self.now.map c.range-key-items.ensures.ordered)),
    )

pub loop-key-preserved : goal.loop-key-preserved
loop-key-preserved c = (
  tt,
  tt,
  ap (λ es. c.loop-key.found.items ++ es)
      (sym (ap (λ s. shown c.in-Some.key.now s (living c.next.new.self)) c.in_default.is)
      ∙ sym (ap living c.in-Some.ensures.steps)) ∙ c.loop-key.invariant.2,
)

pub returns-then-len-most-clause-ahead : goal.returns-then-len-most-clause-ahead
returns-then-len-most-clause-ahead c =
    let found = c.push_back.new.self.items in
    let rest = living c.next.new.self in
    let all = after c.args.key.now (entries (pairs c.args.self.now.map)) in
    let whole : found ++ rest ≡ all = grind (arith, common_steps) in
    in_front found rest all whole
