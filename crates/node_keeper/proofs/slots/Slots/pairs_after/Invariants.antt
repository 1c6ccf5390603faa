use Rattle.std.proofs.Common.{◌≡◌, ◌++◌}
use Rattle.slon_base.specs.Keeper.{after}
use Rattle.std.specs.FinMap.{entries}
use Rattle.node_keeper.specs.Slots.{pairs, living}
use Rattle.node_keeper.proofs.slots.Slots.pairs_after.Given as goal

abbrev pub invariant-loop-key : goal.invariant-loop-key
invariant-loop-key l =
    (goal.iterator-loop-key).can_next l.key-iterator ×
    (goal.iterator-loop-key).is_finite l.key-iterator ×
    (l.found.items ++ living l.key-iterator ≡ after l.fn.key (entries (pairs l.self.map)))
