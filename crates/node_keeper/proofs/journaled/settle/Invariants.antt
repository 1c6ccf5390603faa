use Rattle.std.proofs.Common.{◌≡◌}
use Rattle.node_keeper.specs.Slots.{pairs}
use Rattle.node_keeper.proofs.journaled.settle.Given as goal

abbrev pub invariant-loop-change : goal.invariant-loop-change
invariant-loop-change l = pairs l.slots.map ≡ pairs l.fn.slots.map
