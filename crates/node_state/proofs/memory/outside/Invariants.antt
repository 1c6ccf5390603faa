use Rattle.slon_base.specs.ByteMap.{pairs}
use Rattle.node_state.proofs.Dropping.{AreLeft}
use Rattle.node_state.proofs.memory.outside.Given as goal

abbrev pub invariant-loop-name : goal.invariant-loop-name
invariant-loop-name l = record { goes : AreLeft l.set l.fn.live (pairs l.name-iterator) l.left }
