use Rattle.node_state.proofs.Nobody.{no_members, known_none}
use Rattle.node_state.proofs.memory.NodeMemory.none.Goals as goal

pub invariant_of-result-clause-numbered : goal.invariant_of-result-clause-numbered
invariant_of-result-clause-numbered c = no_members _ c.new.ensures

pub returns : goal.returns
returns c = known_none _ _ c.new.ensures c.new-2.ensures
