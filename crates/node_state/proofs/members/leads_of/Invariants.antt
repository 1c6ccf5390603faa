use Rattle.std.proofs.Common.{drop}
use Rattle.node_state.proofs.Joining.{AreMarked}
use Rattle.node_state.proofs.members.leads_of.Given as goal

abbrev pub invariant-loop-set : goal.invariant-loop-set
invariant-loop-set l = AreMarked l.own l.leads (drop l.set-index l.sets) l.sets
