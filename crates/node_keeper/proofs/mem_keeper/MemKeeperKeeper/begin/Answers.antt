use Rattle.std.proofs.Common.{Some, ap, ◌∙◌, rules}
use Rattle.node_keeper.specs.MemKept.{pending_store}
use Rattle.node_keeper.proofs.Kepts.{settled_store, idle}
use Rattle.node_keeper.proofs.mem_keeper.MemKeeperKeeper.begin.Goals as goal

pub returns-clause-begins : goal.returns-clause-begins
returns-clause-begins c =
    let settled = settled_store c.args.self.now.spaces.items (λ _. c.args.self.now.settled (idle _ _ c.requires)) in
    let ok = ap (λ s. Some (Some s)) (ap pending_store c.if-strikes.ensures.spaces ∙ settled) in
    search (rules, ok)
