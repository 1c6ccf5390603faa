use Rattle.std.proofs.Common.{sym, rules}
use Rattle.node_keeper.proofs.Kepts.{in_doubt}
use Rattle.node_keeper.proofs.mem_keeper.MemKeeperKeeper.commit.Goals as goal

pub returns-then-strikes-clause-commits : goal.returns-then-strikes-clause-commits
returns-then-strikes-clause-commits c =
    let in_doubt = in_doubt c.commits-commits.result _ c.args.self.now.phase c.args.self.now.spaces.items
    c.commits-commits.ensures in
    let here = rw (sym c.end.ensures.spaces) at in_doubt in
    search (rules, here)
