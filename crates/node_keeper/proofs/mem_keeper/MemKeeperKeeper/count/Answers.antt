use Rattle.std.proofs.Common.{◌≡◌, Some, ap, ◌∙◌, rules}
use Rattle.std.specs.FinMap.{len}
use Rattle.slon_base.specs.Keeper.{Store, sight}
use Rattle.node_keeper.specs.Told.{kept_of}
use Rattle.node_keeper.proofs.Kepts.{seen_in}
use Rattle.node_keeper.proofs.mem_keeper.MemKeeperKeeper.count.Goals as goal

pub returns-clause-counts : goal.returns-clause-counts
returns-clause-counts c =
    let gives : (m : Store) → sight (kept_of c.args.self.now) ≡ Some m → c.count.result ≡ len (m c.args.space) =
    λ m e. c.count.ensures ∙ ap len (seen_in c.args.self.now c.strikes.new.self.spaces.items c.args.space
    c.space.result.now c.space.ensures c.if-strikes.ensures.spaces m e) in
    search (rules, gives)
