use Rattle.std.proofs.Common.{◌≡◌, Some, sym, ap, ◌∙◌, rules}
use Rattle.std.specs.FinMap.{get}
use Rattle.slon_base.specs.Keeper.{Store, sight}
use Rattle.node_keeper.specs.Told.{kept_of}
use Rattle.node_keeper.proofs.Kepts.{seen_in}
use Rattle.node_keeper.proofs.mem_keeper.MemKeeperKeeper.get.Goals as goal

pub returns-clause-gets : goal.returns-clause-gets
returns-clause-gets c =
    let gives : (m : Store) → sight (kept_of c.args.self.now) ≡ Some m →
    c.in_ok-found.found ≡ get (m c.args.space) c.args.key.now =
    λ m e. sym c.in_ok-found.ensures ∙ c.get.ensures ∙ ap (get _) c.in_ok-key.ensures
    ∙ ap (λ x. get x c.args.key.now) (seen_in c.args.self.now c.strikes.new.self.spaces.items
    c.args.space c.space.result.now c.space.ensures c.if-strikes.ensures.spaces m e) in
    search (rules, gives)
