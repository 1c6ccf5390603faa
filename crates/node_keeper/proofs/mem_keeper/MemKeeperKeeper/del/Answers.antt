use Rattle.node_keeper.proofs.Touching.{tracked_more}
use Rattle.node_keeper.proofs.mem_keeper.MemKeeperKeeper.del.Goals as goal

pub invariant_of-self-2-clause-tracked : goal.invariant_of-self-2-clause-tracked
invariant_of-self-2-clause-tracked c =
    tracked_more c.strikes.new.self.touched.items c.touch.new.touched.items c.args.space
    c.strikes.new.self.spaces.items c.del.new.self c.in_ok-touch.ensures.ok c.strikes.new.self.tracked
