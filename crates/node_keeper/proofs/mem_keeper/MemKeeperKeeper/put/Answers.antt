use Rattle.node_keeper.proofs.Touching.{tracked_more}
use Rattle.node_keeper.proofs.mem_keeper.MemKeeperKeeper.put.Goals as goal

pub invariant_of-self-then-is_ok-clause-tracked : goal.invariant_of-self-then-is_ok-clause-tracked
invariant_of-self-then-is_ok-clause-tracked c =
    tracked_more c.strikes.new.self.touched.items c.touch.new.touched.items c.args.space
    c.strikes.new.self.spaces.items c.put-put.new.self c.in_ok-touch.ensures.ok c.strikes.new.self.tracked

pub invariant_of-self-else-is_ok-clause-tracked : goal.invariant_of-self-else-is_ok-clause-tracked
invariant_of-self-else-is_ok-clause-tracked c =
    tracked_more c.strikes.new.self.touched.items c.touch.new.touched.items c.args.space
    c.strikes.new.self.spaces.items c.put-put.new.self c.in_ok-touch.ensures.ok c.strikes.new.self.tracked
