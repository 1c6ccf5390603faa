use Rattle.std.proofs.Common.{sym}
use Rattle.set_config.proofs.config.change_feeding.Goals as goal

pub returns-in-SubscribeSet-clause-turns : goal.returns-in-SubscribeSet-clause-turns
returns-in-SubscribeSet-clause-turns g c base config p =
    rw c.in-SubscribeSet.is (c.subscribe_set.ensures.turns base config p)

pub returns-in-EnableSubscription-clause-turns : goal.returns-in-EnableSubscription-clause-turns
returns-in-EnableSubscription-clause-turns g c base config p =
    rw c.in-EnableSubscription.is (c.enable_subscription.ensures.turns base config p)

pub returns-in-UnsubscribeSet-clause-turns : goal.returns-in-UnsubscribeSet-clause-turns
returns-in-UnsubscribeSet-clause-turns g c base config p =
    rw c.in-UnsubscribeSet.is (c.unsubscribe_set.ensures.turns base config p)

pub returns-in-MoveSet-clause-turns : goal.returns-in-MoveSet-clause-turns
returns-in-MoveSet-clause-turns g c base config p =
    let feeds = sym c.as_slice.ensures.value in
    rw c.in-MoveSet.is (rw feeds (c.move_set.ensures.turns base config p))

pub returns-in-FailoverSet-clause-turns : goal.returns-in-FailoverSet-clause-turns
returns-in-FailoverSet-clause-turns g c base config p =
    let sets = sym c.as_slice-in-FailoverSet.ensures.value in
    rw c.in-FailoverSet.is (rw sets (c.take_over.ensures.turns base config p))
