use Rattle.event_store.specs.Queueing.{waiting}
use Rattle.event_store.proofs.Queues.{no_lines, are_no_lines}
use Rattle.event_store.proofs.queue.Queue.new.Goals as goal

pub invariant_of-result : goal.invariant_of-result
invariant_of-result c = record { lined = are_no_lines c.new.result c.new.ensures.empty }

pub returns : goal.returns
unfolding waiting
returns c = no_lines c.new.result c.new.ensures.empty
