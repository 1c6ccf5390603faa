use Rattle.event_store.specs.Queueing.{waiting}
use Rattle.event_store.proofs.Queues.{no_lines, are_no_lines}
use Rattle.event_store.proofs.queue.Queue.clear.Goals as goal

pub invariant_of-self : goal.invariant_of-self
invariant_of-self c = record { lined = are_no_lines c.clear.new.self c.clear.ensures.empty }

pub returns : goal.returns
unfolding waiting
returns c = no_lines c.clear.new.self c.clear.ensures.empty
