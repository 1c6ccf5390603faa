use Rattle.std.proofs.Common.{◌∙◌, ap, Some, None, length}
use Rattle.event_store.specs.Queueing.{waiting}
use Rattle.event_store.proofs.Queues.{stands}
use Rattle.event_store.proofs.queue.Queue.len.Goals as goal

pub returns-in-Some : goal.returns-in-Some
unfolding waiting
returns-in-Some c = c.len.ensures ∙ c.in-Some.line.now.ok.0
    ∙ ap length (stands c.args.origin c.args.self.now.lines (Some c.in-Some.line.now) c.in-Some.ensures.value)

pub returns-in-None : goal.returns-in-None
unfolding waiting
returns-in-None c = ap length (stands c.args.origin c.args.self.now.lines None c.in-None.ensures.value)
