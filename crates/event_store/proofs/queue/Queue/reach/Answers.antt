use Rattle.std.proofs.Common.{◌≡◌, ◌∙◌, arith, ap, Some, None, max}
use Rattle.event_store.specs.Lines.{newest, line_at}
use Rattle.event_store.specs.Queueing.{waiting}
use Rattle.event_store.proofs.Queues.{stands}
use Rattle.event_store.proofs.queue.Queue.reach.Goals as goal

pub returns-in-Some : goal.returns-in-Some
unfolding waiting
returns-in-Some c = c.max.ensures ∙ ap (max c.args.base) (c.newest_of.ensures
    ∙ ap newest (stands c.args.origin c.args.self.now.lines (Some c.in-Some.line.now) c.in-Some.ensures.value))

pub returns-in-None : goal.returns-in-None
unfolding waiting
returns-in-None c =
    let none : 0 ≡ newest (line_at c.args.origin c.args.self.now.lines) = ap newest (stands c.args.origin
    c.args.self.now.lines None c.in-None.ensures.value) in
    omega (arith, none)
