use Rattle.std.proofs.Common.{◌∙◌, ◌==◌, ap, Some, None}
use Rattle.std.specs.List.{find}
use Rattle.event_store.specs.Queueing.{waiting}
use Rattle.event_store.specs.declared.event.Event.{Event}
use Rattle.event_store.proofs.Queues.{rising_at, stands}
use Rattle.event_store.proofs.queue.Queue.get.Goals as goal

pub find_in-requires : goal.find_in-requires
find_in-requires c =
    rising_at c.args.origin c.args.self.now.lines (Some c.in-Some.line.now) c.args.self.now.lined
    c.in-Some.ensures.value

pub returns-in-Some : goal.returns-in-Some
unfolding waiting
returns-in-Some c = c.find_in.ensures ∙ ap (find (λ (e : Event). e.number == c.args.number))
    (stands c.args.origin c.args.self.now.lines (Some c.in-Some.line.now) c.in-Some.ensures.value)

pub returns-in-None : goal.returns-in-None
unfolding waiting
returns-in-None c = ap (find (λ (e : Event). e.number == c.args.number))
    (stands c.args.origin c.args.self.now.lines None c.in-None.ensures.value)
