use Rattle.std.proofs.Common.{◌≡◌, nat_lt, true, filter}
use Rattle.std.specs.VecDeque.{deque_len}
use Rattle.event_store.specs.Lines.{are_rising}
use Rattle.event_store.specs.declared.event.Event.{Event}
use Rattle.event_store.proofs.queue.drop_first.Given as goal

abbrev pub invariant-loop-event : goal.invariant-loop-event
invariant-loop-event l =
    (are_rising 0 l.line.items ≡ true) ×
    (filter (λ (e : Event). nat_lt l.number e.number) l.line.items
    ≡ filter (λ (e : Event). nat_lt l.number e.number) l.fn.line.items)

abbrev pub decreases-loop-event : goal.decreases-loop-event
decreases-loop-event l = deque_len l.line
