use Rattle.std.proofs.Common.{◌≡◌, List, map}
use Rattle.std.specs.Vec.Iter.{into_iter_items}
use Rattle.slon_model.specs.Maps.{Map}
use Rattle.slon_model.specs.Events.{Event}
use Rattle.slon_model.specs.Polls.{all_queued}
use Rattle.event_store.specs.Seen.{seen_event}
use Rattle.remote_listener.specs.Queues.{FitsQueue}
use Rattle.remote_listener.proofs.listener.put_all.Given as goal

-- from whatever waited by the rules, what waits by now is what the events so far made of it
abbrev pub invariant-loop-event : goal.invariant-loop-event
invariant-loop-event l =
    (lines : Map (List Event)) → FitsQueue lines l.fn.queue →
    (now : Map (List Event)) × FitsQueue now l.queue ×
    (all_queued (map seen_event (into_iter_items l.event-iterator)) now ≡ all_queued (map seen_event l.fn.events) lines)
