-- What a node wants of a server, and what that hands over.
use Rattle.std.specs.Prelude.{◌≡◌, ℕ, max, true, false, List, map, flat_map, Option, Some, None}
use Rattle.slon_model.specs.Events.{Event}
use Rattle.slon_model.specs.Config.{heard_in, is_known}
use Rattle.slon_model.specs.Deeds.{Node, knowledge, progress, held}
use Rattle.slon_model.specs.Polls.{events_behind}
use Rattle.event_store.specs.declared.queue.Queue.{Queue}
use Rattle.event_store.specs.Queueing.{newest, waiting}
use Rattle.event_store.specs.Seen.{seen_event}
use Rattle.event_store.specs.Streams.{streams_of}
use Rattle.event_store.specs.Telling.{confirmations_of}
use Rattle.remote_listener.specs.declared.reading.Handed.{Handed}

-- how far a node and what waits there are in the stream of an origin
abbrev pub want_of : Node → Queue → ℕ → ℕ × ℕ
want_of n queue origin = (origin, max (progress origin (knowledge n)) (newest (waiting origin queue)))

-- the same of each origin that it hears at a server
abbrev pub wants_of : ℕ → Queue → Node → List (ℕ × ℕ)
wants_of server queue n = map (want_of n queue) (heard_in n.id server (knowledge n).config)

-- the events that a node holds behind these numbers, in the order of the origins
abbrev pub behind : Node → ℕ × ℕ → List Event
behind n want = events_behind want.0 want.1 (held n)

abbrev pub all_behind : Node → List (ℕ × ℕ) → List Event
all_behind n wants = flat_map (behind n) wants

-- A server knows the node of this id, and hands over these events and all that it knows of how far nodes are; or it
-- does not know it.
abbrev pub Hands : ℕ → List (ℕ × ℕ) → Node → Option Handed → Type 0
Hands poller wants n None = is_known poller (knowledge n).config ≡ false
Hands poller wants n (Some h) =
    (is_known poller (knowledge n).config ≡ true) × (map seen_event h.events ≡ all_behind n wants)
    × (h.rows ≡ confirmations_of (streams_of n))
