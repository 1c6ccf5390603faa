-- When the events that wait at a node are those of the rules.
use Rattle.std.specs.Prelude.{◌≡◌, ℕ, List, map}
use Rattle.slon_model.specs.Maps.{Map}
use Rattle.slon_model.specs.Events.{Event}
use Rattle.slon_model.specs.Polls.{line_of}
use Rattle.event_store.specs.declared.queue.Queue.{Queue}
use Rattle.event_store.specs.Queueing.{waiting}
use Rattle.event_store.specs.Seen.{seen_event}

-- the same events wait, origin by origin
abbrev pub FitsQueue : Map (List Event) → Queue → Type 0
FitsQueue lines queue = (origin : ℕ) → map seen_event (waiting origin queue) ≡ line_of origin lines
