-- The events that were delivered to a node and wait to be applied there.
use Rattle.std.specs.Prelude.{ℕ, List}
pub use Rattle.event_store.specs.Lines.{newest, is_above, with_event}
use Rattle.event_store.specs.Lines.{line_at}
use Rattle.event_store.specs.declared.event.Event.{Event}
use Rattle.event_store.specs.declared.queue.Queue.{Queue}

-- the events of an origin that wait, ascending by number
unfoldable pub waiting : ℕ → Queue → List Event
waiting origin queue = line_at origin queue.lines
