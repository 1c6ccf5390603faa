-- The events of an origin behind a number.
use Rattle.std.specs.Prelude.{◌≡◌, ℕ, ◌<◌, ◌==◌, ◌&&◌, nat_lt, List, map, filter, reverse}
use Rattle.std.specs.FinMap.{entries}
use Rattle.slon_base.specs.Codec.{number_bytes, AllAre}
use Rattle.slon_base.specs.Keeper.{Store, after}
use Rattle.store_rows.specs.Scan.{ranged, spelled_rows}
use Rattle.slon_model.specs.Events.{Event as Model}
use Rattle.slon_model.specs.Snapshots.{Rising}
use Rattle.set_config.specs.Holds.{pair_key}
use Rattle.event_store.specs.declared.event.Event.{Event}
use Rattle.event_store.specs.declared.event.EventRow.{EventRow}
use Rattle.event_store.specs.Regular.{AreFalling}
use Rattle.event_store.specs.Seen.{seen_event}
use Rattle.event_store.specs.Spellings.{IsStored, event_bytes}
use Rattle.event_store.specs.Streams.{event_at}

-- an event with its number
abbrev pub numbered : Event → ℕ × Model
numbered e = (e.number, seen_event e)

-- the number of an event, and its row
abbrev pub row_as : Event → ℕ × EventRow
row_as e = (e.number, record { taken = e.taken; body = e.body })

-- each event is of this origin
abbrev pub AreOf : ℕ → List Event → Type 0
AreOf origin events = AllAre (λ (e : Event). e.origin ≡ origin) events

-- the rows of these events of the origin are these
pub record AreMade (origin : ℕ) (rows : List (ℕ × EventRow)) (events : List Event) : Type 0 where
  pub origins : AreOf origin events
  pub rows_are : map row_as events ≡ rows

-- the pairs of a store that are those of the origin behind this number are these events
pub record AreBehind (origin number : ℕ) (m : Store) (events : List Event) : Type 0 where
  pub origins : AreOf origin events
  pub spelled : ranged (number_bytes origin) (after (pair_key (origin, number)) (entries (m 10)))
      ≡ spelled_rows (number_bytes origin) number_bytes event_bytes (map numbered events)

-- all of them are in their form
abbrev pub HasBehind : ℕ → ℕ → Store → Type 0
HasBehind origin number m = (events : List Event) × AreBehind origin number m events

-- the events of the origin behind this number among these
abbrev pub events_behind : ℕ → ℕ → List Model → List Model
events_behind origin number held = filter (λ e. e.origin == origin && nat_lt number e.number) held

-- These are all events of the origin behind this number that a node holds, ascending by number.
pub record AreAfter (origin number : ℕ) (held : List Model) (events : List Event) : Type 0 where
  pub rising : Rising (map (λ e. e.number) events)
  pub within : AllAre (λ e. (number < e.number) × IsStored e.number) events
  pub origins : AreOf origin events
  pub events_are : (n : ℕ) → number < n → IsStored n →
      event_at (map seen_event events) (origin, n) ≡ event_at held (origin, n)

-- Where the events that a node holds fall in number, as they do at every node, these are the same the other way round.
abbrev pub AfterIsAll : Type 0
AfterIsAll = (origin number : ℕ) (held : List Model) (events : List Event) → AreFalling held →
    AreAfter origin number held events → map seen_event events ≡ reverse (events_behind origin number held)
