-- The events that wait at a node, each origin's in a line.
use Rattle.std.specs.Prelude.{◌≡◌, ℕ, ◌==◌, if◌then◌else◌, nat_lt, Bool, true, ◌&&◌, List, [], ◌∷◌, ◌++◌, Option, Some}
use Rattle.std.specs.Prelude.{None}
use Rattle.std.specs.List.{list_all}
use Rattle.std.specs.declared.alloc.Global.{Global}
use Rattle.std.specs.Ordering.{is_eq, nat_cmp}
use Rattle.std.specs.Map.{lookup}
use Rattle.std.specs.BTreeMap.{BTreeMap}
use Rattle.std.specs.declared.collections.VecDeque.{VecDeque}
use Rattle.event_store.specs.declared.event.Event.{Event}

-- the number of the last event, or 0
abbrev pub newest : List Event → ℕ
newest [] = 0
newest (e ∷ []) = e.number
newest (e ∷ f ∷ events) = newest (f ∷ events)

-- whether this number is above those of all events that wait
abbrev pub is_above : ℕ → List Event → Bool
is_above number events = nat_lt (newest events) number

-- the events after this one was put
abbrev pub with_event : Event → List Event → List Event
with_event event events = if is_above event.number events then events ++ event ∷ [] else events

-- ---- lines in a map

abbrev pub LineMap : Type 0
LineMap = BTreeMap ℕ (VecDeque Event Global)

abbrev pub events_in : Option (VecDeque Event Global) → List Event
events_in None = []
events_in (Some line) = line.items

-- the line of an origin
unfoldable pub line_at : ℕ → LineMap → List Event
line_at origin lines = events_in (lookup (λ o. is_eq (nat_cmp origin o)) lines.entries)

-- the first number is greater than this one, and each other is greater than the one before it
abbrev pub are_rising : ℕ → List Event → Bool
are_rising number [] = true
are_rising number (e ∷ events) = nat_lt number e.number && are_rising e.number events

-- each event is of this origin
abbrev pub are_of : ℕ → List Event → Bool
are_of origin events = list_all (λ (e : Event). e.origin == origin) events

-- the form of a line
abbrev pub is_line : ℕ → List Event → Bool
is_line origin events = are_rising 0 events && are_of origin events

-- every line has its form
abbrev pub AreLines : LineMap → Type 0
AreLines lines = (origin : ℕ) → is_line origin (line_at origin lines) ≡ true
