-- What a node knows of the transactions of other nodes, by what it read of the logs.
use Rattle.std.specs.Prelude.{◌≡◌, ◌⊎◌, ◌==◌, ◌&&◌, ◌||◌, ◌+◌, ◌-◌, ◌^◌, if◌then◌else◌, not, nat_le, nat_lt, ℕ, true}
use Rattle.std.specs.Prelude.{Bool}
use Rattle.std.specs.Prelude.{List, [], ◌∷◌, ◌++◌, filter, fold, Option, Some, None, Ok}
use Rattle.std.specs.List.{AllByRecursion}
use Rattle.slon_model.specs.Deeds.{Logged}
use Rattle.slon_model.specs.Events.{Event}
use Rattle.slon_model.specs.Logs.{logged}
use Rattle.slon_model.specs.Names.{find_named}
use Rattle.slon_model.specs.Place.{Place}
use Rattle.slon_model.specs.Sessions.{World, Seat}
use Rattle.slon_model.specs.Snapshots.{sees}
use Rattle.slon_model.specs.Working.{next_at, provided}
use Rattle.slon_laws.specs.Lists.{IsAmong}
use Rattle.slon_laws.specs.Spelled.{logs_in}
use Rattle.node_store.specs.Logged.{HaveEnded}
use Rattle.slon_turns.specs.declared.bounds.Bound.{Bound}

-- ---- in the code

-- the greatest number that is known of the origin with an id up to this, or 0
abbrev pub raised : ℕ → ℕ → ℕ → Bound → ℕ
raised origin xmin start b =
    if b.origin == origin && nat_le b.xid xmin && nat_lt start b.number then b.number else start

abbrev pub start_of : ℕ → ℕ → List Bound → ℕ
start_of origin xmin bounds = fold (λ start b. raised origin xmin start b) 0 bounds

-- the least number that is known of the origin and is above the start
abbrev pub nearer : ℕ → ℕ → ℕ → Bound → ℕ
nearer origin start next b =
    if b.origin == origin && nat_lt start b.number && nat_lt b.number next then b.number else next

abbrev pub next_of : ℕ → ℕ → List Bound → ℕ
next_of origin start bounds = fold (λ next b. nearer origin start next b) (2 ^ 64 - 1) bounds

-- this is known by the event, whose snapshot sees the action with that number
abbrev pub IsKnownBy : Event → Option ℕ → Bound → Type 0
IsKnownBy e last b =
    (n : ℕ) × (last ≡ Some n) × (b ≡ record { origin = e.origin; xid = e.taken.xmax; number = n + 1 })

-- those of another origin, and those with one of these two numbers
abbrev pub is_kept : ℕ → ℕ → ℕ → Bound → Bool
is_kept origin start next b = not (b.origin == origin) || b.number == start || b.number == next

abbrev pub with_bound : ℕ → Bound → List Bound → List Bound
with_bound xmin known bounds =
    if nat_le known.number (start_of known.origin known.xid bounds) then bounds else
    (let start = start_of known.origin xmin bounds in
    filter (λ b. is_kept known.origin start (next_of known.origin start bounds) b) bounds ++ known ∷ [])

abbrev pub learned : ℕ → Option Bound → List Bound → List Bound
learned xmin None bounds = bounds
learned xmin (Some known) bounds = with_bound xmin known bounds

-- ---- in a session

-- what any node has logged of the origin below the number is of transactions below the id
abbrev pub IsBound : World → Bound → Type 0
IsBound w b =
    (name : List ℕ) (p : Place) → find_named name w.places ≡ Some p →
    HaveEnded b.origin b.number b.xid (logs_in p.node)

abbrev pub AreBounds : World → List Bound → Type 0
AreBounds w bounds = AllByRecursion (IsBound w) bounds

-- A node that takes an event of its next one found this action of the origin in the log of a provider, whose
-- transaction the snapshot of the event sees.
pub record IsTakenFrom (w : World) (seat : Seat) (e : Event) (number : ℕ) : Type 0 where
  pub provider : ℕ
  pub from : Seat
  pub is : provided provider w seat e ≡ Ok from
  pub entry : Logged
  pub among : IsAmong entry (logged from.node)
  pub own : entry.origin ≡ e.origin
  pub seen : sees e.taken entry.action.xid ≡ true
  pub number_is : number ≡ entry.action.number

-- This is known by an event of the origin that came next for a node, and by an action that it found so.
pub record IsLearned (w : World) (origin : ℕ) (b : Bound) : Type 0 where
  pub seat : Seat
  pub event : Event
  pub next : next_at w.memory seat origin ≡ Some event
  pub number : ℕ
  pub taken : IsTakenFrom w seat event number
  pub is : b ≡ record { origin = event.origin; xid = event.taken.xmax; number = number + 1 }

-- each of them was known before, or is learned
abbrev pub AreLearned : World → ℕ → List Bound → List Bound → Type 0
AreLearned w origin old new = AllByRecursion (λ b. IsAmong b old ⊎ IsLearned w origin b) new
