-- What holds of every state of one table in one era that is reached by steps.
use Rattle.std.specs.Prelude.{◌≡◌, ℕ, ◌<◌, ◌≤◌, ◌⊎◌, true, false, List, ◌∷◌, length, Some, None}
use Rattle.net_laws.specs.Subscriptions.{Subscription, Event, Sync, Enable, MoveSet, up_to, last_moment, is_moved}
use Rattle.net_laws.specs.Subscriptions.{Start, row}
use Rattle.net_laws.specs.Net.{Node, Logs, LogsAll, stretch, member, IsViewed, Net, owned, heard}

-- of node n, which has applied these events
pub record Holds (start : Start) (now : ℕ) (events : List Event) (n : ℕ) (node : Node) : Type 0 where
  -- its view sees what each of the SYNCs sees, and nothing that has not ended
  pub covers : (v : ℕ) → node.view ≡ Some v → last_moment events ≤ v
  pub within : (v : ℕ) → node.view ≡ Some v → v ≤ now
  -- it is at or above the base, and is the base or that of a SYNC
  pub based : (v : ℕ) → node.view ≡ Some v → node.base ≤ v
  pub came : (v : ℕ) → node.view ≡ Some v → (v ≡ node.base) ⊎ (v ≤ last_moment events)
  -- it belongs to a row that is ready, and is at or above the cut of that
  pub rowed : (v : ℕ) → node.view ≡ Some v → (u : Subscription) × ((row start n events ≡ Some u) × (u.ready ≡ true))
  pub cut : (v : ℕ) (u : Subscription) → node.view ≡ Some v → row start n events ≡ Some u → u.cut ≤ v
  -- a forwarder has logged all from its base to its view, and no node what is above the last SYNC
  pub logged : (v : ℕ) (u : Subscription) → node.view ≡ Some v → row start n events ≡ Some u → u.forward ≡ true →
      LogsAll node.log (stretch node.base v)
  pub fresh : (moment : ℕ) → Logs node.log moment → moment < last_moment events

-- row t forwards, and the node has applied the event from which on it does
pub record IsForwarder (t : Subscription) (node : Node) : Type 0 where
  pub forward : t.forward ≡ true
  pub ready : t.ready ≡ true
  pub turned : t.turned ≤ node.progress

-- the node keeps a view, with a base that is at or below the moment
pub record IsBased (node : Node) (cut : ℕ) : Type 0 where
  pub view : ℕ
  pub is : node.view ≡ Some view
  pub base : node.base ≤ cut

-- of the provider of a row with this cut, by these events of the origin
pub record Provides (start : Start) (events : List Event) (provider cut : ℕ) (node : Node) : Type 0 where
  pub forwards : (t : Subscription) × ((row start provider events ≡ Some t) × IsForwarder t node)
  -- until it has passed them
  pub serves : node.gave_up ≡ false → node.progress ≤ length events → IsBased node cut
  -- once it has applied them
  pub served : node.gave_up ≡ false → length events ≤ node.progress → (m : ℕ) (before : List Event) →
      events ≡ Sync m ∷ before → LogsAll node.log (stretch cut m)

abbrev pub AllProvided : Start → ℕ → (ℕ → Node) → List Event → Type 0
AllProvided start origin nodes events =
    (r : ℕ) (u : Subscription) → row start r events ≡ Some u → (u.provider ≡ origin → ⊥) →
    Provides start events u.provider u.cut (nodes u.provider)

-- an ENABLE_SUBSCRIPTION comes where the row waits for it
abbrev pub IsExpected : Start → List Event → Type 0
IsExpected start events =
    (r : ℕ) (before : List Event) → events ≡ Enable r ∷ before →
    (u : Subscription) × ((row start r before ≡ Some u) × (u.ready ≡ false))

-- once the set has moved there are no more transactions of the era
abbrev pub IsLast : ℕ → List Event → Type 0
IsLast full events = (before : List Event) → events ≡ MoveSet ∷ before → full ≤ last_moment before

-- and its rows stay
abbrev pub IsFrozen : Start → List Event → Type 0
IsFrozen start events =
    (n a : ℕ) (before : List Event) → up_to a events ≡ MoveSet ∷ before →
    row start n events ≡ row start n (up_to a events)

-- Node r needs nothing below the moment: it has heard a SYNC of it, or has no view and will not get an older one.
abbrev pub IsSpared : Start → List Event → ℕ → ℕ → Node → Type 0
IsSpared start stream moment r node =
    (moment ≤ last_moment (up_to node.progress stream)) ⊎
    ((node.view ≡ None) ×
    ((a : ℕ) (u : Subscription) → node.progress < a → a ≤ length stream → row start r (up_to a stream) ≡ Some u →
    moment ≤ last_moment (up_to a stream)))

pub record Sound (w : Net) : Type 0 where
  -- no SYNC is ahead of now, and after the move the last one sees all transactions of the era
  pub bound : last_moment w.stream ≤ w.now
  pub filled : w.full ≤ w.now
  pub closed : is_moved w.stream ≡ true → w.full ≤ last_moment w.stream
  pub behind : (n : ℕ) → (w.nodes n).progress ≤ length w.stream
  pub holds : (n : ℕ) → Holds w.start w.now (heard w n) n (w.nodes n)
  -- who has passed the event that enabled its row at the origin keeps a view
  pub active : (n : ℕ) (u : Subscription) → (w.nodes n).gave_up ≡ false → owned w n ≡ Some u → u.ready ≡ true →
      u.made ≤ (w.nodes n).progress → IsViewed (w.nodes n)
  -- who has a row that was changed since it was enabled has passed the event that enabled it
  pub marked : (n : ℕ) (u : Subscription) → owned w n ≡ Some u → u.made < u.mark → u.made ≤ (w.nodes n).progress
  -- of each prefix of the stream
  pub provided : (a : ℕ) → a ≤ length w.stream → AllProvided w.start w.origin w.nodes (up_to a w.stream)
  pub moved : (a : ℕ) → a ≤ length w.stream → IsLast w.full (up_to a w.stream)
  pub frozen : (a : ℕ) → a ≤ length w.stream → IsFrozen w.start (up_to a w.stream)
  pub expected : (a : ℕ) → a ≤ length w.stream → IsExpected w.start (up_to a w.stream)
  -- what logs have lost is below the last SYNC, and each node is spared that has its part in them
  pub swept : (p : ℕ) → (w.nodes p).cleaned ≤ last_moment w.stream
  pub spared : (p r : ℕ) → (r ≡ w.origin → ⊥) → member r (w.nodes p).barred ≡ false →
      IsSpared w.start w.stream (w.nodes p).cleaned r (w.nodes r)
