-- What the stream of an origin says of the subscriptions to one set, in one era of that set.
use Rattle.std.specs.Prelude.{ℕ, ◌+◌, max, ◌==◌, nat_le, if◌then◌else◌, Bool, true, false, List, [], ◌∷◌, length}
use Rattle.std.specs.Prelude.{Option, Some, None}

-- The row of a receiver, as a prefix of the stream makes it.
pub record Subscription : Type 0 where
  pub provider : ℕ
  pub forward : Bool
  -- its ENABLE_SUBSCRIPTION has come
  pub ready : Bool
  -- the number of that event, and until it comes that of the SUBSCRIBE_SET that made the row
  pub made : ℕ
  -- the number of the event from which on the receiver forwards
  pub turned : ℕ
  -- the number of the last event on this row
  pub mark : ℕ
  -- the moment of the last SYNC before its last SUBSCRIBE_SET
  pub cut : ℕ

-- An event of the origin. A moment is the number of transactions that a snapshot sees as ended, counted from the
-- beginning of the era. In a stream the newest event stands first, and events are numbered from 1 on.
pub data Event : Type 0 where
  Sync : (moment : ℕ) → Event
  Subscribe : (receiver provider : ℕ) (forward : Bool) → Event
  Enable : (receiver : ℕ) → Event
  Unsubscribe : (receiver : ℕ) → Event
  DropSet : Event
  MoveSet : Event
  -- one that changes nothing of the set, or adds a table to it
  Unrelated : Event

-- the first k events of a stream
abbrev pub up_to : ℕ → List Event → List Event
up_to k [] = []
up_to k (e ∷ z) = if nat_le k (length z) then up_to k z else e ∷ z

-- the greatest moment of a SYNC
abbrev pub moment_with : Event → ℕ → ℕ
moment_with (Sync m) before = max m before
moment_with others before = before

abbrev pub last_moment : List Event → ℕ
last_moment [] = 0
last_moment (e ∷ z) = moment_with e (last_moment z)

-- the set has moved away
abbrev pub moved_with : Event → Bool → Bool
moved_with MoveSet before = true
moved_with others before = before

abbrev pub is_moved : List Event → Bool
is_moved [] = false
is_moved (e ∷ z) = moved_with e (is_moved z)

-- the set has gone, by a move or by a drop
abbrev pub over_with : Event → Bool → Bool
over_with DropSet before = true
over_with MoveSet before = true
over_with others before = before

abbrev pub is_over : List Event → Bool
is_over [] = false
is_over (e ∷ z) = over_with e (is_over z)

-- How an era begins: the rows with provider and forward.
pub record Start : Type 0 where
  pub rows : ℕ → Option (ℕ × Bool)

-- a row with which the era begins
abbrev pub first_row : ℕ × Bool → Subscription
first_row row =
    record { provider = row.0; forward = row.1; ready = true; made = 0; turned = 0; mark = 0; cut = 0 }

abbrev pub begun : Option (ℕ × Bool) → Option Subscription
begun None = None
begun (Some row) = Some (first_row row)

-- a row after SUBSCRIBE_SET number k, where the last SYNC before it is of moment c
abbrev pub subscribed : ℕ → ℕ → ℕ → Bool → Option Subscription → Subscription
subscribed k c p f None =
    record { provider = p; forward = f; ready = false; made = k; turned = k; mark = k; cut = c }
subscribed k c p f (Some u) =
    record u { provider = p; forward = f; turned = if u.forward then u.turned else k; mark = k; cut = c }

-- a row after ENABLE_SUBSCRIPTION number k
abbrev pub readied : ℕ → Subscription → Subscription
readied k u = record u { ready = true; made = k; turned = k; mark = k }

abbrev pub enabled : ℕ → Option Subscription → Option Subscription
enabled k None = None
enabled k (Some u) = Some (readied k u)

-- the row of receiver n after event number k, where the last SYNC before it is of moment c
abbrev pub changed : ℕ → ℕ → ℕ → Event → Option Subscription → Option Subscription
changed n k c (Subscribe r p f) old = if n == r then Some (subscribed k c p f old) else old
changed n k c (Enable r) old = if n == r then enabled k old else old
changed n k c (Unsubscribe r) old = if n == r then None else old
changed n k c DropSet old = None
changed n k c others old = old

-- the row of receiver n after these events, from the rows with which the era begins
abbrev pub row : Start → ℕ → List Event → Option Subscription
row start n [] = begun (start.rows n)
row start n (e ∷ z) = changed n (length z + 1) (last_moment z) e (row start n z)
