-- One table of a set, in one era of the set: what its origin emits, and what each node has made of it.
use Rattle.std.specs.Prelude.{◌≡◌, ℕ, ◌+◌, ◌<◌, ◌≤◌, max, ◌==◌, ◌||◌, ◌⊎◌, if◌then◌else◌, not, Bool, true, false}
use Rattle.std.specs.Prelude.{List, [], ◌∷◌, length, Option, Some, None}
use Rattle.std.specs.List.{AllByRecursion}
use Rattle.net_laws.specs.Updates.{set_at}
use Rattle.net_laws.specs.Subscriptions.{Subscription, Event, Sync, Subscribe, Enable, Unsubscribe, DropSet, MoveSet}
use Rattle.net_laws.specs.Subscriptions.{Unrelated, up_to, last_moment, is_over, Start, row}

-- ---- nodes

-- What a forwarder logs of one SYNC: the moments of its view before and after it.
pub record Stretch : Type 0 where
  pub from : ℕ
  pub to : ℕ

abbrev pub stretch : ℕ → ℕ → Stretch
stretch from to = record { from = from; to = to }

pub record Node : Type 0 where
  -- how many events of the origin it has applied or joined past
  pub progress : ℕ
  -- the moment of its kept snapshot, where it keeps one in this era
  pub view : Option ℕ
  -- the moment of its base: of the snapshot with which it began to log
  pub base : ℕ
  -- one stretch for each SYNC applied while it forwarded
  pub log : List Stretch
  -- it gave the set up by a fence of the origin of this era or a later one
  pub gave_up : Bool
  -- what was emptied out of its logs is below this moment
  pub cleaned : ℕ
  -- the nodes that it has as dropped or fenced
  pub barred : List ℕ

-- a transaction of this moment is one of the stretch
pub record IsIn (moment : ℕ) (s : Stretch) : Type 0 where
  pub from : s.from ≤ moment
  pub to : moment < s.to

-- the actions of such a transaction on the table were logged
abbrev pub Logs : List Stretch → ℕ → Type 0
Logs [] moment = ⊥
Logs (s ∷ rest) moment = IsIn moment s ⊎ Logs rest moment

-- all of a stretch was logged, in one or in many
abbrev pub LogsAll : List Stretch → Stretch → Type 0
LogsAll log s = (moment : ℕ) → IsIn moment s → Logs log moment

abbrev pub passed : Node → Node
passed o = record o { progress = o.progress + 1 }

-- by SYNC of moment m, with view v; f says that it forwards
abbrev pub synced : ℕ → ℕ → Bool → Node → Node
synced m v f o = record (passed o) { view = Some (max v m); log = if f then stretch v m ∷ o.log else o.log }

-- by SUBSCRIBE_SET for itself, with view v; f says that its base stays
abbrev pub turned_by : ℕ → Bool → Node → Node
turned_by v f o = record (passed o) { base = if f then o.base else v }

-- by ENABLE_SUBSCRIPTION for itself, with a copy of moment v
abbrev pub copied : ℕ → Node → Node
copied v o = record (passed o) { view = Some v; base = v }

-- by an event that takes its row away
abbrev pub left : Node → Node
left o = record (passed o) { view = None }

abbrev pub given_up : Node → Node
given_up o = record o { view = None; gave_up = true }

abbrev pub barring : ℕ → Node → Node
barring n o = record o { barred = n ∷ o.barred }

abbrev pub cleaned_below : ℕ → Node → Node
cleaned_below moment o = record o { cleaned = max o.cleaned moment }

abbrev pub member : ℕ → List ℕ → Bool
member x [] = false
member x (y ∷ ys) = x == y || member x ys

-- the node keeps a view
abbrev pub IsViewed : Node → Type 0
IsViewed node = (v : ℕ) × (node.view ≡ Some v)

-- ---- the whole

pub record Net : Type 0 where
  pub origin : ℕ
  pub start : Start
  -- how many transactions have ended at the origin
  pub now : ℕ
  -- the moments of all transactions that committed actions of the era are below this one
  pub full : ℕ
  -- the newest event first
  pub stream : List Event
  pub nodes : ℕ → Node

abbrev pub with_node : ℕ → Node → Net → Net
with_node n node w = record w { nodes = set_at n node w.nodes }

-- the row of n by all that the origin has emitted
abbrev pub owned : Net → ℕ → Option Subscription
owned w n = row w.start n w.stream

-- what n has applied, and the row of a receiver by that
abbrev pub heard : Net → ℕ → List Event
heard w n = up_to (w.nodes n).progress w.stream

abbrev pub configured : Net → ℕ → ℕ → Option Subscription
configured w n r = row w.start r (heard w n)

-- ---- what the origin emits

-- no receiver has n as provider
abbrev pub ProvidesNone : Net → ℕ → Type 0
ProvidesNone w n = (r : ℕ) (u : Subscription) → owned w r ≡ Some u → u.provider ≡ n → ⊥

-- n is ready at the origin to be a provider
pub record IsReady (w : Net) (n : ℕ) (u : Subscription) : Type 0 where
  pub row : owned w n ≡ Some u
  pub ready : u.ready ≡ true
  pub forward : u.forward ≡ true
  pub confirmed : u.mark ≤ (w.nodes n).progress

pub record MaySubscribe (w : Net) (r p : ℕ) (f : Bool) : Type 0 where
  pub here : is_over w.stream ≡ false
  pub synced : last_moment w.stream ≡ w.now
  pub apart : p ≡ r → ⊥
  pub provider : (p ≡ w.origin) ⊎ ((u : Subscription) × IsReady w p u)
  pub settled : (u : Subscription) → owned w r ≡ Some u → u.mark ≤ (w.nodes r).progress
  pub keeps : (u : Subscription) → owned w r ≡ Some u → (f ≡ true) ⊎ ProvidesNone w r

-- the row waits for its ENABLE_SUBSCRIPTION
pub record IsPending (w : Net) (r : ℕ) (u : Subscription) : Type 0 where
  pub row : owned w r ≡ Some u
  pub pending : u.ready ≡ false

-- what must hold where an event is emitted
abbrev pub MayEmit : Net → Event → Type 0
MayEmit w (Sync m) = m ≡ w.now
MayEmit w (Subscribe r p f) = MaySubscribe w r p f
MayEmit w (Enable r) = (is_over w.stream ≡ false) × ((u : Subscription) × IsPending w r u)
MayEmit w (Unsubscribe r) = (is_over w.stream ≡ false) × ProvidesNone w r
MayEmit w DropSet = is_over w.stream ≡ false
MayEmit w MoveSet = (is_over w.stream ≡ false) × (last_moment w.stream ≡ w.now)
MayEmit w Unrelated = Unit {0}

abbrev pub emitted : Event → Net → Net
emitted e w = record w { stream = e ∷ w.stream }

-- ---- what a node applies

-- event e is the next one for n
pub record IsNext (w : Net) (n : ℕ) (e : Event) : Type 0 where
  pub more : (w.nodes n).progress < length w.stream
  pub next : up_to ((w.nodes n).progress + 1) w.stream ≡ e ∷ heard w n

-- the event changes nothing at n, which has this view, but its progress
abbrev pub IsQuiet : ℕ → Option ℕ → Event → Type 0
IsQuiet n view (Sync m) = view ≡ None
IsQuiet n view (Subscribe r p f) = r ≡ n → view ≡ None
IsQuiet n view (Enable r) = r ≡ n → ⊥
IsQuiet n view (Unsubscribe r) = r ≡ n → ⊥
IsQuiet n view DropSet = ⊥
IsQuiet n view others = Unit {0}

-- the event takes the view of n away
abbrev pub Ends : ℕ → Event → Type 0
Ends n (Unsubscribe r) = r ≡ n
Ends n DropSet = Unit {0}
Ends n others = ⊥

-- the node gave the set up, and has no view: no event changes anything at it but its progress
pub record IsOut (node : Node) : Type 0 where
  pub gave_up : node.gave_up ≡ true
  pub none : node.view ≡ None

-- no row at the origin waits for the next event of n as its ENABLE_SUBSCRIPTION
abbrev pub IsStale : Net → ℕ → Type 0
IsStale w n =
    (u : Subscription) → owned w n ≡ Some u → u.ready ≡ true → u.made ≡ (w.nodes n).progress + 1 → ⊥

-- What n becomes as it applies event e.
pub data Turn (w : Net) (n : ℕ) (e : Event) (node : Node) : Type 0 where
  Passes : IsQuiet n (w.nodes n).view e ⊎ IsOut (w.nodes n) → node ≡ passed (w.nodes n) → Turn w n e node
  Syncs : (m v : ℕ) (u : Subscription) → e ≡ Sync m → (w.nodes n).view ≡ Some v → configured w n n ≡ Some u →
      node ≡ synced m v u.forward (w.nodes n) → Turn w n e node
  -- its base becomes its view where it forwards from now on and did not before
  Turns : (p v : ℕ) (f : Bool) (u : Subscription) → e ≡ Subscribe n p f → (w.nodes n).view ≡ Some v →
      configured w n n ≡ Some u → node ≡ turned_by v (u.forward || not f) (w.nodes n) → Turn w n e node
  Copies : (v : ℕ) (u : Subscription) → e ≡ Enable n → configured w n n ≡ Some u → last_moment (heard w n) ≤ v →
      v ≤ w.now → node ≡ copied v (w.nodes n) → Turn w n e node
  -- the set was given up here, or the subscription is gone at the origin
  Skips : e ≡ Enable n → ((w.nodes n).gave_up ≡ true) ⊎ IsStale w n → node ≡ passed (w.nodes n) → Turn w n e node
  Leaves : Ends n e → node ≡ left (w.nodes n) → Turn w n e node

-- n applies its next event
pub record NextTurn (w : Net) (n : ℕ) : Type 0 where
  pub event : Event
  pub node : Node
  pub comes : IsNext w n event
  pub turn : Turn w n event node

-- ---- steps

-- r has confirmed event number k, or no event up to it makes r a receiver
abbrev pub HasConfirmed : Net → ℕ → ℕ → Type 0
HasConfirmed w k r =
    (k ≤ (w.nodes r).progress) ⊎
    ((a : ℕ) (u : Subscription) → a ≤ k → row w.start r (up_to a w.stream) ≡ Some u → ⊥)

-- all that p has neither as dropped nor as fenced have confirmed event number k
abbrev pub AllConfirmed : Net → ℕ → ℕ → Type 0
AllConfirmed w p k =
    (r : ℕ) → (r ≡ w.origin → ⊥) → member r (w.nodes p).barred ≡ false → HasConfirmed w k r

pub data Step (w v : Net) : Type 0 where
  Commits : is_over w.stream ≡ false → v ≡ record w { now = w.now + 1; full = w.now + 1 } → Step w v
  -- a transaction ends that has no committed action of the era
  Ticks : v ≡ record w { now = w.now + 1 } → Step w v
  Emits : (e : Event) → MayEmit w e → v ≡ emitted e w → Step w v
  Applies : (n : ℕ) (next : NextTurn w n) → v ≡ with_node n next.node w → Step w v
  GivesUp : (n : ℕ) → v ≡ with_node n (given_up (w.nodes n)) w → Step w v
  -- n has r as dropped or as fenced from now on
  Bars : (n r : ℕ) → v ≡ with_node n (barring r (w.nodes n)) w → Step w v
  -- p empties out of its logs what all have confirmed
  Cleans : (p k : ℕ) → k ≤ length w.stream → AllConfirmed w p k →
      v ≡ with_node p (cleaned_below (last_moment (up_to k w.stream)) (w.nodes p)) w → Step w v

pub data Leads (w : Net) : Net → Type 0 where
  Here : Leads w w
  More : {u v : Net} → Leads w u → Step u v → Leads w v

-- How an era begins: who has a row has a view of its first moment.
pub record IsBegun (w : Net) : Type 0 where
  pub now : w.now ≡ 0
  pub full : w.full ≡ 0
  pub stream : AllByRecursion (λ e. e ≡ Unrelated) w.stream
  pub behind : (n : ℕ) → (w.nodes n).progress ≤ length w.stream
  pub none : (n : ℕ) → w.start.rows n ≡ None → (w.nodes n).view ≡ None
  pub some : (n : ℕ) (r : ℕ × Bool) → w.start.rows n ≡ Some r → (w.nodes n).view ≡ Some 0
  pub base : (n : ℕ) → (w.nodes n).base ≡ 0
  pub log : (n : ℕ) → (w.nodes n).log ≡ []
  pub cleaned : (n : ℕ) → (w.nodes n).cleaned ≡ 0
  pub forwards : (n : ℕ) (r : ℕ × Bool) → w.start.rows n ≡ Some r → (r.0 ≡ w.origin → ⊥) →
      (q : ℕ × Bool) × ((w.start.rows r.0 ≡ Some q) × (q.1 ≡ true))
