-- The laws of every state of one table in one era that its beginning leads to.
use Rattle.std.specs.Prelude.{◌≡◌, ℕ, ◌+◌, ◌<◌, ◌≤◌, ◌⊎◌, ◌==◌, if◌then◌else◌, max, Bool, true, false, List, ◌∷◌}
use Rattle.std.specs.Prelude.{length, Option, Some, None}
use Rattle.net_laws.specs.Subscriptions.{Subscription, Event, Sync, Enable, MoveSet, up_to, last_moment, is_moved, row}
use Rattle.net_laws.specs.Net.{Node, Stretch, stretch, Logs, LogsAll, IsIn, member, IsViewed, Net, owned, heard}
use Rattle.net_laws.specs.Net.{configured, IsNext, NextTurn, Step, Leads, IsBegun}

abbrev pub Always : (Net → Type 0) → Type 0
Always P = (b w : Net) → IsBegun b → Leads b w → P w

-- ---- views

-- A view covers every SYNC up to its node's progress, and sees nothing that has not ended.
abbrev pub ViewCovers : Net → Type 0
ViewCovers w = (n v : ℕ) → (w.nodes n).view ≡ Some v → (last_moment (heard w n) ≤ v) × (v ≤ w.now)

-- What n is to copy from a forwarder that has come as far covers every SYNC before, so that n may take over its view.
abbrev pub CopyCovers : Net → Type 0
CopyCovers w =
    (n p v : ℕ) → (w.nodes n).progress ≤ (w.nodes p).progress → (w.nodes p).view ≡ Some v →
    (last_moment (heard w n) ≤ v) × (v ≤ w.now)

-- Who keeps a view has a row, and it is ready.
abbrev pub ViewHasRow : Net → Type 0
ViewHasRow w =
    (n v : ℕ) → (w.nodes n).view ≡ Some v → (u : Subscription) × ((configured w n n ≡ Some u) × (u.ready ≡ true))

-- While a node keeps a view, it never goes back.
abbrev pub ViewsRise : Net → Type 0
ViewsRise w =
    (x : Net) → Step w x → (n v t : ℕ) → (w.nodes n).view ≡ Some v → (x.nodes n).view ≡ Some t → v ≤ t

-- ---- logs

-- p has come as far as event number q
abbrev pub HasReached : Net → ℕ → ℕ → Type 0
HasReached w p q = (p ≡ w.origin) ⊎ (q ≤ (w.nodes p).progress)

-- The log of p has, and still holds, the actions of the transaction of a moment on the table. The origin logs each.
abbrev pub InLog : Net → ℕ → ℕ → Type 0
InLog w p moment = ((p ≡ w.origin) ⊎ Logs (w.nodes p).log moment) × ((w.nodes p).cleaned ≤ moment)

abbrev pub AllInLog : Net → ℕ → Stretch → Type 0
AllInLog w p s = (moment : ℕ) → IsIn moment s → InLog w p moment

-- n, which keeps a view, may read the logs of p: p has not given the set up, and has n neither as dropped nor as fenced
pub record MayRead (w : Net) (n p : ℕ) : Type 0 where
  pub other : n ≡ w.origin → ⊥
  pub keeps : (w.nodes p).gave_up ≡ false
  pub known : member n (w.nodes p).barred ≡ false

-- n, which keeps a view, is to apply a SYNC of this moment from its provider, which has come as far
pub record IsSyncing (w : Net) (n moment : ℕ) : Type 0 where
  pub next : IsNext w n (Sync moment)
  pub view : ℕ
  pub keeps : (w.nodes n).view ≡ Some view
  pub row : Subscription
  pub has : configured w n n ≡ Some row
  pub reached : HasReached w row.provider ((w.nodes n).progress + 1)
  pub may : MayRead w n row.provider

-- Where n applies a SYNC, the log of its provider holds all that the SYNC sees and the view of n does not.
abbrev pub LogsHold : Net → Type 0
LogsHold w = (n moment : ℕ) (i : IsSyncing w n moment) → AllInLog w i.row.provider (stretch i.view moment)

-- p is a forwarder with a view, and may serve n, whose view is at or above the base of p
pub record CanBack (w : Net) (n p : ℕ) : Type 0 where
  pub row : Subscription
  pub has : configured w p p ≡ Some row
  pub forward : row.forward ≡ true
  pub top : ℕ
  pub seen : (w.nodes p).view ≡ Some top
  pub view : ℕ
  pub keeps : (w.nodes n).view ≡ Some view
  pub base : (w.nodes p).base ≤ view
  pub other : n ≡ w.origin → ⊥
  pub known : member n (w.nodes p).barred ≡ false
  -- the number of an event that p has applied
  pub number : ℕ
  pub reached : number ≤ (w.nodes p).progress

-- A forwarder's log holds, for any view at or above its base, all that the SYNCs that it has applied see.
abbrev pub BackupServes : Net → Type 0
BackupServes w =
    (n p : ℕ) (c : CanBack w n p) → AllInLog w p (stretch c.view (last_moment (up_to c.number w.stream)))

-- A forwarder has logged all between its base and its view.
abbrev pub ForwarderLogs : Net → Type 0
ForwarderLogs w =
    (n v : ℕ) (u : Subscription) → (w.nodes n).view ≡ Some v → configured w n n ≡ Some u → u.forward ≡ true →
    LogsAll (w.nodes n).log (stretch (w.nodes n).base v)

-- What a SYNC brings was not logged before.
abbrev pub LoggedOnce : Net → Type 0
LoggedOnce w = (n v moment : ℕ) → (w.nodes n).view ≡ Some v → Logs (w.nodes n).log moment → moment < v

-- Logs hold what has ended.
abbrev pub LogsAreCommitted : Net → Type 0
LogsAreCommitted w = (n moment : ℕ) → Logs (w.nodes n).log moment → moment < w.now

-- What was cleaned out of the logs of p is seen by the view of each node that p has not as dropped or fenced.
abbrev pub CleanedIsSeen : Net → Type 0
CleanedIsSeen w =
    (p r v : ℕ) → (r ≡ w.origin → ⊥) → member r (w.nodes p).barred ≡ false → (w.nodes r).view ≡ Some v →
    (w.nodes p).cleaned ≤ v

-- ---- copies

-- p is an active forwarder
pub record CanServe (w : Net) (p : ℕ) : Type 0 where
  pub row : (u : Subscription) × ((configured w p p ≡ Some u) × (u.forward ≡ true))
  pub view : IsViewed (w.nodes p)

-- the next event of n is an ENABLE_SUBSCRIPTION for it, and the row of n at the origin still waits for this one
pub record IsAwaited (w : Net) (n : ℕ) : Type 0 where
  pub next : IsNext w n (Enable n)
  pub row : Subscription
  pub has : owned w n ≡ Some row
  pub ready : row.ready ≡ true
  pub made : row.made ≡ (w.nodes n).progress + 1
  -- the row of n as n has it
  pub known : Subscription
  pub is : configured w n n ≡ Some known

-- There the provider that n knows is an active forwarder, if it is not the origin, has come as far, and has not given
-- the set up.
abbrev pub CopyFinds : Net → Type 0
CopyFinds w =
    (n : ℕ) (a : IsAwaited w n) → (a.known.provider ≡ w.origin → ⊥) →
    (w.nodes n).progress + 1 ≤ (w.nodes a.known.provider).progress → (w.nodes a.known.provider).gave_up ≡ false →
    CanServe w a.known.provider

-- no row at the origin waits for event number q as its ENABLE_SUBSCRIPTION
abbrev pub IsGone : Net → ℕ → ℕ → Type 0
IsGone w n q = (u : Subscription) → owned w n ≡ Some u → u.ready ≡ true → u.made ≡ q → ⊥

-- Streams only grow, and a row that no longer waits for an event that was emitted never does again.
pub record OnlyGrows (w x : Net) : Type 0 where
  pub longer : length w.stream ≤ length x.stream
  pub same : up_to (length w.stream) x.stream ≡ w.stream
  pub gone : (n q : ℕ) → q ≤ length w.stream → IsGone w n q → IsGone x n q

abbrev pub GoneStays : Type 0
GoneStays = (w x : Net) → Leads w x → OnlyGrows w x

-- Who has passed the event that enabled its row keeps a view, as long as the row stands at the origin.
abbrev pub ActiveHasView : Net → Type 0
ActiveHasView w =
    (n : ℕ) (u : Subscription) → owned w n ≡ Some u → u.ready ≡ true → u.made ≤ (w.nodes n).progress →
    (w.nodes n).gave_up ≡ false → IsViewed (w.nodes n)

-- ---- the end of an era, and the next

-- Once the set has moved away, the last SYNC sees every transaction of the era: nothing is lost.
abbrev pub MoveLosesNothing : Net → Type 0
MoveLosesNothing w = is_moved w.stream ≡ true → w.full ≤ last_moment w.stream

-- n has passed a MOVE_SET, which came after these events
pub record HasPassedMove (w : Net) (n : ℕ) (before : List Event) : Type 0 where
  pub number : ℕ
  pub within : number ≤ length w.stream
  pub is : up_to number w.stream ≡ MoveSet ∷ before
  pub past : number ≤ (w.nodes n).progress

-- Who has passed the MOVE_SET sees the whole era.
abbrev pub MoveIsWhole : Net → Type 0
MoveIsWhole w =
    (n v : ℕ) (before : List Event) → HasPassedMove w n before → (w.nodes n).view ≡ Some v → w.full ≤ v

-- Who has passed the MOVE_SET and keeps a view has a row among those with which the set moved.
abbrev pub MoveKeepsRow : Net → Type 0
MoveKeepsRow w =
    (n v : ℕ) (before : List Event) → HasPassedMove w n before → (w.nodes n).view ≡ Some v →
    (u : Subscription) × ((row w.start n before ≡ Some u) × (owned w n ≡ Some u))

-- every row at the origin is ready and confirmed
abbrev pub IsSettled : Net → Type 0
IsSettled w =
    (n : ℕ) (u : Subscription) → owned w n ≡ Some u → (u.ready ≡ true) × (u.mark ≤ (w.nodes n).progress)

abbrev pub pair_of : Option Subscription → Option (ℕ × Bool)
pair_of None = None
pair_of (Some u) = Some (u.provider, u.forward)

-- the rows after a MOVE SET to y: its own goes, the old origin subscribes to it
abbrev pub moved_rows : Net → ℕ → ℕ → Option (ℕ × Bool)
moved_rows w y n =
    if n == y then None else (if n == w.origin then Some (y, true) else pair_of (owned w n))

-- provider p forwards, by these rows
abbrev pub DoesForward : (ℕ → Option (ℕ × Bool)) → ℕ → Type 0
DoesForward rows p = (q : ℕ × Bool) × ((rows p ≡ Some q) × (q.1 ≡ true))

-- each provider but the new origin y forwards
abbrev pub AllForward : ℕ → (ℕ → Option (ℕ × Bool)) → Type 0
AllForward y rows = (n : ℕ) (r : ℕ × Bool) → rows n ≡ Some r → (r.0 ≡ y → ⊥) → DoesForward rows r.0

-- The rows of a MOVE_SET can begin the next era, and each receiver has a view.
abbrev pub MoveBegins : Net → Type 0
MoveBegins w =
    IsSettled w → (y : ℕ) → AllForward y (moved_rows w y) ×
    ((n : ℕ) (u : Subscription) → owned w n ≡ Some u → (w.nodes n).gave_up ≡ false → IsViewed (w.nodes n))

-- the provider after a FAILOVER to b, in place of the old origin or of a node that is not kept
abbrev pub failed_provider : ℕ → ℕ → (ℕ → Bool) → ℕ → ℕ
failed_provider origin b keeps p = if p == origin then b else (if keeps p then p else b)

abbrev pub failed_row : ℕ → ℕ → (ℕ → Bool) → Option Subscription → Option (ℕ × Bool)
failed_row origin b keeps None = None
failed_row origin b keeps (Some u) = Some (failed_provider origin b keeps u.provider, u.forward)

-- the rows after a FAILOVER to b: those that b has, of the receivers that are kept
abbrev pub failed_rows : Net → ℕ → (ℕ → Bool) → ℕ → Option (ℕ × Bool)
failed_rows w b keeps n = if keeps n then failed_row w.origin b keeps (configured w b n) else None

-- The rows of a FAILOVER_SET can begin the next era.
abbrev pub FailoverBegins : Net → Type 0
FailoverBegins w = (b : ℕ) (keeps : ℕ → Bool) → AllForward b (failed_rows w b keeps)

-- n and the backup b keep views, that of n at or below the other
pub record AreBelow (w : Net) (n b : ℕ) : Type 0 where
  pub view : ℕ
  pub keeps : (w.nodes n).view ≡ Some view
  pub top : ℕ
  pub backup : (w.nodes b).view ≡ Some top
  pub below : view ≤ top

-- At a FAILOVER a receiver that is kept comes to the view of the backup.
abbrev pub TakeoverIsWhole : Net → Type 0
TakeoverIsWhole w =
    (n b : ℕ) (a : AreBelow w n b) → (w.nodes b).progress ≤ (w.nodes n).progress → (w.nodes b).base ≤ a.view →
    a.view ≡ a.top

-- Until then it stays at or below it.
abbrev pub TakeoverStaysBelow : Net → Type 0
TakeoverStaysBelow w =
    (n b m : ℕ) (a : AreBelow w n b) → IsNext w n (Sync m) → (w.nodes n).progress < (w.nodes b).progress →
    max a.view m ≤ a.top

-- the backup b has a row of n, of which n has passed the last event
pub record IsListed (w : Net) (n b : ℕ) : Type 0 where
  pub row : Subscription
  pub has : configured w b n ≡ Some row
  pub mark : row.mark ≤ (w.nodes n).progress

-- Such a receiver keeps its view as it comes to the backup's progress.
abbrev pub KeptKeepsView : Net → Type 0
KeptKeepsView w =
    (n b : ℕ) (next : NextTurn w n) → IsListed w n b → (w.nodes n).progress < (w.nodes b).progress →
    IsViewed (w.nodes n) → IsViewed next.node

-- Until a node has passed the event that opens the era, it has the view, base and log of the beginning, unless it gave
-- the set up.
pub record IsAsBegun (begun node : Node) : Type 0 where
  pub view : node.view ≡ begun.view
  pub base : node.base ≡ begun.base
  pub log : node.log ≡ begun.log

abbrev pub BeginningStays : Type 0
BeginningStays =
    (b w : Net) → IsBegun b → Leads b w → (n : ℕ) → (w.nodes n).progress ≤ length b.stream →
    (w.nodes n).gave_up ≡ false → IsAsBegun (b.nodes n) (w.nodes n)
