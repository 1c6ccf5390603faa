-- What is known of the nodes of a session, beside the sessions before it in its history.
use Rattle.std.specs.Prelude.{◌≡◌, ◌≢◌, ℕ, ◌<◌, ◌⊎◌, ◌==◌, ◌&&◌, ◌||◌, not, Bool, is_some, true, false, List, []}
use Rattle.std.specs.Prelude.{◌∷◌}
use Rattle.std.specs.List.{AllByRecursion}
use Rattle.node_rows.specs.declared.body.Body.{Body}
use Rattle.node_rows.specs.declared.body.Body.TheVariants.{DropSet, SetAddTable, SubscribeSet, EnableSubscription}
use Rattle.node_rows.specs.declared.body.Body.TheVariants.{UnsubscribeSet}
use Rattle.node_rows.specs.declared.rows.TableRow.{TableRow}
use Rattle.slon_model.specs.Maps.{Map, pair_at}
use Rattle.slon_model.specs.Events.{Event, is_sync}
use Rattle.slon_model.specs.Config.{Config, era_of, is_origin}
use Rattle.slon_model.specs.Deeds.{Node, Logged, knowledge, stream, met}
use Rattle.slon_model.specs.Logs.{logged}
use Rattle.slon_model.specs.Place.{taken}
use Rattle.slon_model.specs.Sessions.{World}
use Rattle.slon_model.specs.Views.{View}
use Rattle.stream_laws.specs.Nodes.{IsAmong, nodes_in, IsEvent}
use Rattle.stream_laws.specs.Applied.{applied_events}
use Rattle.view_laws.specs.Past.{Moment}

-- ---- when events were emitted

-- an event of this body is of a subscription to the set, or of all of them
abbrev pub feeds : ℕ → Body → Bool
feeds set (SubscribeSet id provider receiver forward) = id == set
feeds set (EnableSubscription id provider receiver forward era) = id == set
feeds set (UnsubscribeSet id receiver) = id == set
feeds set (DropSet id) = id == set
feeds set others = false

-- The event was emitted in such a session, with the snapshot that was taken there. Who tells of a subscription to a set
-- was the origin of it.
pub record IsEmitted (Was : World → Type 0) (e : Event) : Type 0 where
  pub moment : Moment Was
  pub own : moment.node.id ≡ e.origin
  pub taken : e.taken ≡ taken moment.place
  pub leads : (set : ℕ) → feeds set e.body ≡ true →
      is_origin moment.node.id set (knowledge moment.node).config ≡ true

-- each event of the stream of a node was emitted once
abbrev pub AreEmitted : (World → Type 0) → Node → Type 0
AreEmitted Was n = AllByRecursion (IsEmitted Was) (stream n)

-- ---- what events say of one receiver

-- the receiver subscribes to the set by an event of this body
abbrev pub subscribes : ℕ → ℕ → Body → Bool
subscribes set node (SubscribeSet id provider receiver forward) = id == set && receiver == node
subscribes set node others = false

-- it is to copy the set
abbrev pub enables : ℕ → ℕ → Body → Bool
enables set node (EnableSubscription id provider receiver forward era) = id == set && receiver == node
enables set node others = false

-- it is to give the set up, which may end
abbrev pub leaves : ℕ → ℕ → Body → Bool
leaves set node (UnsubscribeSet id receiver) = id == set && receiver == node
leaves set node (DropSet id) = id == set
leaves set node others = false

-- the set ends
abbrev pub ends : ℕ → Body → Bool
ends set (DropSet id) = id == set
ends set others = false

abbrev pub is_on_feed : ℕ → ℕ → Body → Bool
is_on_feed set node body = subscribes set node body || enables set node body

-- Of these events, the newest first, one opens, and none behind it closes.
abbrev pub lasts : (Body → Bool) → (Body → Bool) → List Event → Bool
lasts opens closes [] = false
lasts opens closes (e ∷ es) = opens e.body || (not (closes e.body) && lasts opens closes es)

-- by these events the receiver subscribes to the set
abbrev pub is_fed : ℕ → ℕ → List Event → Bool
is_fed set node es = lasts (is_on_feed set node) (leaves set node) es

-- by these events it is to copy the set, and has not given it up since
abbrev pub is_enabled : ℕ → ℕ → List Event → Bool
is_enabled set node es = lasts (enables set node) (leaves set node) es

-- the configuration has the subscription of the receiver
abbrev pub HasFeed : ℕ → ℕ → Config → Type 0
HasFeed set receiver c = is_some (pair_at set receiver c.subscriptions) ≡ true

-- A node that has told of a subscription has it exactly where its events say so.
abbrev pub HasFeeds : (World → Type 0) → Node → Type 0
HasFeeds Was n =
    (set receiver : ℕ) (e : Event) → IsAmong e (stream n) → is_on_feed set receiver e.body ≡ true →
    is_some (pair_at set receiver (knowledge n).config.subscriptions) ≡ is_fed set receiver (stream n)

-- ---- a receiver copies a set once, until it gives it up

-- as a receiver is told to copy a set, it has given up what it was to copy before
abbrev pub IsOnce : List Event → Body → Type 0
IsOnce earlier (EnableSubscription set provider receiver forward era) = is_enabled set receiver earlier ≡ false
IsOnce earlier others = Unit {0}

abbrev pub AreOnce : List Event → Type 0
AreOnce [] = Unit {0}
AreOnce (e ∷ es) = IsOnce es e.body × AreOnce es

-- so it is of the stream of a node
abbrev pub IsFedOnce : (World → Type 0) → Node → Type 0
IsFedOnce Was n = AreOnce (stream n)

-- ---- no node subscribes to a set that has ended, or copies it

abbrev pub IsLive : List Event → Body → Type 0
IsLive earlier (SubscribeSet set provider receiver forward) = AllByRecursion (λ e. ends set e.body ≡ false) earlier
IsLive earlier (EnableSubscription set provider receiver forward era) =
    AllByRecursion (λ e. ends set e.body ≡ false) earlier
IsLive earlier others = Unit {0}

abbrev pub AreLive : List Event → Type 0
AreLive [] = Unit {0}
AreLive (e ∷ es) = IsLive es e.body × AreLive es

-- so it is of the stream of a node
abbrev pub IsFedLive : (World → Type 0) → Node → Type 0
IsFedLive Was n = AreLive (stream n)

-- ---- when SYNCs were emitted

-- A node of this id was in such a session, had emitted these events there, and took the snapshot of the event there.
pub record IsTakenAt (Was : World → Type 0) (own : ℕ) (earlier : List Event) (e : Event) : Type 0 where
  pub moment : Moment Was
  pub is_own : moment.node.id ≡ own
  pub taken : e.taken ≡ taken moment.place
  pub before : stream moment.node ≡ earlier

-- so it is with each SYNC of a stream
abbrev pub AllTaken : (World → Type 0) → ℕ → List Event → Type 0
AllTaken Was own [] = Unit {0}
AllTaken Was own (e ∷ es) = (is_sync e.body ≡ true → IsTakenAt Was own es e) × AllTaken Was own es

abbrev pub AreTaken : (World → Type 0) → Node → Type 0
AreTaken Was n = AllTaken Was n.id (stream n)

-- ---- tables come into a set while it has no receivers

-- a table comes into the set
abbrev pub adds : ℕ → Body → Bool
adds set (SetAddTable id table name comment) = id == set
adds set others = false

-- as a table comes into a set, no node subscribes to it
abbrev pub IsUnfed : List Event → Body → Type 0
IsUnfed earlier (SetAddTable set table name comment) = (node : ℕ) → is_fed set node earlier ≡ false
IsUnfed earlier others = Unit {0}

abbrev pub AreUnfed : List Event → Type 0
AreUnfed [] = Unit {0}
AreUnfed (e ∷ es) = IsUnfed es e.body × AreUnfed es

-- so it is of the stream of a node
abbrev pub IsUnfedBefore : (World → Type 0) → Node → Type 0
IsUnfedBefore Was n = AreUnfed (stream n)

-- A node of this id was in such a session, and had emitted these events there.
pub record HadEmitted (Was : World → Type 0) (id : ℕ) (events : List Event) : Type 0 where
  pub moment : Moment Was
  pub own : moment.node.id ≡ id
  pub before : stream moment.node ≡ events

-- So it was with the events before one by which a table comes into a set.
abbrev pub IsAdded : (World → Type 0) → ℕ → List Event → Body → Type 0
IsAdded Was own earlier (SetAddTable set table name comment) = HadEmitted Was own earlier
IsAdded Was own earlier others = Unit {0}

abbrev pub AllAdded : (World → Type 0) → ℕ → List Event → Type 0
AllAdded Was own [] = Unit {0}
AllAdded Was own (e ∷ es) = IsAdded Was own es e.body × AllAdded Was own es

abbrev pub AreAdded : (World → Type 0) → Node → Type 0
AreAdded Was n = AllAdded Was n.id (stream n)

-- ---- the events by which tables are known

-- The event was of a stream of such a session.
pub record WasEvent (Was : World → Type 0) (e : Event) : Type 0 where
  pub session : World
  pub was : Was session
  pub is : IsEvent (nodes_in session.places) e

-- The node met the event, or it was of a stream before.
abbrev pub IsHeard : (World → Type 0) → Node → Event → Type 0
IsHeard Was n e = IsAmong e (met n) ⊎ WasEvent Was e

-- The table is known by an event that says just so.
pub record IsTold (Was : World → Type 0) (n : Node) (t : ℕ × TableRow) : Type 0 where
  pub event : Event
  pub heard : IsHeard Was n event
  pub body : event.body ≡ SetAddTable t.1.set_id t.0 t.1.name t.1.comment

-- The action was logged as one of a table that is known by an event that says just so, in the first era of the set.
pub record IsLoggedAs (Was : World → Type 0) (n : Node) (l : Logged) : Type 0 where
  pub event : Event
  pub heard : IsHeard Was n event
  pub comment : List ℕ
  pub body : event.body ≡ SetAddTable l.set_id l.table_id l.action.table comment
  pub first : l.era ≡ 1

-- All tables are known so, all actions are logged so, and all sets are in their first eras.
pub record AreTold (Was : World → Type 0) (n : Node) : Type 0 where
  pub sets : AllByRecursion (λ e. e.1.era ≡ 1) (knowledge n).config.sets
  pub tables : AllByRecursion (IsTold Was n) (knowledge n).config.tables
  pub logs : AllByRecursion (IsLoggedAs Was n) (logged n)

-- The subscription of a receiver is known by an event on it.
pub record IsFedBy (Was : World → Type 0) (n : Node) (set receiver : ℕ) : Type 0 where
  pub event : Event
  pub heard : IsHeard Was n event
  pub on : is_on_feed set receiver event.body ≡ true

abbrev pub AreFedBy : (World → Type 0) → Node → Type 0
AreFedBy Was n = (set receiver : ℕ) → HasFeed set receiver (knowledge n).config → IsFedBy Was n set receiver

-- ---- the views that a node keeps

-- The snapshot of the view was taken at the origin of the set, in the era of the view. The node copied the set with an
-- event of the origin, and has not given it up since. By then the origin had emitted an event by which some node was to
-- copy the set, and no table came into the set between the two events.
pub record IsSeen (Was : World → Type 0) (n : Node) (set : ℕ) (v : View) : Type 0 where
  pub moment : Moment Was
  pub own : moment.node.id ≡ v.origin
  pub apart : v.origin ≢ n.id
  pub seen : v.seen ≡ taken moment.place
  pub era : v.era ≡ era_of set (knowledge moment.node).config
  pub leads : is_origin moment.node.id set (knowledge moment.node).config ≡ true
  pub enabled : Event
  pub applied : IsAmong enabled (applied_events n)
  pub enables : enables set n.id enabled.body ≡ true
  pub of : enabled.origin ≡ v.origin
  pub since : (e : Event) → IsAmong e (applied_events n) → e.origin ≡ v.origin → leaves set n.id e.body ≡ true →
      e.number < enabled.number
  pub first : Event
  pub before : IsAmong first (stream moment.node)
  pub from : WasEvent Was enabled
  pub tables : (e : Event) → IsAmong e (stream from.is.node) → adds set e.body ≡ true → e.number < enabled.number →
      e.number < first.number

-- so it is with each view of a node
abbrev pub AreSeen : (World → Type 0) → Node → Type 0
AreSeen Was n = AllByRecursion (λ v. IsSeen Was n v.0 v.1) (knowledge n).views

-- ---- maps in order

-- the ids of a map rise
abbrev pub AreRising : {X : Type 0} → Map X → Type 0
AreRising [] = Unit {0}
AreRising (e ∷ es) = AllByRecursion (λ f. e.0 < f.0) es × AreRising es
