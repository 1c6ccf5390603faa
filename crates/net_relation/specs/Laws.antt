-- The laws of nets, in every session that a legal history leads to.
use Rattle.std.specs.Prelude.{◌≡◌, ◌⊎◌, ℕ, suc, Bool, ◌<◌, ◌≤◌, true, false, List, Some}
use Rattle.node_rows.specs.declared.rows.Subscription.{Subscription}
use Rattle.node_rows.specs.declared.body.Body.TheVariants.{EnableSubscription}
use Rattle.net_laws.specs.Laws.{ViewCovers, CopyCovers, ViewHasRow, ViewsRise, LogsHold, BackupServes, ForwarderLogs}
use Rattle.net_laws.specs.Laws.{LoggedOnce, LogsAreCommitted, CopyFinds, ActiveHasView}
use Rattle.net_laws.specs.Net.{Net}
use Rattle.slon_model.specs.Names.{find_named}
use Rattle.slon_model.specs.Maps.{pair_at}
use Rattle.slon_model.specs.Snapshots.{Covers, Snapshot, sees}
use Rattle.slon_model.specs.Rows.{Action, member}
use Rattle.slon_model.specs.Events.{Event, is_sync}
use Rattle.slon_model.specs.Config.{era_of, forwards}
use Rattle.slon_model.specs.Views.{View}
use Rattle.slon_model.specs.Deeds.{Logged, Node, knowledge, progress, stream, view_of}
use Rattle.slon_model.specs.Following.{set_sync}
use Rattle.slon_model.specs.Logs.{logged}
use Rattle.slon_model.specs.Place.{Place}
use Rattle.slon_model.specs.Eras.{Stretch, is_within, stretch_of}
use Rattle.slon_model.specs.World.{World, start, Happening, Leads}
use Rattle.stream_laws.specs.Laws.{node_of}
use Rattle.stream_laws.specs.Nodes.{IsAmong, Nodes, nodes_in}
use Rattle.image_laws.specs.Facts.{IsHeldBy, IsLogged}
use Rattle.view_laws.specs.Known.{leaves}
use Rattle.net_relation.specs.Matching.{HasNet}

-- ---- the nets

-- Of each node of a session, and of each set, there is a net that has gone by steps from a beginning without events to
-- where the session is.
abbrev pub SessionsHaveNets : Type 0
SessionsHaveNets =
    (limit : ℕ) (history : List Happening) (w : World) → Leads (start limit) history w →
    (name : List ℕ) (p : Place) → find_named name w.places ≡ Some p → (x : Node) → p.node ≡ Some x →
    (set : ℕ) → HasNet set (nodes_in w.places) p x

-- The laws of nets hold of such a net, as it is by now.
pub record HasLaws (n : Net) : Type 0 where
  pub covers : ViewCovers n
  pub copies : CopyCovers n
  pub rows : ViewHasRow n
  pub rise : ViewsRise n
  pub provider : LogsHold n
  pub backup : BackupServes n
  pub forwarder : ForwarderLogs n
  pub once : LoggedOnce n
  pub committed : LogsAreCommitted n
  pub finds : CopyFinds n
  pub active : ActiveHasView n

abbrev pub LawsApply : Type 0
LawsApply =
    (w : World) (p : Place) (x : Node) (set : ℕ) (n : HasNet set (nodes_in w.places) p x) → HasLaws n.net

-- ---- who subscribes

-- A node of the session keeps a set in a view, from another one, which is the origin of that.
pub record Keeper (w : World) (set : ℕ) (x : Node) : Type 0 where
  pub name : List ℕ
  pub node : Node
  pub is : node_of w name ≡ Some node
  pub view : View
  pub keeps : view_of set (knowledge node) ≡ Some view
  pub own : view.origin ≡ x.id

-- It has its subscription in its configuration.
abbrev pub KeepersSubscribe : Type 0
KeepersSubscribe =
    (limit : ℕ) (history : List Happening) (w : World) → Leads (start limit) history w →
    (name : List ℕ) (x : Node) → node_of w name ≡ Some x → (set : ℕ) (k : Keeper w set x) →
    (s : Subscription) × (pair_at set k.node.id (knowledge k.node).config.subscriptions ≡ Some s)

-- The node x has emitted an event by which the other one is to copy the set, and that has applied it.
pub record IsEnabled (w : World) (set : ℕ) (x o : Node) : Type 0 where
  pub name : List ℕ
  pub is : node_of w name ≡ Some o
  pub event : Event
  pub among : IsAmong event (stream x)
  pub provider : ℕ
  pub forward : Bool
  pub era : ℕ
  pub body : event.body ≡ EnableSubscription set provider o.id forward era
  pub applied : event.number ≤ progress x.id (knowledge o)

-- Behind that event x has emitted another one by which the node gives the set up.
pub record IsLeft (set : ℕ) (x o : Node) (enabled : Event) : Type 0 where
  pub event : Event
  pub among : IsAmong event (stream x)
  pub leaves : leaves set o.id event.body ≡ true
  pub later : enabled.number < event.number

-- From then on it keeps the set, from x, until it is to give the set up.
abbrev pub SubscribersKeep : Type 0
SubscribersKeep =
    (limit : ℕ) (history : List Happening) (w : World) → Leads (start limit) history w →
    (name : List ℕ) (x : Node) → node_of w name ≡ Some x → (set : ℕ) (o : Node) → (e : IsEnabled w set x o) →
    ((v : View) × (view_of set (knowledge o) ≡ Some v) × (v.origin ≡ x.id)) ⊎ IsLeft set x o e.event

-- A SYNC of x that the node has applied, or that was emitted before it became a node and which it was given then.
pub record IsSynced (x o : Node) (e : Event) : Type 0 where
  pub among : IsAmong e (stream x)
  pub sync : is_sync e.body ≡ true
  pub applied : e.number ≤ progress x.id (knowledge o)

-- A view sees all that such a SYNC of its origin saw.
abbrev pub KeepersSee : Type 0
KeepersSee =
    (limit : ℕ) (history : List Happening) (w : World) → Leads (start limit) history w →
    (name : List ℕ) (x : Node) → node_of w name ≡ Some x → (set : ℕ) (k : Keeper w set x) →
    (e : Event) → IsSynced x k.node e → Covers k.view.seen e.taken

-- ---- the logs of forwarders

-- The origin has logged the action on the set, and the new snapshot sees its transaction, which the old one does not.
pub record IsAhead (set : ℕ) (x : Node) (old new : Snapshot) (l : Logged) : Type 0 where
  pub among : IsAmong l (logged x)
  pub of : l.set_id ≡ set
  pub own : l.origin ≡ x.id
  pub seen : sees new l.action.xid ≡ true
  pub unseen : sees old l.action.xid ≡ false

-- Who forwards a set has logged all that the origin has logged on it between the snapshot with which the node last
-- began to forward it and that of its view.
abbrev pub ForwardersLog : Type 0
ForwardersLog =
    (limit : ℕ) (history : List Happening) (w : World) → Leads (start limit) history w →
    (name : List ℕ) (x : Node) → node_of w name ≡ Some x → (set : ℕ) (k : Keeper w set x) →
    forwards set k.node.id (knowledge k.node).config ≡ true →
    (l : Logged) → IsAhead set x k.view.base k.view.seen l → IsAmong l (logged k.node)

-- A committed action on a table of the set, in the era that stands, at the database of the origin. The new snapshot
-- sees its transaction, which the old one does not.
pub record IsDone (set : ℕ) (p : Place) (x : Node) (old new : Snapshot) (a : Action) : Type 0 where
  pub held : IsHeldBy x.id (knowledge x).config set a.table
  pub among : IsAmong a p.actions
  pub came : member a.xid p.commits ≡ true
  pub within : (s : Stretch) → stretch_of set (era_of set (knowledge x).config) a.table x ≡ Some s →
      is_within s a ≡ true
  pub seen : sees new a.xid ≡ true
  pub unseen : sees old a.xid ≡ false

-- So it has logged all that was committed on the tables of the set between these snapshots.
abbrev pub ForwardersHaveTheActions : Type 0
ForwardersHaveTheActions =
    (limit : ℕ) (history : List Happening) (w : World) → Leads (start limit) history w →
    (name : List ℕ) (p : Place) → find_named name w.places ≡ Some p → (x : Node) → p.node ≡ Some x →
    (set : ℕ) (k : Keeper w set x) → forwards set k.node.id (knowledge k.node).config ≡ true →
    (a : Action) → IsDone set p x k.view.base k.view.seen a → IsLogged (logged k.node) a

-- One of these nodes is the origin of the entry, and has it in its log.
pub record HasOrigin (all : Nodes) (l : Logged) : Type 0 where
  pub name : List ℕ
  pub node : Node
  pub is : all name ≡ Some node
  pub own : node.id ≡ l.origin
  pub among : IsAmong l (logged node)

-- And no node has logged more: what it has in its log is in that of its origin.
abbrev pub LogsHaveOrigins : Type 0
LogsHaveOrigins =
    (limit : ℕ) (history : List Happening) (w : World) → Leads (start limit) history w →
    (name : List ℕ) (n : Node) → node_of w name ≡ Some n → (l : Logged) → IsAmong l (logged n) →
    HasOrigin (node_of w) l

-- The node of the session from which a node takes the set by its own subscription; and a SYNC of x that this one has
-- applied, and that is the next event of x for the other one.
pub record Provider (w : World) (set : ℕ) (x : Node) (k : Keeper w set x) (e : Event) : Type 0 where
  pub name : List ℕ
  pub node : Node
  pub is : node_of w name ≡ Some node
  pub row : Subscription
  pub has : pair_at set k.node.id (knowledge k.node).config.subscriptions ≡ Some row
  pub own : row.provider ≡ node.id
  pub among : IsAmong e (stream x)
  pub sync : is_sync e.body ≡ true
  pub next : e.number ≡ suc (progress x.id (knowledge k.node))
  pub applied : e.number ≤ progress x.id (knowledge node)

-- It has all in its log that the other one takes with the SYNC from the origin.
abbrev pub ProvidersServe : Type 0
ProvidersServe =
    (limit : ℕ) (history : List Happening) (w : World) → Leads (start limit) history w →
    (name : List ℕ) (x : Node) → node_of w name ≡ Some x → (set : ℕ) (k : Keeper w set x) →
    (e : Event) (p : Provider w set x k e) → (l : Logged) → IsAhead set x k.view.seen e.taken l →
    IsAmong l (logged p.node)

-- So the other one takes the same rows from it as from the origin, in the same order.
abbrev pub ProvidersGiveTheSame : Type 0
ProvidersGiveTheSame =
    (limit : ℕ) (history : List Happening) (w : World) → Leads (start limit) history w →
    (name : List ℕ) (x : Node) → node_of w name ≡ Some x → (set : ℕ) (k : Keeper w set x) →
    (e : Event) (p : Provider w set x k e) →
    (set_sync k.node.id (knowledge k.node) e (logged p.node) (set, k.view)).rows
    ≡ (set_sync k.node.id (knowledge k.node) e (logged x) (set, k.view)).rows

-- So who forwards a set could serve another node that keeps it, unless that one is behind where it began: of each SYNC
-- that it has applied it has all in its log that the other one takes with it from the origin.
abbrev pub ForwardersServe : Type 0
ForwardersServe =
    (limit : ℕ) (history : List Happening) (w : World) → Leads (start limit) history w →
    (name : List ℕ) (x : Node) → node_of w name ≡ Some x → (set : ℕ) (k other : Keeper w set x) →
    forwards set k.node.id (knowledge k.node).config ≡ true → Covers other.view.seen k.view.base →
    (e : Event) → IsSynced x k.node e → (l : Logged) → IsAhead set x other.view.seen e.taken l →
    IsAmong l (logged k.node)

-- So the other one would take the same rows from it as from the origin, in the same order.
abbrev pub ForwardersGiveTheSame : Type 0
ForwardersGiveTheSame =
    (limit : ℕ) (history : List Happening) (w : World) → Leads (start limit) history w →
    (name : List ℕ) (x : Node) → node_of w name ≡ Some x → (set : ℕ) (k other : Keeper w set x) →
    forwards set k.node.id (knowledge k.node).config ≡ true → Covers other.view.seen k.view.base →
    (e : Event) → IsSynced x k.node e →
    (set_sync other.node.id (knowledge other.node) e (logged k.node) (set, other.view)).rows
    ≡ (set_sync other.node.id (knowledge other.node) e (logged x) (set, other.view)).rows
