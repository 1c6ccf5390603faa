-- The laws of what nodes that subscribe know of sets, in every session that a legal history leads to.
use Rattle.std.specs.Prelude.{◌≡◌, ◌⊎◌, ℕ, ◌<◌, suc, true, List, Some}
use Rattle.node_rows.specs.declared.body.Body.TheVariants.{DropSet}
use Rattle.slon_model.specs.Names.{find_named}
use Rattle.slon_model.specs.Snapshots.{Covers, sees}
use Rattle.slon_model.specs.Events.{Event, is_sync}
use Rattle.slon_model.specs.Config.{names_of}
use Rattle.slon_model.specs.Views.{View}
use Rattle.slon_model.specs.Deeds.{Node, knowledge, progress, stream, view_of}
use Rattle.slon_model.specs.Place.{Place}
use Rattle.slon_model.specs.Rows.{Action}
use Rattle.slon_model.specs.World.{World, start, Happening, Leads}
use Rattle.slon_laws.specs.Older.{IsOlder}
use Rattle.stream_laws.specs.Nodes.{IsAmong, IsEvent, nodes_in}
use Rattle.stream_laws.specs.Applied.{applied_events}
use Rattle.image_laws.specs.Facts.{IsHeldBy}
use Rattle.view_laws.specs.Known.{enables, leaves}

-- ---- what was drawn before an event

-- All actions that were drawn at the origin of an event up to one that the event's snapshot sees are of transactions
-- that had begun before the event was emitted.
abbrev pub AreDivided : World → Type 0
AreDivided w =
    (e : Event) (is : IsEvent (nodes_in w.places) e) (p : Place) → find_named is.name w.places ≡ Some p →
    (a : Action) → IsAmong a p.actions → sees e.taken a.xid ≡ true → IsOlder (suc a.number) e.taken.xmax p

abbrev pub EventsDivide : Type 0
EventsDivide = (limit : ℕ) (history : List Happening) (w : World) → Leads (start limit) history w → AreDivided w

-- ---- views

-- The node keeps the set, from the same origin and in the same era as before, and its snapshot covers that of before.
pub record GoesOn (set : ℕ) (before : View) (m : Node) : Type 0 where
  pub view : View
  pub found : view_of set (knowledge m) ≡ Some view
  pub origin : view.origin ≡ before.origin
  pub era : view.era ≡ before.era
  pub covers : Covers view.seen before.seen

-- Since it was this one, the node has applied an event of the origin of the view by which it gives the set up.
pub record GaveUp (set : ℕ) (before : View) (n m : Node) : Type 0 where
  pub event : Event
  pub applied : IsAmong event (applied_events m)
  pub new : IsAmong event (applied_events n) → ⊥
  pub own : event.origin ≡ before.origin
  pub leaves : leaves set m.id event.body ≡ true

-- The snapshot that a node keeps of a set never goes back, until the node gives the set up.
abbrev pub ViewsGoOn : Type 0
ViewsGoOn =
    (limit : ℕ) (history later : List Happening) (w v : World) → Leads (start limit) history w → Leads w later v →
    (name : List ℕ) (p q : Place) → find_named name w.places ≡ Some p → find_named name v.places ≡ Some q →
    (n m : Node) → p.node ≡ Some n → q.node ≡ Some m →
    (set : ℕ) (before : View) → view_of set (knowledge n) ≡ Some before → GoesOn set before m ⊎ GaveUp set before n m

-- The node has applied an event of the origin of the view by which it copies the set, and since then none by which it
-- gives the set up.
pub record IsCopiedBy (set : ℕ) (n : Node) (v : View) : Type 0 where
  pub event : Event
  pub applied : IsAmong event (applied_events n)
  pub own : event.origin ≡ v.origin
  pub enables : enables set n.id event.body ≡ true
  pub since : (e : Event) → IsAmong e (applied_events n) → e.origin ≡ v.origin → leaves set n.id e.body ≡ true →
      e.number < event.number

-- So each view begins with a copy: a node that gave a set up and keeps it again has copied it anew.
abbrev pub ViewsBegin : Type 0
ViewsBegin =
    (limit : ℕ) (history : List Happening) (w : World) → Leads (start limit) history w →
    (name : List ℕ) (p : Place) → find_named name w.places ≡ Some p → (n : Node) → p.node ≡ Some n →
    (set : ℕ) (v : View) → view_of set (knowledge n) ≡ Some v → IsCopiedBy set n v

-- It sees all that a SYNC of the origin saw which the node has applied.
abbrev pub ViewsReach : Type 0
ViewsReach =
    (limit : ℕ) (history : List Happening) (w : World) → Leads (start limit) history w →
    (name : List ℕ) (p : Place) → find_named name w.places ≡ Some p → (n : Node) → p.node ≡ Some n →
    (set : ℕ) (v : View) → view_of set (knowledge n) ≡ Some v →
    (e : Event) → IsAmong e (applied_events n) → e.origin ≡ v.origin → is_sync e.body ≡ true → Covers v.seen e.taken

-- ---- tables

-- The origin of the set has ended it, which the node has not applied yet.
pub record IsEnding (set : ℕ) (n origin : Node) : Type 0 where
  pub event : Event
  pub among : IsAmong event (stream origin)
  pub ends : event.body ≡ DropSet set
  pub later : progress origin.id (knowledge n) < event.number

-- The origin of the set has told the node to give it up, which the node has not applied yet.
pub record IsLeaving (set : ℕ) (n origin : Node) : Type 0 where
  pub event : Event
  pub among : IsAmong event (stream origin)
  pub leaves : leaves set n.id event.body ≡ true
  pub later : progress origin.id (knowledge n) < event.number

-- Each table that a node knows in a set which it keeps, the origin has in the set, unless it has ended that; and the
-- node knows each that the origin has, unless it is to give the set up.
abbrev pub TablesAgree : Type 0
TablesAgree =
    (limit : ℕ) (history : List Happening) (w : World) → Leads (start limit) history w →
    (a b : List ℕ) (p q : Place) → find_named a w.places ≡ Some p → find_named b w.places ≡ Some q →
    (n m : Node) → p.node ≡ Some n → q.node ≡ Some m →
    (set : ℕ) (v : View) → view_of set (knowledge n) ≡ Some v → m.id ≡ v.origin → (table : List ℕ) →
    (IsAmong table (names_of set (knowledge n).config) →
    IsHeldBy m.id (knowledge m).config set table ⊎ IsEnding set n m)
    × (IsHeldBy m.id (knowledge m).config set table →
    IsAmong table (names_of set (knowledge n).config) ⊎ IsLeaving set n m)
