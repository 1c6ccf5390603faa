-- Events: what a node tells all others, in its own order.
use Rattle.std.specs.Prelude.{ℕ, zero, suc, ◌==◌, ◌&&◌, if◌then◌else◌, Bool, true, false, List, [], ◌∷◌}
use Rattle.std.specs.Prelude.{Option, Some, None}
use Rattle.node_rows.specs.declared.body.Body.{Body}
use Rattle.node_rows.specs.declared.body.Body.TheVariants.{Sync, StoreNode, DropNode, StorePath, DropPath, StoreSet}
use Rattle.node_rows.specs.declared.body.Body.TheVariants.{DropSet, SetAddTable, SubscribeSet, EnableSubscription}
use Rattle.node_rows.specs.declared.body.Body.TheVariants.{UnsubscribeSet, MoveSet, AcceptSet, FailoverSet}
use Rattle.slon_model.specs.declared.reply.EventKind.{EventKind}
use Rattle.slon_model.specs.declared.reply.EventKind.TheVariants as kind
use Rattle.slon_model.specs.Snapshots.{Snapshot}

-- a receiver of a set with its provider, and whether it forwards
abbrev pub Feed : Type 0
Feed = ℕ × (ℕ × Bool)

-- a set that is taken over: the set, its new era, and its feeds
abbrev pub Taken : Type 0
Taken = ℕ × (ℕ × List Feed)

-- An event of a node: the first one has number 1. The snapshot was taken there as it was emitted.
pub record Event : Type 0 where
  pub origin : ℕ
  pub number : ℕ
  pub taken : Snapshot
  pub body : Body

-- the kind of an event, which an answer tells
abbrev pub kind_of : Body → EventKind
kind_of Sync = kind.Sync
kind_of (StoreNode node comment) = kind.StoreNode
kind_of (DropNode node) = kind.DropNode
kind_of (StorePath server client conninfo) = kind.StorePath
kind_of (DropPath server client) = kind.DropPath
kind_of (StoreSet set origin comment) = kind.StoreSet
kind_of (DropSet set) = kind.DropSet
kind_of (SetAddTable set table name comment) = kind.SetAddTable
kind_of (SubscribeSet set provider receiver forward) = kind.SubscribeSet
kind_of (EnableSubscription set provider receiver forward era) = kind.EnableSubscription
kind_of (UnsubscribeSet set receiver) = kind.UnsubscribeSet
kind_of (MoveSet set old new era feeds) = kind.MoveSet
kind_of (AcceptSet set old new era moved) = kind.AcceptSet
kind_of (FailoverSet failed limit sets) = kind.FailoverSet

abbrev pub is_sync : Body → Bool
is_sync Sync = true
is_sync others = false

-- the event of this origin with this number
abbrev pub event_at : List Event → ℕ × ℕ → Option Event
event_at [] i = None
event_at (e ∷ es) i = if e.origin == i.0 && e.number == i.1 then Some e else event_at es i

-- the last SYNC of an origin among these events whose number is at most this one
abbrev pub sync_or : Option Event → Option Event → Option Event
sync_or None before = before
sync_or (Some e) before = if is_sync e.body then Some e else before

abbrev pub last_sync : ℕ → List Event → ℕ → Option Event
last_sync origin events zero = None
last_sync origin events (suc n) = sync_or (event_at events (origin, suc n)) (last_sync origin events n)
