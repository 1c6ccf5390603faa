-- What events make known for good: that there is a set, a table, or a table of a name, and that a set has ended.
use Rattle.std.specs.Prelude.{◌≡◌, ℕ, suc, ◌==◌, ◌≤◌, not, is_some, Bool, true, false, List, [], ◌∷◌, ◌++◌, length}
use Rattle.std.specs.Prelude.{Option, Some, None}
use Rattle.std.specs.List.{list_any, AllByRecursion}
use Rattle.std.specs.Str.{bytes_eq}
use Rattle.slon_model.specs.Maps.{Map, entry_at, number_at}
use Rattle.node_rows.specs.declared.rows.SetRow.{SetRow}
use Rattle.node_rows.specs.declared.body.Body.{Body}
use Rattle.node_rows.specs.declared.body.Body.TheVariants.{StoreSet, DropSet, SetAddTable, MoveSet, AcceptSet}
use Rattle.node_rows.specs.declared.body.Body.TheVariants.{FailoverSet}
use Rattle.slon_model.specs.Events.{Event}
use Rattle.slon_model.specs.Config.{Config}
use Rattle.slon_model.specs.Deeds.{Node, stream}
use Rattle.stream_laws.specs.Nodes.{IsAmong, Nodes}

-- What is known for good once it is known: a set, a table, that a table has a name, and that a set has ended.
pub data Mark : Type 0 where
  OfSet : (set : ℕ) → Mark
  OfTable : (table : ℕ) → Mark
  OfName : (name : List ℕ) → Mark
  OfEnd : (set : ℕ) → Mark

-- an event of this body makes it known
abbrev pub tells_of : Body → Mark → Bool
tells_of (StoreSet set origin comment) (OfSet id) = id == set
tells_of (SetAddTable set table name comment) (OfTable id) = id == table
tells_of (SetAddTable set table name comment) (OfName text) = bytes_eq text name
tells_of (DropSet set) (OfEnd id) = id == set
tells_of others mark = false

-- a set that is known and not live
abbrev pub is_ended : Option SetRow → Bool
is_ended None = false
is_ended (Some row) = not row.live

-- it is known
abbrev pub has_mark : Mark → Config → Bool
has_mark (OfSet set) c = is_some (entry_at set c.sets)
has_mark (OfTable table) c = is_some (entry_at table c.tables)
has_mark (OfName name) c = list_any (λ e. bytes_eq name e.1.name) c.tables
has_mark (OfEnd set) c = is_ended (entry_at set c.sets)

-- Some node has emitted an event that makes it known.
pub record IsMade (nodes : Nodes) (mark : Mark) : Type 0 where
  pub name : List ℕ
  pub node : Node
  pub is : nodes name ≡ Some node
  pub event : Event
  pub among : IsAmong event (stream node)
  pub makes : tells_of event.body mark ≡ true

-- ---- what a node may emit

-- a body of a kind that is emitted
abbrev pub is_emitted : Body → Bool
is_emitted (MoveSet set old new era feeds) = false
is_emitted (AcceptSet set old new era moved) = false
is_emitted (FailoverSet failed limit sets) = false
is_emitted others = true

-- an event that makes the set known is one of these
abbrev pub HasStored : ℕ → List Event → Type 0
HasStored set events = (e : Event) × IsAmong e events × (tells_of e.body (OfSet set) ≡ true)

-- none of these events says that the set has ended
abbrev pub HasLasted : ℕ → List Event → Type 0
HasLasted set events = AllByRecursion (λ e. tells_of e.body (OfEnd set) ≡ false) events

-- A node of this id may emit it behind these events: a set begins at the node that emits it, and a table comes into a
-- set that began there and has not ended; a set ends that began there.
abbrev pub MayFollow : ℕ → List Event → Body → Type 0
MayFollow own earlier (StoreSet set origin comment) = origin ≡ own
MayFollow own earlier (SetAddTable set table name comment) = HasStored set earlier × HasLasted set earlier
MayFollow own earlier (DropSet set) = HasStored set earlier
MayFollow own earlier others = is_emitted others ≡ true

-- The events of a node of this id, the newest first: they have the numbers from 1 on, and the node may emit each behind
-- those before it.
abbrev pub AreEmitted : ℕ → List Event → Type 0
AreEmitted own [] = Unit {0}
AreEmitted own (e ∷ es) =
    (e.origin ≡ own) × (e.number ≡ suc (length es)) × MayFollow own es e.body × AreEmitted own es

-- ---- what is known of it

-- all that the event makes known is known
abbrev pub IsTold : Config → Event → Type 0
IsTold c e = (mark : Mark) → tells_of e.body mark ≡ true → has_mark mark c ≡ true

-- The node of the first of these ids has emitted as many events as the second number says, and what its first events,
-- in this number, make known is known.
pub record HasEmitted (nodes : Nodes) (c : Config) (reached : ℕ × ℕ) : Type 0 where
  pub name : List ℕ
  pub node : Node
  pub is : nodes name ≡ Some node
  pub own : node.id ≡ reached.0
  pub later : List Event
  pub earlier : List Event
  pub all : stream node ≡ later ++ earlier
  pub far : length earlier ≡ reached.1
  pub told : AllByRecursion (IsTold c) earlier

-- It is made known by an event that one has met who is so far in each stream.
pub record IsMet (nodes : Nodes) (reached : Map ℕ) (mark : Mark) : Type 0 where
  pub made : IsMade nodes mark
  pub within : made.event.number ≤ number_at made.node.id reached

-- it is made known by a node of this id
abbrev pub IsMadeBy : Nodes → Mark → ℕ → Type 0
IsMadeBy nodes mark id = (made : IsMade nodes mark) × (made.node.id ≡ id)

-- Who is so far in each stream knows so exactly what the events up to there make known, and of a set the node that made
-- it known.
pub record IsMarked (nodes : Nodes) (c : Config) (reached : Map ℕ) : Type 0 where
  pub emitted : AllByRecursion (HasEmitted nodes c) reached
  pub met : (mark : Mark) → has_mark mark c ≡ true → IsMet nodes reached mark
  pub origins : (set : ℕ) (row : SetRow) → entry_at set c.sets ≡ Some row → IsMadeBy nodes (OfSet set) row.origin
