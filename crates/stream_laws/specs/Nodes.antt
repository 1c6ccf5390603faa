-- Which node each database of a session is, and what may be said of the streams of all of them.
use Rattle.std.specs.Prelude.{◌≡◌, ℕ, ◌≤◌, is_some, true, List, Option, Some, None}
use Rattle.slon_model.specs.Names.{Named, find_named}
use Rattle.slon_model.specs.Maps.{entry_at}
use Rattle.slon_model.specs.Events.{Event}
use Rattle.slon_model.specs.Config.{Config}
use Rattle.slon_model.specs.Deeds.{Node, knowledge, stream, progress}
use Rattle.slon_model.specs.Place.{Place}
pub use Rattle.slon_laws.specs.Lists.{IsAmong}

-- the node of each database, by the name of the database
abbrev pub Nodes : Type 0
Nodes = List ℕ → Option Node

abbrev pub node_in : Option Place → Option Node
node_in None = None
node_in (Some p) = p.node

abbrev pub nodes_in : Named Place → Nodes
nodes_in ps name = node_in (find_named name ps)

-- the node of this id is known
abbrev pub IsKnown : ℕ → Config → Type 0
IsKnown id c = is_some (entry_at id c.nodes) ≡ true

-- The event is one of the stream of the node that has its origin as its id.
pub record IsEvent (nodes : Nodes) (e : Event) : Type 0 where
  pub name : List ℕ
  pub node : Node
  pub is : nodes name ≡ Some node
  pub own : node.id ≡ e.origin
  pub among : IsAmong e (stream node)

-- Of an origin, a node, and a number: that node is as far as that in the stream of the origin.
pub record HasConfirmed (nodes : Nodes) (c : ℕ × ℕ × ℕ) : Type 0 where
  pub name : List ℕ
  pub node : Node
  pub is : nodes name ≡ Some node
  pub own : node.id ≡ c.1
  pub within : c.2 ≤ progress c.0 (knowledge node)

-- The event waits at the node of the database of this name: it is one of the stream of its origin, which that node
-- knows.
pub record WaitsAt (nodes : Nodes) (name : List ℕ) (e : Event) : Type 0 where
  pub event : IsEvent nodes e
  pub node : Node
  pub is : nodes name ≡ Some node
  pub knows : IsKnown e.origin (knowledge node).config
