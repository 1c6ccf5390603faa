-- What holds of the nodes that keep sets in the session that a history led to.
use Rattle.std.specs.Prelude.{◌≡◌, ◌⊎◌, ◌++◌, ℕ, List, Some}
use Rattle.slon_model.specs.Names.{find_named}
use Rattle.slon_model.specs.Events.{Event}
use Rattle.slon_model.specs.Following.{set_sync}
use Rattle.slon_model.specs.Logs.{logged}
use Rattle.slon_model.specs.Config.{names_of}
use Rattle.slon_model.specs.Views.{View}
use Rattle.slon_model.specs.Deeds.{Node, knowledge, view_of}
use Rattle.slon_model.specs.Place.{Place}
use Rattle.slon_model.specs.World.{World, Happening, Leads, start}
use Rattle.stream_laws.specs.Nodes.{IsAmong, nodes_in}
use Rattle.stream_laws.specs.Laws.{AreApplied, node_of}
use Rattle.view_laws.specs.Laws.{GaveUp, GoesOn, IsCopiedBy}
use Rattle.net_relation.specs.Matching.{HasNet}
use Rattle.net_relation.specs.Laws.{HasLaws, Keeper, Provider}
use Rattle.follow_laws.specs.Laws.{HoldsAsSeen, WasSo}

-- A node of a session that keeps a set: its database, and how far it is in the set.
pub record Keeping (w : World) : Type 0 where
  pub name : List ℕ
  pub place : Place
  pub found : find_named name w.places ≡ Some place
  pub node : Node
  pub at : place.node ≡ Some node
  pub set_id : ℕ
  pub view : View
  pub keeps : view_of set_id (knowledge node) ≡ Some view

-- all of it together
pub record Subscribed (limit : ℕ) (history : List Happening) (w : World) : Type 0 where
  -- each table of the set holds what the snapshot that the node keeps sees at the origin of the set
  pub tables : (k : Keeping w) (table : List ℕ) → IsAmong table (names_of k.set_id (knowledge k.node).config) →
      HoldsAsSeen w k.place k.node k.set_id k.view table
  -- all tables of the set stood so at the origin, at one moment of the history
  pub sets : (k : Keeping w) → WasSo limit history w k.place k.node k.set_id k.view
  -- who kept a set in an earlier session of the history keeps it, and its snapshot has not gone back, unless the node
  -- has applied since then that it gives the set up
  pub views : (earlier later : List Happening) (u : World) → later ++ earlier ≡ history →
      Leads (start limit) earlier u → Leads u later w → (k : Keeping u) (q : Place) →
      find_named k.name w.places ≡ Some q → (m : Node) → q.node ≡ Some m →
      GoesOn k.set_id k.view m ⊎ GaveUp k.set_id k.view k.node m
  -- it copied the set, and has not given it up since
  pub begins : (k : Keeping w) → IsCopiedBy k.set_id k.node k.view
  -- each event of another node was applied once, in the order of its stream
  pub events : AreApplied w
  -- of each node and each set there is a net that has gone by steps to where the session is, and it has all laws of
  -- nets: the log of a provider holds what its receivers take, a copy finds the set and all that the copied snapshot
  -- sees, who was enabled has a view, and each action is logged once
  pub nets : (name : List ℕ) (p : Place) → find_named name w.places ≡ Some p → (x : Node) → p.node ≡ Some x →
      (set : ℕ) → (n : HasNet set (nodes_in w.places) p x) × HasLaws n.net
  -- so with the next SYNC a node takes the same rows from its provider as it would take from the origin
  pub provided : (name : List ℕ) (x : Node) → node_of w name ≡ Some x → (set : ℕ) (k : Keeper w set x) →
      (e : Event) (p : Provider w set x k e) →
      (set_sync k.node.id (knowledge k.node) e (logged p.node) (set, k.view)).rows
      ≡ (set_sync k.node.id (knowledge k.node) e (logged x) (set, k.view)).rows
