-- How a store holds the node that its database is.
use Rattle.std.specs.Prelude.{◌≡◌, ℕ, ◌<◌, ◌≤◌, ◌==◌, ◌||◌, ◌&&◌, nat_le, Bool, true, false, List, [], ◌∷◌, ◌++◌, map}
use Rattle.std.specs.Prelude.{Option, Some, None, is_some}
use Rattle.std.specs.List.{list_any}
use Rattle.std.specs.Option.{option_map}
use Rattle.std.specs.Str.{bytes_eq}
use Rattle.std.specs.FinMap.{get, empty}
use Rattle.slon_base.specs.Codec.{number_bytes, text_bytes, IsText, AllAre}
use Rattle.slon_base.specs.Keeper.{Store, Space}
use Rattle.store_rows.specs.Rows.{IsId}
use Rattle.node_rows.specs.declared.rows.TableRow.{TableRow}
use Rattle.change_capture.specs.declared.action.Change.{Change}
use Rattle.change_capture.specs.declared.action.Change.TheVariants as captured
use Rattle.change_capture.specs.declared.action.Action.{Action}
use Rattle.change_capture.specs.Capture.{log_row}
use Rattle.slon_model.specs.Maps.{Map, entry_at, number_at}
use Rattle.slon_model.specs.Rows.{Change as RowsChange, Put, Set, Remove, Action as RowsAction}
use Rattle.slon_model.specs.Config.{Config}
use Rattle.slon_model.specs.Deeds.{Node, knowledge, Logged}
use Rattle.slon_model.specs.Logs.{logged}
use Rattle.set_config.specs.Holds.{HoldsConfig}
use Rattle.slon_model.specs.Views.{Views}
use Rattle.event_store.specs.declared.view.View.{View}
use Rattle.event_store.specs.Kept.{seen_view}
use Rattle.event_store.specs.Streams.{streams_of}
use Rattle.event_store.specs.Holds.{HoldsStreams}
use Rattle.event_store.specs.Ordered.{IsOrdered, AreOrdered}
use Rattle.event_store.specs.Regular.{IsRegular}
use Rattle.log_switch.specs.Holds.{Logged as Item, HoldsLog}

-- ---- the log

-- a change and an action, as they are captured
abbrev pub change_as : RowsChange → Change
change_as (Put key row) = captured.Put key row
change_as (Set key columns) = captured.Set key columns
change_as (Remove key) = captured.Remove key

abbrev pub action_as : RowsAction → Action
action_as a = record { number = a.number; table = a.table; change = change_as a.change }

-- the row of what is logged
abbrev pub item_of : Logged → Item
item_of l =
    record { origin = l.origin; number = l.action.number; row = log_row l.action.xid l.table_id (action_as l.action) }

abbrev pub items_of : List Logged → List Item
items_of ls = map item_of ls

-- the actions of a transaction, the newest first, as they are captured: the oldest first
abbrev pub captured_all : List RowsAction → List Action
captured_all [] = []
captured_all (a ∷ actions) = captured_all actions ++ action_as a ∷ []

-- ---- the maps of a configuration

pub record IsOrderly (c : Config) : Type 0 where
  pub nodes : IsOrdered c.nodes
  pub paths : AreOrdered c.paths
  pub sets : IsOrdered c.sets
  pub tables : IsOrdered c.tables
  pub subscriptions : AreOrdered c.subscriptions
  pub fences : IsOrdered c.fences

-- no two tables have one name
abbrev pub NamesDiffer : Map TableRow → Type 0
NamesDiffer [] = Unit {0}
NamesDiffer (e ∷ es) = (list_any (λ t. bytes_eq e.1.name t.1.name) es ≡ false) × NamesDiffer es

-- each table is in a set that is known, and has its name alone
abbrev pub AreHomed : Config → Type 0
AreHomed c = AllAre (λ e. is_some (entry_at e.1.set_id c.sets) ≡ true) c.tables × NamesDiffer c.tables

-- a node of this id is known
abbrev pub IsMet : ℕ → Config → Type 0
IsMet id c = is_some (entry_at id c.nodes) ≡ true

-- and so is each node that stands in this map
abbrev pub AreMet : Map ℕ → Config → Type 0
AreMet progress c = AllAre (λ e. is_some (entry_at e.0 c.nodes) ≡ true) progress

-- ---- the node

-- the spaces of a database: its numbers, its tables and its rows
abbrev pub is_own : ℕ → Bool
is_own space = space == 1 || space == 2 || space == 3

-- the spaces of what a node knows, holds and logs: 4 to 15
abbrev pub is_of_node : ℕ → Bool
is_of_node space = nat_le 4 space && nat_le space 15

-- What the store of a node holds besides its numbers, its tables and its rows.
pub record NodeHeld (n : Node) (m : Store) : Type 0 where
  pub id : IsId n.id
  pub cluster : IsText n.cluster
  pub config : HoldsConfig (knowledge n).config m
  pub orderly : IsOrderly (knowledge n).config
  pub homes : AreHomed (knowledge n).config
  -- it knows itself
  pub self : IsMet n.id (knowledge n).config
  -- it has events of no node that it does not know
  pub met : AreMet (knowledge n).progress (knowledge n).config
  pub streams : HoldsStreams (streams_of n) m
  pub log : HoldsLog (items_of (logged n)) m
  pub status : (knowledge n).log < 4
  -- it has deleted no event that it has not met
  pub behind : (origin : ℕ) → number_at origin (knowledge n).low ≤ number_at origin (knowledge n).progress
  pub regular : IsRegular (streams_of n)
  pub spare : (space : ℕ) → is_own space ≡ false → is_of_node space ≡ false → m space ≡ empty

-- a database that is no node has nothing in these spaces
abbrev pub HoldsNode : Option Node → Store → Type 0
HoldsNode None m = (space : ℕ) → is_own space ≡ false → m space ≡ empty
HoldsNode (Some n) m = NodeHeld n m

-- what was read of the sets that a node keeps
abbrev pub seen_views : List (ℕ × View) → Views
seen_views rows = map (λ e. (e.0, seen_view e.1)) rows

-- ---- its numbers

abbrev pub log_of : Option Node → ℕ
log_of None = 0
log_of (Some n) = (knowledge n).log

-- the meta entries of a node: its id and its cluster
abbrev pub id_bytes : Option Node → Option (List ℕ)
id_bytes found = option_map (λ n. number_bytes n.id) found

abbrev pub cluster_bytes : Option Node → Option (List ℕ)
cluster_bytes found = option_map (λ n. text_bytes n.cluster) found

pub record HasMeta (node : Option Node) (space : Space) : Type 0 where
  pub id : get space (4 ∷ []) ≡ id_bytes node
  pub cluster : get space (5 ∷ []) ≡ cluster_bytes node
