-- What a node does with the sets and tables that it knows, deed by deed.
use Rattle.std.specs.Prelude.{◌≡◌, ℕ, is_some, Bool, true, false, List, [], ◌∷◌, Some, None}
use Rattle.std.specs.Str.{bytes_eq}
use Rattle.std.specs.List.{list_any, AllByRecursion}
use Rattle.node_rows.specs.declared.rows.SetRow.{SetRow}
use Rattle.node_rows.specs.declared.body.Body.TheVariants.{StoreSet, DropSet, SetAddTable}
use Rattle.node_rows.specs.declared.rows.TableRow.{TableRow}
use Rattle.slon_model.specs.Names.{Named}
use Rattle.slon_model.specs.Maps.{entry_at}
use Rattle.slon_model.specs.Rows.{Rows}
use Rattle.slon_model.specs.Events.{Event}
use Rattle.slon_model.specs.Config.{Config, is_origin, leads_row, set_row}
use Rattle.slon_model.specs.Deeds.{Node, Deed, Logged, Emits, brought_in, learned, met_by, knowledge}
use Rattle.slon_model.specs.Deeds.{with_deeds}
use Rattle.slon_model.specs.Place.{Place, standing_rows, taken}
use Rattle.slon_model.specs.Sessions.{Commit, writer_of}
use Rattle.slon_laws.specs.Turning.{IsWithin}
use Rattle.stream_laws.specs.Nodes.{IsAmong}

-- the node of this id is the origin of the set, whether that is live or not
abbrev pub is_owner : ℕ → ℕ → Config → Bool
is_owner own set c = leads_row own (entry_at set c.sets)

-- some table that is known has this name
abbrev pub IsListed : List ℕ → Config → Type 0
IsListed table c = list_any (λ e. bytes_eq table e.1.name) c.tables ≡ true

-- A node knows itself, the origin of each set, and the set of each table, which is that of each table of its name. All
-- tables of a live set are live, and those of its own sets no longer.
pub record IsWhole (own : ℕ) (c : Config) : Type 0 where
  pub knows : is_some (entry_at own c.nodes) ≡ true
  pub sets : (set : ℕ) (row : SetRow) → entry_at set c.sets ≡ Some row → is_some (entry_at row.origin c.nodes) ≡ true
  pub tables : AllByRecursion (λ e. is_some (entry_at e.1.set_id c.sets) ≡ true) c.tables
  pub names : (e f : ℕ × TableRow) → IsAmong e c.tables → IsAmong f c.tables → e.1.name ≡ f.1.name →
      e.1.set_id ≡ f.1.set_id
  pub live : (e : ℕ × TableRow) → IsAmong e c.tables → is_some (set_row e.1.set_id c) ≡ true → e.1.live ≡ true
  pub ended : (e : ℕ × TableRow) → IsAmong e c.tables → is_owner own e.1.set_id c ≡ true → e.1.live ≡ true →
      is_some (set_row e.1.set_id c) ≡ true

-- the sets and tables stay, and so does each node
pub record IsKept (old new : Config) : Type 0 where
  pub sets : new.sets ≡ old.sets
  pub tables : new.tables ≡ old.tables
  pub nodes : (id : ℕ) → is_some (entry_at id old.nodes) ≡ true → is_some (entry_at id new.nodes) ≡ true

-- A set that the node did not know begins, by an event of its own or of another node. It knows the origin of the set.
pub record Creates (n : Node) (d : Deed) : Type 0 where
  pub set_id : ℕ
  pub origin : ℕ
  pub comment : List ℕ
  pub event : Event
  pub met : met_by d.doing ≡ Some event
  pub body : event.body ≡ StoreSet set_id origin comment
  pub rows : d.rows ≡ []
  pub known : is_some (entry_at origin (knowledge n).config.nodes) ≡ true
  pub new : is_some (entry_at set_id (knowledge n).config.sets) ≡ false

-- A table comes into a set, by an event of the node or of another one. The node knew neither its id nor its name.
pub record Comes (n : Node) (d : Deed) : Type 0 where
  pub set_id : ℕ
  pub table_id : ℕ
  pub name : List ℕ
  pub comment : List ℕ
  pub event : Event
  pub met : met_by d.doing ≡ Some event
  pub body : event.body ≡ SetAddTable set_id table_id name comment
  pub new : is_some (entry_at table_id (knowledge n).config.tables) ≡ false
  pub unused : list_any (λ e. bytes_eq name e.1.name) (knowledge n).config.tables ≡ false

-- The node is the origin of the set, and no open transaction has written the table.
pub record Adds (p : Place) (n : Node) (d : Deed) : Type 0 where
  pub table : Comes n d
  pub rows : d.rows ≡ (table.name, standing_rows p table.name) ∷ []
  pub leads : is_origin n.id table.set_id (knowledge n).config ≡ true
  pub free : writer_of (table.name ∷ []) p ≡ None

-- The node knows the set, and is not its origin.
pub record Follows (n : Node) (d : Deed) : Type 0 where
  pub table : Comes n d
  pub rows : d.rows ≡ []
  pub known : is_some (entry_at table.set_id (knowledge n).config.sets) ≡ true
  pub other : is_owner n.id table.set_id (knowledge n).config ≡ false

-- A set ends, by an event of the node or of another one.
pub record Drops (d : Deed) : Type 0 where
  pub set_id : ℕ
  pub event : Event
  pub met : met_by d.doing ≡ Some event
  pub body : event.body ≡ DropSet set_id
  pub rows : d.rows ≡ []

-- what a node of a database does
pub data Fit (p : Place) (n : Node) (d : Deed) : Type 0 where
  Keeps : d.rows ≡ [] → IsKept (knowledge n).config (learned n.id d.doing (knowledge n)).config → Fit p n d
  CreatesSet : Creates n d → Fit p n d
  AddsTable : Adds p n d → Fit p n d
  FollowsTable : Follows n d → Fit p n d
  DropsSet : Drops d → Fit p n d

-- a new node has done nothing, knows its cluster, and is the origin of no set in it
pub record IsFirst (n : Node) : Type 0 where
  pub deeds : n.deeds ≡ []
  pub whole : IsWhole n.id n.given.config
  pub leads : (set : ℕ) → is_owner n.id set n.given.config ≡ false

-- The table is in a set of which the node of this id is not the origin, nor was it before the set ended.
pub record IsOfOther (own : ℕ) (c : Config) (table : List ℕ) : Type 0 where
  pub entry : ℕ × TableRow
  pub among : IsAmong entry c.tables
  pub named : entry.1.name ≡ table
  pub other : is_owner own entry.1.set_id c ≡ false

-- rows that are brought are of such tables
abbrev pub AreOfOthers : ℕ → Config → Named Rows → Type 0
AreOfOthers own c rows = AllByRecursion (λ r. IsOfOther own c r.0) rows

-- actions that are logged are on such tables
abbrev pub LogOthers : ℕ → Config → List Logged → Type 0
LogOthers own c logs = AllByRecursion (λ l. IsOfOther own c l.action.table) logs

-- It is done as the database is now: behind the actions that were drawn, and with the snapshot of now. What it logs is
-- on tables of sets of other nodes.
pub record IsDoneNow (p : Place) (n : Node) (d : Deed) : Type 0 where
  pub first : d.first ≡ p.numbers.next
  pub taken : (e : Event) → d.doing ≡ Emits e → e.taken ≡ taken p
  pub logs : LogOthers n.id (knowledge n).config d.logs

-- the deeds of one commit, the newest first, each behind the ones before it
abbrev pub AllDone : Place → Node → List Deed → Type 0
AllDone p n [] = Unit {0}
AllDone p n (d ∷ ds) = AllDone p n ds × IsDoneNow p (with_deeds ds n) d × Fit p (with_deeds ds n) d

-- the rows that all these deeds bring to a node which then knows this are of such tables
abbrev pub BringOthers : ℕ → Config → List Deed → Type 0
BringOthers own c ds = AllByRecursion (λ d. AreOfOthers own c (brought_in d.doing).rows) ds

-- A commit of a database: its node does these things, and fills only tables of sets of other nodes; or it becomes a
-- node.
pub data IsFit (c : Commit) (p : Place) : Type 0 where
  Does : (n : Node) → p.node ≡ Some n → c.becomes ≡ None → AllDone p n c.deeds →
      BringOthers n.id (knowledge (with_deeds c.deeds n)).config c.deeds → IsFit c p
  Becomes : (n : Node) → p.node ≡ None → c.becomes ≡ Some n → c.deeds ≡ [] → IsFirst n → IsFit c p

-- and what it stores is within the limit
abbrev pub MayStand : Commit → Place → Type 0
MayStand c p = IsWithin c p × IsFit c p
