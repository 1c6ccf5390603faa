-- What a node knows of the cluster, and what an event changes in it.
use Rattle.std.specs.Prelude.{ℕ, ◌==◌, ◌&&◌, not, if◌then◌else◌, is_some, is_none, Bool, true, false, List, [], ◌∷◌}
use Rattle.std.specs.Prelude.{map}
use Rattle.std.specs.Prelude.{filter, find, Option, Some, None, unwrap_or, option_map}
use Rattle.std.specs.Str.{bytes_eq}
use Rattle.slon_model.specs.Maps.{Map, Map2, entry_at, with_entry, without_entry, ids, row_at, pair_at, with_pair}
use Rattle.slon_model.specs.Maps.{without_pair}
use Rattle.node_rows.specs.declared.rows.NodeRow.{NodeRow}
use Rattle.node_rows.specs.declared.rows.SetRow.{SetRow}
use Rattle.node_rows.specs.declared.rows.TableRow.{TableRow}
use Rattle.node_rows.specs.declared.rows.Subscription.{Subscription}
use Rattle.node_rows.specs.declared.rows.Fence.{Fence}
use Rattle.node_rows.specs.declared.body.Body.{Body}
use Rattle.node_rows.specs.declared.body.Body.TheVariants.{Sync, StoreNode, DropNode, StorePath, DropPath, StoreSet}
use Rattle.node_rows.specs.declared.body.Body.TheVariants.{DropSet, SetAddTable, SubscribeSet, EnableSubscription}
use Rattle.node_rows.specs.declared.body.Body.TheVariants.{UnsubscribeSet, MoveSet, AcceptSet, FailoverSet}
use Rattle.slon_model.specs.Events.{Event, Feed, Taken}

pub record Config : Type 0 where
  pub nodes : Map NodeRow
  -- by client and server
  pub paths : Map2 (List ℕ)
  pub sets : Map SetRow
  pub tables : Map TableRow
  -- by set and receiver
  pub subscriptions : Map2 Subscription
  -- by failed node
  pub fences : Map Fence

-- ---- reading it

abbrev pub is_live_row : Option NodeRow → Bool
is_live_row None = false
is_live_row (Some row) = row.live

abbrev pub is_live : ℕ → Config → Bool
is_live node c = is_live_row (entry_at node c.nodes)

-- live and unfenced
abbrev pub is_known : ℕ → Config → Bool
is_known node c = is_live node c && is_none (entry_at node c.fences)

abbrev pub live_nodes : Config → List ℕ
live_nodes c = filter (λ node. is_live node c) (ids c.nodes)

abbrev pub known : Config → List ℕ
known c = filter (λ node. is_known node c) (ids c.nodes)

abbrev pub has_path : ℕ → ℕ → Config → Bool
has_path client server c = is_some (pair_at client server c.paths)

abbrev pub live_set : Option SetRow → Option SetRow
live_set None = None
live_set (Some row) = if row.live then Some row else None

-- the set, if it is live
abbrev pub set_row : ℕ → Config → Option SetRow
set_row set c = live_set (entry_at set c.sets)

abbrev pub leads_row : ℕ → Option SetRow → Bool
leads_row own None = false
leads_row own (Some row) = row.origin == own

-- the node is the origin of this live set
abbrev pub is_origin : ℕ → ℕ → Config → Bool
is_origin own set c = leads_row own (set_row set c)

abbrev pub is_locked : ℕ → Config → Bool
is_locked set c = unwrap_or (option_map (λ row. row.locked) (set_row set c)) false

abbrev pub era_of : ℕ → Config → ℕ
era_of set c = unwrap_or (option_map (λ row. row.era) (set_row set c)) 0

abbrev pub is_table_of : ℕ → ℕ × TableRow → Bool
is_table_of set e = e.1.live && e.1.set_id == set

-- the tables of a set, ascending by their ids
abbrev pub tables_of : ℕ → Config → List (ℕ × TableRow)
tables_of set c = filter (is_table_of set) c.tables

abbrev pub names_of : ℕ → Config → List (List ℕ)
names_of set c = map (λ e. e.1.name) (tables_of set c)

-- the live table of this name, of a live set, with its id
abbrev pub member_of : List ℕ → Config → Option (ℕ × TableRow)
member_of table c = find (λ e. e.1.live && bytes_eq table e.1.name && is_some (set_row e.1.set_id c)) c.tables

-- the live set that a table of this name is in
abbrev pub set_of : List ℕ → Config → Option ℕ
set_of table c = option_map (λ e. e.1.set_id) (member_of table c)

-- the receivers of a set with their rows, ascending
abbrev pub receivers : ℕ → Config → Map Subscription
receivers set c = row_at set c.subscriptions

abbrev pub forwards : ℕ → ℕ → Config → Bool
forwards set node c = unwrap_or (option_map (λ s. s.forward) (pair_at set node c.subscriptions)) false

-- ---- the listen network

-- A node hears an origin at the origin alone, where it has a path from it and no fence for it; else at every other
-- server that it has a path from.
abbrev pub hears_by : Bool → ℕ → ℕ → ℕ → Config → Bool
hears_by true own server origin c = server == origin
hears_by false own server origin c = not (server == origin) && has_path own server c

abbrev pub hears : ℕ → ℕ → ℕ → Config → Bool
hears own server origin c =
    hears_by (has_path own origin c && is_none (entry_at origin c.fences)) own server origin c

-- the live nodes of which a node hears at a server
abbrev pub heard_in : ℕ → ℕ → Config → List ℕ
heard_in own server c = filter (λ origin. not (origin == own) && hears own server origin c) (live_nodes c)

-- ---- an event changes it

-- a node that was dropped stays dropped
abbrev pub stored_node : ℕ → List ℕ → Map NodeRow → Map NodeRow
stored_node node comment nodes =
    with_entry node (record {
      live = unwrap_or (option_map (λ row. row.live) (entry_at node nodes)) true;
      comment = comment;
    }) nodes

abbrev pub dropped_node : ℕ → Map NodeRow → Map NodeRow
dropped_node node nodes =
    with_entry node (record {
      live = false;
      comment = unwrap_or (option_map (λ row. row.comment) (entry_at node nodes)) [];
    }) nodes

abbrev pub named_node : ℕ → Map NodeRow → Map NodeRow
named_node node nodes =
    if is_some (entry_at node nodes) then nodes else with_entry node (record { live = true; comment = [] }) nodes

abbrev pub changed_set : ℕ → (SetRow → SetRow) → Config → Config
changed_set set f c = record c { sets = map (λ e. if e.0 == set then (e.0, f e.1) else e) c.sets }

abbrev pub dropped_tables : ℕ → Map TableRow → Map TableRow
dropped_tables set tables = map (λ e. if e.1.set_id == set then (e.0, record e.1 { live = false }) else e) tables

abbrev pub fed : List Feed → Map Subscription
fed [] = []
fed (f ∷ fs) = with_entry f.0 (record { provider = f.1.0; forward = f.1.1; mark = 0 }) (fed fs)

abbrev pub enabled : ℕ → ℕ → ℕ → Map2 Subscription → Option Subscription → Map2 Subscription
enabled set receiver number subscriptions None = subscriptions
enabled set receiver number subscriptions (Some s) = with_pair set receiver (record s { mark = number }) subscriptions

-- a set gets another origin in another era, with other feeds
abbrev pub handed : ℕ → ℕ → ℕ → List Feed → Config → Config
handed set origin era feeds c =
    changed_set set (λ row. record row { origin = origin; era = era })
    (record c { subscriptions = with_entry set (fed feeds) c.subscriptions })

abbrev pub taken_over : ℕ → List Taken → Config → Config
taken_over backup [] c = c
taken_over backup (s ∷ more) c =
    if is_some (set_row s.0 c) then handed s.0 backup s.1.0 s.1.1 (taken_over backup more c)
    else taken_over backup more c

-- the change that the body of an event with this origin and number names
abbrev pub change_by : ℕ → ℕ → Body → Config → Config
change_by origin number Sync c = c
change_by origin number (StoreNode node comment) c = record c { nodes = stored_node node comment c.nodes }
change_by origin number (DropNode node) c = record c { nodes = dropped_node node c.nodes }
change_by origin number (StorePath server client conninfo) c =
    record c { paths = with_pair client server conninfo c.paths }
change_by origin number (DropPath server client) c = record c { paths = without_pair client server c.paths }
change_by origin number (StoreSet set by comment) c =
    let row : SetRow = record { origin = by; era = 1; locked = false; live = true; comment = comment } in
    record c { sets = with_entry set row c.sets }
change_by origin number (DropSet set) c =
    changed_set set (λ row. record row { live = false })
    (record c { tables = dropped_tables set c.tables; subscriptions = without_entry set c.subscriptions })
change_by origin number (SetAddTable set table name comment) c =
    let row : TableRow = record { set_id = set; name = name; live = true; comment = comment } in
    record c { tables = with_entry table row c.tables }
change_by origin number (SubscribeSet set provider receiver forward) c =
    let row : Subscription = record { provider = provider; forward = forward; mark = number } in
    record c { nodes = named_node receiver c.nodes; subscriptions = with_pair set receiver row c.subscriptions }
change_by origin number (EnableSubscription set provider receiver forward era) c =
    record c { subscriptions = enabled set receiver number c.subscriptions (pair_at set receiver c.subscriptions) }
change_by origin number (UnsubscribeSet set receiver) c =
    record c { subscriptions = without_pair set receiver c.subscriptions }
change_by origin number (MoveSet set old new era feeds) c =
    changed_set set (λ row. record row { locked = false }) (handed set new era feeds c)
change_by origin number (AcceptSet set old new era moved) c = c
change_by origin number (FailoverSet failed limit sets) c = taken_over origin sets c

abbrev pub change : Event → Config → Config
change e c = change_by e.origin e.number e.body c
