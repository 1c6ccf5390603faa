-- Statements about nodes and paths: INIT CLUSTER, STORE NODE, DROP NODE, STORE PATH, DROP PATH; and SYNC.
use Rattle.std.specs.Prelude.{ℕ, ◌==◌, ◌&&◌, ◌||◌, not, is_some, Bool, false, List, [], ◌∷◌, filter_map, find, Option}
use Rattle.std.specs.Prelude.{Some, None, Result, Ok, option_map, unwrap_or}
use Rattle.std.specs.List.{list_any}
use Rattle.slon_model.specs.declared.reply.Answer.TheVariants.{Done}
use Rattle.slon_model.specs.declared.reply.Refusal.{Refusal}
use Rattle.slon_model.specs.declared.reply.Refusal.TheVariants as refused
use Rattle.slon_model.specs.Maps.{entry_at}
use Rattle.node_rows.specs.declared.rows.NodeRow.{NodeRow}
use Rattle.node_rows.specs.declared.rows.SetRow.{SetRow}
use Rattle.node_rows.specs.declared.rows.Subscription.{Subscription}
use Rattle.node_rows.specs.declared.body.Body.TheVariants.{Sync, StoreNode, DropNode, StorePath, DropPath}
use Rattle.slon_model.specs.Config.{Config, has_path, is_live, receivers}
use Rattle.slon_model.specs.Deeds.{Node, knowledge, with_deeds, held, first_knowledge, given_to}
use Rattle.slon_model.specs.Place.{node_id}
use Rattle.slon_model.specs.Sessions.{World, Running, Seat, Stated, Commit, bind, when, checked, tells}
use Rattle.slon_model.specs.Reaching.{database_of_line, reach, any_down, down_among, known_somewhere, commit_of}
use Rattle.slon_model.specs.Reaching.{emitting}

abbrev pub comment_of : Option (List ℕ) → List ℕ
comment_of comment = unwrap_or comment []

-- 43: the node that a database is
abbrev pub already : Option ℕ → Option Refusal
already node = option_map refused.AlreadyNode node

abbrev pub first_id : List ℕ → Option ℕ
first_id [] = None
first_id (id ∷ more) = Some id

abbrev pub first_node : World → Option ℕ
first_node w = first_id (filter_map (λ e. node_id e.1) w.places)

-- a database becomes a node
abbrev pub becoming : List ℕ → Node → Commit
becoming name n = record { name = name; becomes = Some n; deeds = [] }

-- ---- INIT CLUSTER

-- the first node of a cluster
abbrev pub first_of_cluster : ℕ → List ℕ → Running → Node
first_of_cluster id comment run =
    record { id = id; cluster = run.cluster; given = first_knowledge id comment; events = []; deeds = [] }

-- 45, 17, 16 of any database, 43 some database is a node
abbrev pub init_cluster : ℕ → Option (List ℕ) → Running → World → Result Stated Refusal
init_cluster id comment run w =
    bind (database_of_line run id w) (λ e. checked (down_among w.places ∷ already (first_node w) ∷ [])
    (record { answer = Done; commits = becoming e.0 (first_of_cluster id (comment_of comment) run) ∷ [] }))

-- ---- STORE NODE

-- what the new node is, by what the event node knows and holds after the event
abbrev pub joining : ℕ → Node → Running → Node
joining id n run =
    record { id = id; cluster = run.cluster; given = given_to id n.id (knowledge n); events = held n; deeds = [] }

abbrev pub stored_by : Seat → List ℕ → ℕ → List ℕ → Running → Stated
stored_by s name id comment run =
    let emits = tells (StoreNode id comment) ∷ [] in
    let commit = commit_of s emits in
    record {
      answer = (emitting s emits).answer;
      commits = commit ∷ becoming name (joining id (with_deeds commit.deeds s.node) run) ∷ [];
    }

-- reach the event node; 45, 17, 16 of the new one; 43; any 16; 18
abbrev pub store_node : ℕ → ℕ → Option (List ℕ) → Running → World → Result Stated Refusal
store_node id event_node comment run w =
    bind (reach run event_node w) (λ s. bind (database_of_line run id w) (λ e.
    checked (already (node_id e.1)
    ∷ any_down w
    ∷ when (known_somewhere (λ c. is_some (entry_at id c.nodes)) w) (refused.IdUsed id) ∷ [])
    (stored_by s e.0 id (comment_of comment) run)))

-- ---- DROP NODE

-- the subscription is of the node: it receives the set, or another node has the set from it
abbrev pub is_feed_of : ℕ → ℕ × Subscription → Bool
is_feed_of node e = e.0 == node || e.1.provider == node

-- the set is live, and the node is its origin, or a subscription to it is of the node
abbrev pub uses : ℕ → Config → ℕ × SetRow → Bool
uses node c e = e.1.live && (e.1.origin == node || list_any (is_feed_of node) (receivers e.0 c))

-- the first such set
abbrev pub set_used_by : ℕ → Config → Option ℕ
set_used_by node c = option_map (λ e. e.0) (find (uses node c) c.sets)

-- reach the event node; 78; 44 the node is not live there; 76 the first set that the node has a part in
abbrev pub drop_node : ℕ → ℕ → Running → World → Result Stated Refusal
drop_node id event_node run w =
    bind (reach run event_node w) (λ s.
    checked (when (id == event_node) (refused.SameNode id)
    ∷ when (not (is_live id s.known.config)) (refused.NoNode id)
    ∷ option_map refused.StillUsed (set_used_by id s.known.config) ∷ [])
    (emitting s (tells (DropNode id) ∷ [])))

-- ---- paths

abbrev pub is_dropped : Option NodeRow → Bool
is_dropped None = false
is_dropped (Some row) = not row.live

-- STORE PATH: reach the client; 78; 44 the server is dropped there
abbrev pub store_path : ℕ → ℕ → List ℕ → Running → World → Result Stated Refusal
store_path server client conninfo run w =
    bind (reach run client w) (λ s.
    checked (when (client == server) (refused.SameNode client)
    ∷ when (is_dropped (entry_at server s.known.config.nodes)) (refused.NoNode server) ∷ [])
    (emitting s (tells (StorePath server client conninfo) ∷ [])))

-- DROP PATH: reach the client; 75 there is no such path
abbrev pub drop_path : ℕ → ℕ → Running → World → Result Stated Refusal
drop_path server client run w =
    bind (reach run client w) (λ s.
    checked (when (not (has_path client server s.known.config)) (refused.NoPath server) ∷ [])
    (emitting s (tells (DropPath server client) ∷ [])))

-- ---- SYNC

-- the node emits a SYNC
abbrev pub synced : Seat → Stated
synced s = emitting s (tells Sync ∷ [])

-- reach the node
abbrev pub sync_node : ℕ → Running → World → Result Stated Refusal
sync_node id run w = bind (reach run id w) (λ s. Ok (synced s))
