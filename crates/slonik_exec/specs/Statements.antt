-- What is due of statements at the node that they reached.
use Rattle.std.specs.Prelude.{◌≡◌, ◌==◌, ℕ, not, is_some, is_none, true, false, List, [], ◌∷◌, Option, Some, None}
use Rattle.std.specs.Prelude.{◌&&◌, option_map, Result, Ok}
use Rattle.std.specs.List.{list_any}
use Rattle.std.specs.Str.{bytes_eq}
use Rattle.slon_model.specs.declared.reply.Answer.TheVariants.{Done}
use Rattle.slon_model.specs.declared.reply.Reply.{Reply}
use Rattle.slon_model.specs.declared.reply.Refusal.{Refusal}
use Rattle.slon_model.specs.declared.reply.Refusal.TheVariants as refused
use Rattle.node_rows.specs.declared.body.Body.TheVariants.{DropNode, StorePath, DropPath, DropSet}
use Rattle.slon_model.specs.Maps.{entry_at}
use Rattle.slon_model.specs.Names.{find_named}
use Rattle.slon_model.specs.Config.{era_of, forwards, has_path, is_live, is_origin, set_row}
use Rattle.slon_model.specs.Deeds.{Node, knowledge}
use Rattle.slon_model.specs.Place.{Place}
use Rattle.slon_model.specs.Membership.{is_dropped, becoming, first_of_cluster, set_used_by}
use Rattle.slon_model.specs.Reaching.{emitting, known_somewhere, origin_checks, receiver_with}
use Rattle.slon_model.specs.Sessions.{World, Running, Seat, Stated, seat, when, checked, tells, writer_of}
use Rattle.slon_model.specs.Sets.{NewTable, adding}
use Rattle.slon_model.specs.Subscribing as subscribing
use Rattle.slon_model.specs.Subscribing.{all_tell, feed_bodies, told_bodies, is_active, is_below, is_provider}
use Rattle.slon_model.specs.Subscribing.{is_relayed, is_waiting}
use Rattle.app_store.specs.Base.{Base}
use Rattle.app_store.specs.Fits.{Ready}
use Rattle.node_store.specs.Acting.{NewNode}
use Rattle.slonik_exec.specs.declared.subscribing.NewFeed.{NewFeed}
use Rattle.slonik_exec.specs.Answering.{ComesAt}

abbrev pub path_stored : ℕ → ℕ → List ℕ → Seat → Result Stated Refusal
path_stored client server conninfo s =
    checked (when (client == server) (refused.SameNode client)
    ∷ when (is_dropped (entry_at server s.known.config.nodes)) (refused.NoNode server) ∷ [])
    (emitting s (tells (StorePath server client conninfo) ∷ []))

abbrev pub path_dropped : ℕ → ℕ → Seat → Result Stated Refusal
path_dropped client server s =
    checked (when (not (has_path client server s.known.config)) (refused.NoPath server) ∷ [])
    (emitting s (tells (DropPath server client) ∷ []))

-- ---- sets

abbrev pub set_dropped : ℕ → Seat → Result Stated Refusal
set_dropped set s = checked (origin_checks s set) (emitting s (tells (DropSet set) ∷ []))

-- what is checked of a table at the origin of its set, before other nodes are asked
abbrev pub set_checks : ℕ → List ℕ → Seat → List (Option Refusal)
set_checks set name s =
    when (is_none (set_row set s.known.config)) (refused.NoSet set)
    ∷ when (not (is_origin s.node.id set s.known.config)) (refused.NotOrigin set)
    ∷ option_map refused.HasReceivers (receiver_with (λ e. true) set s.known.config)
    ∷ when (is_none (find_named name s.place.tables)) (refused.NoTable name) ∷ []

-- and at all nodes
abbrev pub new_checks : ℕ → List ℕ → World → List (Option Refusal)
new_checks id name w =
    when (known_somewhere (λ c. is_some (entry_at id c.tables)) w) (refused.IdUsed id)
    ∷ when (known_somewhere (λ c. list_any (λ e. bytes_eq name e.1.name) c.tables) w) (refused.TableUsed name) ∷ []

-- the table comes into the set, unless an open transaction wrote it
abbrev pub table_added : NewTable → Seat → Result Stated Refusal
table_added t s =
    checked (option_map refused.Busy (writer_of (t.name ∷ []) s.place) ∷ []) (emitting s (adding s t ∷ []))

-- The node is the origin of the live set, and knows no table of the id or the name.
pub record IsAddable (n : Node) (t : NewTable) : Type 0 where
  pub live : is_none (set_row t.set_id (knowledge n).config) ≡ false
  pub leads : is_origin n.id t.set_id (knowledge n).config ≡ true
  pub fresh : is_some (entry_at t.id (knowledge n).config.tables) ≡ false
  pub free : list_any (λ e. bytes_eq t.name e.1.name) (knowledge n).config.tables ≡ false

abbrev pub AddsTable : List ℕ → NewTable → Base → Reply → Base → Type 0
AddsTable name t old reply new =
    (p : Place) (n : Node) → Ready p old → p.node ≡ Some n → IsAddable n t →
    ComesAt name p (table_added t (seat name p n)) reply new

-- ---- subscriptions

-- a subscription of a call, as the rules name it
abbrev pub feed_as : NewFeed → subscribing.NewFeed
feed_as f = record { set_id = f.set_id; provider = f.provider; receiver = f.receiver; forward = f.forward }

-- what is checked of the receiver among the receivers of the set
abbrev pub row_checks : Seat → subscribing.NewFeed → List (Option Refusal)
row_checks s f =
    when (is_waiting s f) (refused.NotActive f.receiver)
    ∷ when (is_provider s f) (refused.HasReceivers f.receiver)
    ∷ when (is_below s f) (refused.Loop f.set_id) ∷ []

-- what is checked of the provider, and of the receiver
abbrev pub source_checks : Seat → subscribing.NewFeed → List (Option Refusal)
source_checks s f =
    when (is_relayed s f && not (is_active s f.set_id f.provider)) (refused.NotActive f.provider)
    ∷ when (is_relayed s f && not (forwards f.set_id f.provider s.known.config)) (refused.NotForwarding f.provider)
    ∷ row_checks s f

-- what the owner of the set emits of a new subscription, in the era in which it knows the set
abbrev pub feed_said : subscribing.NewFeed → Seat → Stated
feed_said f s = emitting s (all_tell (feed_bodies (era_of f.set_id s.known.config) f))

-- and of one that may be there
abbrev pub told_said : subscribing.NewFeed → Seat → Stated
told_said f s = emitting s (all_tell (told_bodies f s.known.config))

-- ---- nodes

-- what is checked of a node before it is dropped
abbrev pub leaver_checks : ℕ → Seat → List (Option Refusal)
leaver_checks node s =
    when (not (is_live node s.known.config)) (refused.NoNode node)
    ∷ option_map refused.StillUsed (set_used_by node s.known.config) ∷ []

abbrev pub node_dropped : ℕ → ℕ → Seat → Result Stated Refusal
node_dropped node event_node s =
    checked (when (node == event_node) (refused.SameNode node) ∷ leaver_checks node s)
    (emitting s (tells (DropNode node) ∷ []))

-- A database that is no node becomes the first one of a cluster.
abbrev pub FoundsAt : List ℕ → NewNode → Base → Reply → Base → Type 0
FoundsAt name w old reply new =
    (p : Place) (run : Running) → Ready p old → p.node ≡ None → run.cluster ≡ w.cluster →
    ComesAt name p (Ok (record {
      answer = Done;
      commits = becoming name (first_of_cluster w.id w.comment run) ∷ [];
    })) reply new
