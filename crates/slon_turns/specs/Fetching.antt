-- What the turn of a node comes to that brings something with an event, at its database and at that of the provider.
use Rattle.std.specs.Prelude.{◌≡◌, ◌<◌, ◌||◌, true, ℕ, List, get_or, length, set, is_some, Some, Result}
use Rattle.std.specs.Str.{bytes_eq}
use Rattle.slon_base.specs.Keeper.{Kept}
use Rattle.slon_base.specs.declared.fault.Halt.{Halt as HaltOf}
use Rattle.slon_base.specs.declared.keeper.Keeper.{Ghosts}
use Rattle.slon_model.specs.declared.reply.Refusal.{Refusal}
use Rattle.slon_model.specs.declared.reply.Refusal.TheVariants as refused
use Rattle.slon_model.specs.declared.reply.Reply.{Reply}
use Rattle.slon_model.specs.declared.reply.Reply.TheVariants.{Refused}
use Rattle.slon_model.specs.Names.{Named}
use Rattle.slon_model.specs.Deeds.{Node}
use Rattle.slon_model.specs.Place.{Place, fallen}
use Rattle.slon_model.specs.Sessions.{World, bind, seat}
use Rattle.slon_model.specs.Turns.{at_node}
use Rattle.slon_model.specs.World.{is_of}
use Rattle.event_store.specs.declared.event.Event.{Event}
use Rattle.event_store.specs.Seen.{seen_event}
use Rattle.app_store.specs.Base.{Base}
use Rattle.app_store.specs.Fits.{Fits, Ready}
use Rattle.node_store.specs.Acting.{own_id}
use Rattle.node_store.specs.Joining.{Pair}
use Rattle.remote_worker.specs.Fetching.{fetched}
use Rattle.remote_worker.specs.Working.{seen_copying}
use Rattle.slonik_exec.specs.declared.databases.Named.{Named as NamedDatabase}
use Rattle.slonik_exec.specs.declared.membership.Spots.{Spots}
use Rattle.slonik_exec.specs.Databases.{AreReady, bases_of, told_by}
use Rattle.slonik_exec.specs.Executing.{Comes}
use Rattle.slonik_exec.specs.Stored.{Couple, couple_of, pair_of}
use Rattle.slonik_exec.specs.Turning.{SitsOn}
use Rattle.slon_turns.specs.declared.fetching.Trip.{Trip}
use Rattle.slon_turns.specs.declared.held.Held.{Held}
use Rattle.slon_turns.specs.Applying.{Post, PostFits, WorksHere, end_at, found_from, left_in, seat_in}
use Rattle.slon_turns.specs.Holding.{Holds, IsUpIn, Keeps}
use Rattle.slon_turns.specs.Planning.{Reaches, TookUp}
use Rattle.slon_turns.specs.Polling.{CanFall, RunsBetween, Waits}
use Rattle.slon_turns.specs.Working.{CanTurn, Due, Goal, stated_turn}

-- what a turn aims at that brings something
abbrev pub goal_of : Trip → Goal
goal_of a = record { aim = a.aim; origin = a.taken.origin }

-- The places of both databases agree with them; the provider is up.
pub record Visit (a : Trip) (old : Couple) (held : Held) : Type 0 where
  pub post : Post
  pub aimed : post.goal ≡ goal_of a
  pub event : Event
  pub provider : Place
  pub node : Node
  pub named : post.name ≡ old.names.from
  pub fits : PostFits post (old.bases.from, held)
  pub took : TookUp post a.taken held.queue event
  pub ready : Ready provider old.bases.to
  pub is : provider.node ≡ Some node
  pub id : node.id ≡ a.copying.provider

-- what the turn comes to then
abbrev pub due_from : {a : Trip} {old : Couple} {held : Held} → Visit a old held → Result Due Refusal
due_from {a} {old} v =
    bind (fetched (seen_copying a.copying) (seen_event v.event) (seat_in v.post) (seat old.names.to v.provider v.node))
    (end_at v.post v.event)

-- All is done at the database of the node, and that of the provider is as it was; or the store of the provider failed,
-- and the other one is as it was.
pub data WorksBetween (s : Post) (provider : List ℕ × Place) (due : Result Due Refusal) (reply : Reply)
    (new : Pair) (held : Held) : Type 0 where
  ByOwn : WorksHere s due reply (new.from, held) → Fits provider.1 new.to →
      WorksBetween s provider due reply new held
  ByProvider : (count : ℕ) → reply ≡ Refused (refused.Fault provider.0 count) → CanFall count provider.1 →
      Fits (fallen count provider.1) new.to → Fits s.place new.from → Holds s.name s.memory held →
      WorksBetween s provider due reply new held

abbrev pub BringsTo : Trip → Couple → Held → Reply → Pair → Held → Type 0
BringsTo a old held reply new left =
    (v : Visit a old held) → CanTurn (due_from v) →
    WorksBetween v.post (old.names.to, v.provider) (due_from v) reply new left

-- ---- at two places of a list

-- The databases at two places are up and nodes.
pub record AreVisiting {K : Type 0} {g : Ghosts K} (databases : List (NamedDatabase K g)) (at : Spots) : Type 0 where
  pub inside : at.from < length databases
  pub other : at.to < length databases
  pub apart : at.from ≡ at.to → ⊥
  pub up : (d : NamedDatabase K g) → d ≡ get_or databases at.from d → d.database.state.up ≡ true
  pub node : (d : NamedDatabase K g) → d ≡ get_or databases at.from d → is_some d.database.state.node.identity ≡ true
  pub provider : (d : NamedDatabase K g) → d ≡ get_or databases at.to d → d.database.state.up ≡ true
  pub other_node : (d : NamedDatabase K g) → d ≡ get_or databases at.to d →
      is_some d.database.state.node.identity ≡ true

-- these two were changed so
pub record BroughtAt {K : Type 0} {g : Ghosts K} (kept : K → Kept) (by : Trip × Spots)
    (old : List (NamedDatabase K g) × Held) (reply : Reply) (new : List (NamedDatabase K g) × Held) : Type 0 where
  pub own_old : NamedDatabase K g
  pub own_new : NamedDatabase K g
  pub server_old : NamedDatabase K g
  pub server_new : NamedDatabase K g
  pub own_held : own_old ≡ get_or old.0 by.1.from own_old
  pub server_held : server_old ≡ get_or old.0 by.1.to server_old
  pub own_name : own_new.name ≡ own_old.name
  pub server_name : server_new.name ≡ server_old.name
  pub is : new.0 ≡ set (set old.0 by.1.from own_new) by.1.to server_new
  pub runs : RunsBetween (couple_of kept own_old server_old) reply (pair_of kept own_new server_new)
  pub brings : BringsTo by.0 (couple_of kept own_old server_old) old.1 reply (pair_of kept own_new server_new) new.1

-- ---- on all databases of a session

-- the database at an index is the node of this id
abbrev pub IsOwnAt : {K : Type 0} {g : Ghosts K} → List (NamedDatabase K g) → ℕ → ℕ → Type 0
IsOwnAt {K} {g} databases index node =
    (d : NamedDatabase K g) → d ≡ get_or databases index d → own_id d.database.state.node.identity ≡ node

-- the node of a database that has its turn
abbrev pub post_of : {node : ℕ} {w : World} {name : List ℕ} → Goal → SitsOn node w name → Post
post_of {w = w} {name} goal sits =
    record { goal = goal; name = name; place = sits.place; node = sits.own; memory = w.memory }

-- A node on that errand, which can reach the provider.
pub record Sent (a : Trip) (w : World) (name : List ℕ) (held : Held) : Type 0 where
  pub id : ℕ
  pub sits : SitsOn id w name
  pub holds : Holds name w.memory held
  pub event : Event
  pub took : TookUp (post_of (goal_of a) sits) a.taken held.queue event
  pub reaches : Reaches (post_of (goal_of a) sits) (a.copying.provider)

abbrev pub sent_post : {a : Trip} {w : World} {name : List ℕ} {held : Held} → Sent a w name held → Post
sent_post {a} s = post_of (goal_of a) s.sits

-- what the turn comes to then
abbrev pub due_sent : {a : Trip} {w : World} {name : List ℕ} {held : Held} → Sent a w name held → Result Due Refusal
due_sent {a} {w} s =
    let p = sent_post s in
    bind (found_from (seen_copying a.copying) w.memory (seat_in p) (seen_event s.event)
    (at_node (a.copying.provider) w)) (end_at p s.event)

-- what comes of it at all databases, and at what the node holds
pub record Delivers {a : Trip} {w : World} {name : List ℕ} {held : Held} (s : Sent a w name held)
    (reply : Reply) (new : Named Base) (left : Held) : Type 0 where
  pub comes : Comes w (stated_turn (due_sent s)) reply new
  pub own : (other : List ℕ) (halt : HaltOf) → told_by reply ≡ Some (other, halt) →
      (bytes_eq other name || is_of other (at_node (a.copying.provider) w)) ≡ true
  pub waits : Waits name (left_in (sent_post s) (due_sent s) reply) left.queue
  pub keeps : IsUpIn name new → Keeps name (left_in (sent_post s) (due_sent s) reply) left.fetches

abbrev pub BringsFrom : {K : Type 0} {g : Ghosts K} → (K → Kept) → Trip → ℕ →
    List (NamedDatabase K g) × Held → Reply → List (NamedDatabase K g) × Held → Type 0
BringsFrom {K} {g} kept a index old reply new =
    (w : World) (d : NamedDatabase K g) → AreReady w (bases_of kept old.0) → d ≡ get_or old.0 index d →
    (s : Sent a w d.name old.1) → CanTurn (due_sent s) → Delivers s reply (bases_of kept new.0) new.1
