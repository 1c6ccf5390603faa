-- The laws of what nodes hold of one another's streams, in every session that a legal history leads to.
use Rattle.std.specs.Prelude.{false}
use Rattle.stream_laws.specs.Making.{OfEnd}
use Rattle.std.specs.Prelude.{◌≡◌, ℕ, suc, ◌≤◌, ◌<◌, true, List, ◌∷◌, ◌++◌, length, Option, Some, Ok}
use Rattle.node_rows.specs.declared.rows.SetRow.{SetRow}
use Rattle.node_rows.specs.declared.body.Body.{Body}
use Rattle.node_rows.specs.declared.body.Body.TheVariants.{StoreSet, DropSet, SetAddTable}
use Rattle.slon_model.specs.Names.{find_named}
use Rattle.slon_model.specs.Maps.{Map, entry_at, number_at}
use Rattle.slon_model.specs.Events.{Event}
use Rattle.slon_model.specs.Deeds.{Node, knowledge, stream, held, progress, told_of}
use Rattle.slon_model.specs.World.{World, start, Happening, Leads}
use Rattle.slon_model.specs.Polls.{Poll, polled}
use Rattle.stream_laws.specs.Nodes.{IsAmong, node_in, IsEvent, WaitsAt}
use Rattle.stream_laws.specs.Applied.{applied_events, HasApplied}
use Rattle.stream_laws.specs.Making.{Mark, OfSet, tells_of, has_mark, IsMade, is_emitted, IsMet, IsMadeBy}

-- P holds of each session that a legal history leads to
abbrev pub HoldsOfSessions : (World → Type 0) → Type 0
HoldsOfSessions P = (limit : ℕ) (history : List Happening) (w : World) → Leads (start limit) history w → P w

-- the node that the database of this name is
abbrev pub node_of : World → List ℕ → Option Node
node_of w name = node_in (find_named name w.places)

-- P holds of each node of a session
abbrev pub OfEachNode : World → (Node → Type 0) → Type 0
OfEachNode w P = (name : List ℕ) (n : Node) → node_of w name ≡ Some n → P n

-- ---- events

-- an event that a node holds, or one that waits at a node, is one of the stream of its origin
pub record HaveOrigins (w : World) : Type 0 where
  pub holds : OfEachNode w (λ n. (e : Event) → IsAmong e (held n) → IsEvent (node_of w) e)
  pub waits : (queue : List ℕ × Map (List Event)) → IsAmong queue w.memory.queues →
      (line : ℕ × List Event) → IsAmong line queue.1 → (e : Event) → IsAmong e line.1 → IsEvent (node_of w) e

abbrev pub EventsAreTheStream : Type 0
EventsAreTheStream = HoldsOfSessions HaveOrigins

-- ---- numbers

-- An event that a node emitted behind n others has the number n + 1, and the node as its origin; and the node is as far
-- in its own stream as that is long. Of every stream a node has deleted no more than it has had, and has had no more
-- than there is.
pub record AreInOrder (w : World) : Type 0 where
  pub numbers : OfEachNode w (λ n. (later earlier : List Event) (e : Event) → stream n ≡ later ++ e ∷ earlier →
      (e.number ≡ suc (length earlier)) × (e.origin ≡ n.id))
  pub own : OfEachNode w (λ n. progress n.id (knowledge n) ≡ length (stream n))
  pub others : OfEachNode w (λ n. OfEachNode w (λ x.
      (number_at x.id (knowledge n).low ≤ progress x.id (knowledge n))
      × (progress x.id (knowledge n) ≤ length (stream x))))

abbrev pub StreamsAreNumbered : Type 0
StreamsAreNumbered = HoldsOfSessions AreInOrder

-- ---- events that are applied

-- a node applies each event of another stream once and in order, and leaves none out
pub record AreApplied (w : World) : Type 0 where
  pub once : OfEachNode w (λ n. HasApplied n.id n.given.progress (knowledge n).progress (applied_events n))
  pub events : OfEachNode w (λ n. (e : Event) → IsAmong e (applied_events n) → IsEvent (node_of w) e)

abbrev pub EventsAreAppliedOnce : Type 0
EventsAreAppliedOnce = HoldsOfSessions AreApplied

-- ---- confirmations

-- what a node was told of another one, at any origin, is no more than that one has done
abbrev pub AreBehind : World → Type 0
AreBehind w =
    OfEachNode w (λ n. OfEachNode w (λ r. (x : ℕ) → told_of n.id x r.id (knowledge n) ≤ progress x (knowledge r)))

abbrev pub ConfirmationsAreBehind : Type 0
ConfirmationsAreBehind = HoldsOfSessions AreBehind

-- ---- nodes

-- two databases that are nodes of one id are one database
abbrev pub AreDistinct : World → Type 0
AreDistinct w =
    (a b : List ℕ) (m n : Node) → node_of w a ≡ Some m → node_of w b ≡ Some n → m.id ≡ n.id → a ≡ b

abbrev pub NodesAreDistinct : Type 0
NodesAreDistinct = HoldsOfSessions AreDistinct

-- ---- what events make known

-- an event of the node with a lower number than this one makes the set known
abbrev pub StoredBefore : Node → ℕ → ℕ → Type 0
StoredBefore n number set =
    (e : Event) × IsAmong e (stream n) × (e.number < number) × (tells_of e.body (OfSet set) ≡ true)

-- the node has not emitted before the event of this number that the set has ended
abbrev pub LastedBefore : Node → ℕ → ℕ → Type 0
LastedBefore n number set =
    (e : Event) → IsAmong e (stream n) → e.number < number → tells_of e.body (OfEnd set) ≡ false

-- What an event of the node with this number may be, by its body: a set begins at the node itself, and a table comes
-- into a set that began there before and has not ended; a set ends that began there before. All others are of kinds
-- that are emitted.
abbrev pub IsProper : Node → ℕ → Body → Type 0
IsProper n number (StoreSet set origin comment) = origin ≡ n.id
IsProper n number (SetAddTable set table name comment) = StoredBefore n number set × LastedBefore n number set
IsProper n number (DropSet set) = StoredBefore n number set
IsProper n number others = is_emitted others ≡ true

-- A set, a table, that a table has a name, and that a set has ended, is made known by one event of one node, and a node
-- knows it that is as far as that event, and no other.
pub record AreMadeOnce (w : World) : Type 0 where
  pub once : (mark : Mark) (x y : IsMade (node_of w) mark) → (x.name ≡ y.name) × (x.event.number ≡ y.event.number)
  pub met : OfEachNode w (λ n. (mark : Mark) → has_mark mark (knowledge n).config ≡ true →
      IsMet (node_of w) (knowledge n).progress mark)
  pub known : OfEachNode w (λ n. (mark : Mark) → IsMet (node_of w) (knowledge n).progress mark →
      has_mark mark (knowledge n).config ≡ true)
  -- the origin of a set that a node knows is the node that made it known
  pub origins : OfEachNode w (λ n. (set : ℕ) (row : SetRow) → entry_at set (knowledge n).config.sets ≡ Some row →
      IsMadeBy (node_of w) (OfSet set) row.origin)
  pub bodies : OfEachNode w (λ n. (e : Event) → IsAmong e (stream n) → IsProper n e.number e.body)
  -- the origin of an event that waits at a node, or that a poll brings it, is known there
  pub waits : (queue : List ℕ × Map (List Event)) → IsAmong queue w.memory.queues →
      (line : ℕ × List Event) → IsAmong line queue.1 → (e : Event) → IsAmong e line.1 → WaitsAt (node_of w) queue.0 e
  pub polls : (node server : ℕ) (b : Poll) → polled node server w ≡ Ok b → (e : Event) → IsAmong e b.events →
      WaitsAt (node_of w) b.seat.name e

abbrev pub MarksAreMadeOnce : Type 0
MarksAreMadeOnce = HoldsOfSessions AreMadeOnce
