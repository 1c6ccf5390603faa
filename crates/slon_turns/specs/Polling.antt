-- What a poll comes to at the two databases that it concerns: that of the node that polls, and that of the server.
use Rattle.std.specs.Prelude.{◌≡◌, ℕ, List, [], ◌∷◌, map, not, Bool, true, false, Option, Some, None, Result, Ok}
use Rattle.slon_base.specs.Counts.{Rose}
use Rattle.slon_model.specs.declared.command.Delivery.{Delivery}
use Rattle.slon_model.specs.declared.reply.Answer.{Answer}
use Rattle.slon_model.specs.declared.reply.Answer.TheVariants.{Heard}
use Rattle.slon_model.specs.declared.reply.Answered.{Answered}
use Rattle.slon_model.specs.declared.reply.Answered.TheVariants.{Sure, InDoubt}
use Rattle.slon_model.specs.declared.reply.Refusal.{Refusal}
use Rattle.slon_model.specs.declared.reply.Refusal.TheVariants as refused
use Rattle.slon_model.specs.declared.reply.Reply.{Reply}
use Rattle.slon_model.specs.declared.reply.Reply.TheVariants.{Accepted, Refused}
use Rattle.slon_model.specs.Deeds.{Node}
use Rattle.slon_model.specs.Place.{Place, is_running, node_id, fallen}
use Rattle.slon_model.specs.Turns.{is_cut}
use Rattle.slon_model.specs.Config.{is_known}
use Rattle.slon_model.specs.Sessions.{Memory, Seat, Stated, bind, seat, when, checked}
use Rattle.slon_model.specs.Polls as polls
use Rattle.slon_model.specs.Polls.{queue_at, events_for, confirms_of, poll_of, poll_at, brings_nothing, stated_of}
use Rattle.slon_model.specs.Polls.{left_by}
use Rattle.event_store.specs.declared.queue.Queue.{Queue}
use Rattle.event_store.specs.Seen.{seen_event}
use Rattle.event_store.specs.Telling.{named}
use Rattle.app_store.specs.Base.{Base}
use Rattle.app_store.specs.Fits.{Fits, Ready}
use Rattle.node_store.specs.Acting.{Acts}
use Rattle.remote_listener.specs.declared.reading.Handed.{Handed}
use Rattle.remote_listener.specs.declared.listener.Polled.{Polled}
use Rattle.remote_listener.specs.Queues.{FitsQueue}
use Rattle.slonik_exec.specs.Answering.{Answers, ComesAt}
use Rattle.slonik_exec.specs.Stored.{Couple}
use Rattle.node_store.specs.Joining.{Pair}
use Rattle.slon_turns.specs.declared.polling.Listen.{Listen}

-- ---- what waits

-- the events that wait at the database of this name are those of the rules
abbrev pub Waits : List ℕ → Memory → Queue → Type 0
Waits name m queue = FitsQueue (queue_at name m) queue

-- what is in memory behind a poll with this reply: it gained what the poll brings, or is as it was
abbrev pub left_when : Delivery → Result polls.Poll Refusal → Reply → Memory → Memory
left_when delivery (Ok b) (Accepted answer) m = left_by delivery b m
left_when delivery due reply m = m

-- ---- at the node that polls

-- A refusal or one commit, as a statement comes to at one database; or an answer with no commit.
pub data GoesAt (name : List ℕ) (p : Place) (due : Result Stated Refusal) (reply : Reply) (new : Base) : Type 0 where
  Once : ComesAt name p due reply new → GoesAt name p due reply new
  Never : (answer : Answer) → due ≡ Ok (record { answer = answer; commits = [] }) → reply ≡ Accepted answer →
      Fits p new → GoesAt name p due reply new

-- A poll under the rules: the database of the node that polls, and what is in memory.
pub record Spot : Type 0 where
  pub delivery : Delivery
  pub name : List ℕ
  pub place : Place
  pub memory : Memory

pub record ListensAt (s : Spot) (due : Result polls.Poll Refusal) (reply : Reply) (new : Base) (queue : Queue) :
    Type 0 where
  pub goes : GoesAt s.name s.place (stated_of s.delivery due) reply new
  pub waits : Waits s.name (left_when s.delivery due reply s.memory) queue

-- The place of a spot agrees with a database, and what waits there with its queue; and it is this node.
pub record SpotFits (s : Spot) (n : Node) (old : Base) (queue : Queue) : Type 0 where
  pub ready : Ready s.place old
  pub is : s.place.node ≡ Some n
  pub waits : Waits s.name s.memory queue

-- what was polled is this, by the rules
pub record IsPolled (s : Spot) (n : Node) (l : Polled) (b : polls.Poll) : Type 0 where
  pub own : b.seat ≡ seat s.name s.place n
  pub events : map seen_event l.events ≡ b.events
  pub confirms : map named l.confirms ≡ b.confirms

-- from every place that fits: what is delivered
abbrev pub DeliversAt : Delivery → List ℕ → Polled → (Base × Queue) → Reply → (Base × Queue) → Type 0
DeliversAt delivery name l old reply new =
    (s : Spot) (n : Node) (b : polls.Poll) → s.name ≡ name → s.delivery ≡ delivery → SpotFits s n old.0 old.1 →
    IsPolled s n l b → ListensAt s (Ok b) reply new.0 new.1

-- what a server handed over is what it has for the node, by the rules
pub record IsHanded (s : Spot) (n : Node) (server : Seat) (h : Handed) : Type 0 where
  pub events : map seen_event h.events ≡ events_for s.memory (seat s.name s.place n) server
  pub rows : map named h.rows ≡ confirms_of server

-- what is new of that, unless there is nothing
abbrev pub brought : Spot → Node → Seat → Result polls.Poll Refusal
brought s n server =
    let b = poll_of s.memory (seat s.name s.place n) server in
    checked (when (brings_nothing b) refused.Nothing ∷ []) b

abbrev pub BringsAt : Delivery → List ℕ → Handed → (Base × Queue) → Reply → (Base × Queue) → Type 0
BringsAt delivery name h old reply new =
    (s : Spot) (n : Node) (server : Seat) → s.name ≡ name → s.delivery ≡ delivery → SpotFits s n old.0 old.1 →
    IsHanded s n server h → ListensAt s (brought s n server) reply new.0 new.1

-- A server knows the node, and handed over this; or it does not know it.
abbrev pub IsAnswer : Spot → Node → Seat → Option Handed → Type 0
IsAnswer s n server None = is_known n.id server.known.config ≡ false
IsAnswer s n server (Some h) = (is_known n.id server.known.config ≡ true) × IsHanded s n server h

-- 62, 60
abbrev pub brought_if : Spot → Node → Seat → Result polls.Poll Refusal
brought_if s n server =
    bind (checked (when (not (is_known n.id server.known.config)) (refused.NotKnown n.id) ∷ []) server) (brought s n)

-- The spot of a poll, and the seat of the server.
pub record Sides (l : Listen) (name : List ℕ) (asked : Option Handed) (old : Base × Queue) : Type 0 where
  pub spot : Spot
  pub node : Node
  pub server : Seat
  pub named : spot.name ≡ name
  pub delivery : spot.delivery ≡ l.delivery
  pub own : node.id ≡ l.node
  pub fits : SpotFits spot node old.0 old.1
  pub answer : IsAnswer spot node server asked

abbrev pub AnswersAt : Listen → List ℕ → Option Handed → (Base × Queue) → Reply → (Base × Queue) → Type 0
AnswersAt l name asked old reply new =
    (s : Sides l name asked old) → ListensAt s.spot (brought_if s.spot s.node s.server) reply new.0 new.1

-- what is answered to a delivery
abbrev pub heard_as : ℕ → ℕ → Bool → Answered
heard_as events confirms true = InDoubt (Heard events confirms)
heard_as events confirms false = Sure (Heard events confirms)

-- ---- at both

-- a database that is up can fail with a count that rose
abbrev pub CanFall : ℕ → Place → Type 0
CanFall count q = (is_running q.standing ≡ true) × Rose q.told count

-- What a poll comes to under the rules: all is done at the database of the node, and that of the server is as it was;
-- or the store of the server failed, and the other one is as it was.
pub data ListensBetween (s : Spot) (server : List ℕ × Place) (due : Result polls.Poll Refusal) (reply : Reply)
    (new : Pair) (queue : Queue) : Type 0 where
  AtOwn : ListensAt s due reply new.from queue → Fits server.1 new.to → ListensBetween s server due reply new queue
  AtServer : (count : ℕ) → reply ≡ Refused (refused.Fault server.0 count) → CanFall count server.1 →
      Fits (fallen count server.1) new.to → Fits s.place new.from → Waits s.name s.memory queue →
      ListensBetween s server due reply new queue

-- The places of both databases agree with them, and what is in memory with the poll.
pub record Meeting (l : Listen) (old : Couple) (queue : Queue) : Type 0 where
  pub spot : Spot
  pub node : Node
  pub server : Place
  pub named : spot.name ≡ old.names.from
  pub delivery : spot.delivery ≡ l.delivery
  pub fits : SpotFits spot node old.bases.from queue
  pub own : node.id ≡ l.node
  pub cut : is_cut l.node l.server spot.memory ≡ l.cut
  pub ready : Ready server old.bases.to
  pub id : node_id server ≡ Some l.server

abbrev pub due_in : {l : Listen} {old : Couple} {queue : Queue} → Meeting l old queue → Result polls.Poll Refusal
due_in {l} {old} m =
    poll_at l.server m.spot.memory (seat m.spot.name m.spot.place m.node) (Some (old.names.to, m.server))

abbrev pub ListensTo : Listen → Couple → Queue → Reply → Pair → Queue → Type 0
ListensTo l old queue reply new left =
    (m : Meeting l old queue) → ListensBetween m.spot (old.names.to, m.server) (due_in m) reply new left

-- over every store: what is told is told of one of the two, and the other one did not fail
pub data RunsBetween (old : Couple) (reply : Reply) (new : Pair) : Type 0 where
  OwnRuns : Answers old.names.from old.bases.from reply new.from → Acts None old.bases.to new.to →
      RunsBetween old reply new
  ServerRuns : Acts None old.bases.from new.from → Answers old.names.to old.bases.to reply new.to →
      RunsBetween old reply new
