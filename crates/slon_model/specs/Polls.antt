-- Polls: a node asks a server for the events and the confirmations that it lacks. What the server has of them is
-- delivered, once or twice, or lost on the way.
use Rattle.std.specs.Prelude.{ℕ, ◌==◌, ◌&&◌, ◌||◌, if◌then◌else◌, not, nat_lt, max, Bool, true, false, List, [], ◌∷◌}
use Rattle.std.specs.Prelude.{◌++◌, filter, flat_map, length, map, reverse, Option, Some, None, unwrap_or, Result}
use Rattle.std.specs.Prelude.{Ok, Err}
use Rattle.slon_model.specs.declared.command.Delivery.{Delivery}
use Rattle.slon_model.specs.declared.command.Delivery.TheVariants.{Once, Lost, Again}
use Rattle.slon_model.specs.declared.reply.Answer.TheVariants.{Heard, LostOnTheWay}
use Rattle.slon_model.specs.declared.reply.Refusal.{Refusal}
use Rattle.slon_model.specs.declared.reply.Refusal.TheVariants as refused
use Rattle.slon_model.specs.Names.{find_named, without}
use Rattle.slon_model.specs.Maps.{Map, Map2, entry_at, with_entry, row_at, number_at}
use Rattle.slon_model.specs.Events.{Event}
use Rattle.slon_model.specs.Config.{heard_in, is_known}
use Rattle.slon_model.specs.Deeds.{Hears, held, progress, told_progress}
use Rattle.slon_model.specs.Place.{Place, deed}
use Rattle.slon_model.specs.Sessions.{World, Memory, Commit, Stated, Outcome, Seat, bind, when, checked}
use Rattle.slon_model.specs.Turns.{at_node, seat_at, on_turn, is_cut, taken_turn}

-- ---- the events that wait

-- those of the node of a database, by their origins
abbrev pub queue_at : List ℕ → Memory → Map (List Event)
queue_at name m = unwrap_or (find_named name m.queues) []

abbrev pub line_of : ℕ → Map (List Event) → List Event
line_of origin queue = unwrap_or (entry_at origin queue) []

-- the number of the last event, or 0
abbrev pub last_number : List Event → ℕ
last_number [] = 0
last_number (e ∷ []) = e.number
last_number (e ∷ f ∷ es) = last_number (f ∷ es)

-- an event comes behind the others of its origin, unless it is among them
abbrev pub lined : Event → List Event → List Event
lined e es = if nat_lt (last_number es) e.number then es ++ e ∷ [] else es

abbrev pub queued : Event → Map (List Event) → Map (List Event)
queued e queue = with_entry e.origin (lined e (line_of e.origin queue)) queue

-- one event after the other
abbrev pub all_queued : List Event → Map (List Event) → Map (List Event)
all_queued [] queue = queue
all_queued (e ∷ es) queue = all_queued es (queued e queue)

abbrev pub with_queue : List ℕ → Map (List Event) → Memory → Memory
with_queue name queue m = record m { queues = (name, queue) ∷ without name m.queues }

-- ---- what a poll brings

-- how far a node and what waits there are in the stream of an origin
abbrev pub reach_of : Seat → ℕ → Memory → ℕ
reach_of s origin m = max (progress origin s.known) (last_number (line_of origin (queue_at s.name m)))

-- the events of an origin behind a number among these, in the order of their numbers
abbrev pub events_behind : ℕ → ℕ → List Event → List Event
events_behind origin number events =
    reverse (filter (λ e. e.origin == origin && nat_lt number e.number) events)

-- those that a server holds, of the origins that the node hears there, behind what the node has
abbrev pub events_for : Memory → Seat → Seat → List Event
events_for m s p =
    flat_map (λ origin. events_behind origin (reach_of s origin m) (held p.node))
    (heard_in s.node.id p.node.id s.known.config)

-- an origin, a node, and how far that is
abbrev pub confirms_in : ℕ × Map ℕ → List (ℕ × ℕ × ℕ)
confirms_in row = map (λ c. (row.0, c.0, c.1)) row.1

-- all that a node can tell of how far nodes are, and how far it is itself among it
abbrev pub confirms_of : Seat → List (ℕ × ℕ × ℕ)
confirms_of p = flat_map confirms_in (told_progress p.node.id p.known.progress p.known.told)

-- A confirmation that is new for the node of this id, which has heard these: it is of another node than that one and
-- than the origin, and above what it has.
abbrev pub is_new : ℕ → Map2 ℕ → ℕ × ℕ × ℕ → Bool
is_new own told c = not (c.1 == c.0) && (not (c.1 == own) && nat_lt (number_at c.1 (row_at c.0 told)) c.2)

-- What a poll brings for the node at this seat: events, and confirmations.
pub record Poll : Type 0 where
  pub seat : Seat
  pub events : List Event
  pub confirms : List (ℕ × ℕ × ℕ)

abbrev pub poll_of : Memory → Seat → Seat → Poll
poll_of m s p =
    record {
      seat = s;
      events = events_for m s p;
      confirms = filter (is_new s.node.id s.known.told) (confirms_of p);
    }

-- ---- whether there is one

abbrev pub is_empty : {X : Type 0} → List X → Bool
is_empty [] = true
is_empty (x ∷ xs) = false

-- the node hears of no origin at this server; a node is no server of its own
abbrev pub hears_none : ℕ → Seat → Bool
hears_none server s = server == s.node.id || is_empty (heard_in s.node.id server s.known.config)

-- 44, 61, 68
abbrev pub linked : ℕ → Memory → Seat → Option (List ℕ × Place) → Result (List ℕ × Place) Refusal
linked server m s None = Err (refused.NoNode server)
linked server m s (Some e) =
    checked (when (hears_none server s) (refused.NotListed server)
    ∷ when (is_cut s.node.id server m) (refused.Severed s.node.id server) ∷ []) e

-- 44, 61, 68, 16, 62
abbrev pub served : ℕ → Memory → Seat → Option (List ℕ × Place) → Result Seat Refusal
served server m s found =
    bind (bind (linked server m s found) (λ e. seat_at server (Some e)))
    (λ p. checked (when (not (is_known s.node.id p.known.config)) (refused.NotKnown s.node.id) ∷ []) p)

abbrev pub server_for : ℕ → World → Seat → Result Seat Refusal
server_for server w s = served server w.memory s (at_node server w)

abbrev pub brings_nothing : Poll → Bool
brings_nothing b = is_empty b.events && is_empty b.confirms

-- what a node polls of a server that is found so: 44, 61, 68, 16, 62, 60
abbrev pub poll_at : ℕ → Memory → Seat → Option (List ℕ × Place) → Result Poll Refusal
poll_at server m s found =
    bind (served server m s found) (λ p.
    checked (when (brings_nothing (poll_of m s p)) refused.Nothing ∷ []) (poll_of m s p))

-- 44, 16, 67 of the node, 44, 61, 68, 16, 62 of the server, 60
abbrev pub polled : ℕ → ℕ → World → Result Poll Refusal
polled node server w = bind (on_turn node w) (λ s. poll_at server w.memory s (at_node server w))

-- ---- what becomes of it

-- the node keeps the confirmations in one transaction, and in none where there are none
abbrev pub hearing : Seat → List (ℕ × ℕ × ℕ) → List Commit
hearing s [] = []
hearing s confirms =
    record { name = s.name; becomes = None; deeds = deed s.place [] [] (Hears confirms) ∷ [] } ∷ []

-- What is answered, and what commits. What arrives twice is counted once, and nothing of it is new the second time.
abbrev pub stated_by : Delivery → Poll → Stated
stated_by Lost b = record { answer = LostOnTheWay (length b.events) (length b.confirms); commits = [] }
stated_by others b =
    record { answer = Heard (length b.events) (length b.confirms); commits = hearing b.seat b.confirms }

abbrev pub delivered : Poll → Memory → Memory
delivered b m = with_queue b.seat.name (all_queued b.events (queue_at b.seat.name m)) m

abbrev pub left_by : Delivery → Poll → Memory → Memory
left_by Once b m = delivered b m
left_by Lost b m = m
left_by Again b m = delivered b (delivered b m)

abbrev pub stated_of : Delivery → Result Poll Refusal → Result Stated Refusal
stated_of delivery due = bind due (λ b. Ok (stated_by delivery b))

abbrev pub listen_by : Delivery → World → Result Poll Refusal → Outcome
listen_by delivery w due = taken_turn w (λ b. left_by delivery b w.memory) (stated_by delivery) due

-- `listen N P`
abbrev pub listen_outcome : ℕ → ℕ → Delivery → World → Outcome
listen_outcome node server delivery w = listen_by delivery w (polled node server w)
