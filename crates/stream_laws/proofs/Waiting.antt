-- The events that wait at nodes are of streams, whatever a poll delivers, a turn takes, and a database that goes down
-- forgets.
use Rattle.std.proofs.Common.{◌≡◌, Bool, true, false, cond, sym, List, [], ◌∷◌, ◌++◌, Option, Some, None, refl, subst}
use Rattle.std.proofs.Common.{unwrap_or, not}
use Rattle.std.specs.Prelude.{ℕ, ◌==◌, ◌&&◌, nat_lt, is_some, filter}
use Rattle.std.proofs.lemmas.Bool.{false≢true, eqb-true, and_parts}
use Rattle.std.specs.List.{AllByRecursion}
use Rattle.std.specs.Str.{bytes_eq}
use Rattle.slon_model.specs.declared.command.Delivery.{Delivery}
use Rattle.slon_model.specs.declared.command.Delivery.TheVariants.{Once, Lost, Again}
use Rattle.slon_model.specs.declared.reply.Refusal.TheVariants as refused
use Rattle.slon_model.specs.Names.{find_named}
use Rattle.slon_model.specs.Maps.{Map, entry_at, ids}
use Rattle.slon_model.specs.Events.{Event}
use Rattle.slon_model.specs.Config.{Config, is_live_row, is_live, live_nodes, hears, heard_in, is_known}
use Rattle.node_rows.specs.declared.rows.NodeRow.{NodeRow}
use Rattle.slon_model.specs.Deeds.{Knowledge, knowledge, held}
use Rattle.slon_model.specs.Place.{Place, is_running, fallen}
use Rattle.slon_model.specs.Sessions.{World, Memory, Commit, Seat, bind, when, forgotten, remembered, changed}
use Rattle.slon_model.specs.Sessions.{in_doubt, felled, felled_at}
use Rattle.slon_model.specs.Turns.{at_node, seat_at, on_turn, is_cut}
use Rattle.slon_model.specs.Polls.{Poll, queue_at, line_of, last_number, lined, queued, all_queued, events_behind}
use Rattle.slon_model.specs.Polls.{confirms_of, is_new, poll_of, hears_none, linked, server_for, brings_nothing, polled}
use Rattle.slon_model.specs.Polls.{delivered, left_by, reach_of}
use Rattle.slon_model.specs.Working.{Carried, taken_from}
use Rattle.slon_model.specs.World.{broken_at, wavering, wavering_at}
use Rattle.slon_model.proofs.Names.{one_found}
use Rattle.stream_laws.specs.Nodes.{Nodes, nodes_in, IsKnown, IsEvent, HasConfirmed, WaitsAt}
use Rattle.stream_laws.specs.Facts.{Facts, WaitsIn, LinesAre, AllWait, IsRegular}
use Rattle.stream_laws.proofs.Lists.{all_appended, all_passed, all_filtered, all_reversed, all_flat, all_each}
use Rattle.stream_laws.proofs.Lists.{all_named, all_with, all_entry}
use Rattle.stream_laws.proofs.Hears.{held_events, all_confirms}
use Rattle.stream_laws.proofs.Seats.{OnOk, IsSeat, IsFound, bind_ok, kept_ok, seat_node, turn_ok, seat_at_ok}
use Rattle.stream_laws.proofs.Seats.{at_node_found}

-- ---- what is forgotten

pub forgotten_waits : (nodes : Nodes) (name : List ℕ) (m : Memory) → AllWait nodes m.queues →
    AllWait nodes (forgotten name m).queues
forgotten_waits nodes name m all =
    all_filtered (λ q. LinesAre nodes q.0 q.1)
    (λ e. not (bytes_eq name e.0)) m.queues all

remembered_waits : (nodes : Nodes) (name : List ℕ) (was : Option Place) (q : Place) (m : Memory) →
    AllWait nodes m.queues → AllWait nodes (remembered name was q m).queues
remembered_waits nodes name None q m all = all
remembered_waits nodes name (Some p) q m all =
    elim (is_running q.standing && not (is_running p.standing))
    as (λ b. AllWait nodes (cond b (forgotten name m) m).queues) [
      | true ↦ forgotten_waits nodes name m all
      | false ↦ all
    ]

-- a database that changes
pub changed_waits : (nodes : Nodes) (name : List ℕ) (q : Place) (w : World) → AllWait nodes w.memory.queues →
    AllWait nodes (changed name q w).memory.queues
changed_waits nodes name q w all = remembered_waits nodes name (find_named name w.places) q w.memory all

pub felled_waits : (nodes : Nodes) (o : Option (List ℕ)) (w : World) → AllWait nodes w.memory.queues →
    AllWait nodes (felled o w).memory.queues
felled_waits nodes None w all = all
felled_waits nodes (Some name) w all = by (find_named name w.places)
  where
    by : (o : Option Place) → AllWait nodes (felled_at name o w).memory.queues
    by None = all
    by (Some p) = changed_waits nodes name (fallen p.told p) w all

pub broken_waits : (nodes : Nodes) (name : List ℕ) (count : ℕ) (o : Option Place) (w : World) →
    AllWait nodes w.memory.queues → AllWait nodes (broken_at name count o w).memory.queues
broken_waits nodes name count None w all = all
broken_waits nodes name count (Some p) w all = changed_waits nodes name (fallen count p) w all

pub wavers_waits : (nodes : Nodes) (cs : List Commit) (stands : Bool) (w : World) → AllWait nodes w.memory.queues →
    AllWait nodes (wavering cs stands w).memory.queues
wavers_waits nodes [] stands w all = all
wavers_waits nodes (c ∷ cs) stands w all = by (find_named c.name w.places)
  where
    by : (o : Option Place) → AllWait nodes (wavering_at c stands o w).memory.queues
    by None = all
    by (Some p) = changed_waits nodes c.name (in_doubt c stands p) w all

-- ---- what is delivered

line_is : (nodes : Nodes) (name : List ℕ) (origin : ℕ) (queue : Map (List Event)) → LinesAre nodes name queue →
    AllByRecursion (WaitsIn nodes name origin) (line_of origin queue)
line_is nodes name origin queue all = by (entry_at origin queue) refl
  where
    by : (o : Option (List Event)) → entry_at origin queue ≡ o →
        AllByRecursion (WaitsIn nodes name origin) (unwrap_or o [])
    by None is = tt
    by (Some line) is = all_entry (λ line. AllByRecursion (WaitsIn nodes name line.0) line.1) origin line queue all is

lined_is : (P : Event → Type 0) (e : Event) (es : List Event) → P e → AllByRecursion P es →
    AllByRecursion P (lined e es)
lined_is P e es one all =
    elim (nat_lt (last_number es) e.number) as (λ b. AllByRecursion P (cond b (es ++ e ∷ []) es)) [
      | true ↦ all_appended P es (e ∷ []) all (one, tt)
      | false ↦ all
    ]

queued_are : (nodes : Nodes) (name : List ℕ) (es : List Event) (queue : Map (List Event)) →
    AllByRecursion (WaitsAt nodes name) es → LinesAre nodes name queue → LinesAre nodes name (all_queued es queue)
queued_are nodes name [] queue each all = all
queued_are nodes name (e ∷ es) queue each all =
    queued_are nodes name es (queued e queue) each.1
    (all_with (λ line. AllByRecursion (WaitsIn nodes name line.0) line.1) e.origin (lined e (line_of e.origin queue))
    queue (lined_is (WaitsIn nodes name e.origin) e (line_of e.origin queue) (each.0, refl)
    (line_is nodes name e.origin queue all)) all)

queue_is : (nodes : Nodes) (name : List ℕ) (m : Memory) → AllWait nodes m.queues →
    LinesAre nodes name (queue_at name m)
queue_is nodes name m all = by (find_named name m.queues) refl
  where
    by : (o : Option (Map (List Event))) → find_named name m.queues ≡ o → LinesAre nodes name (unwrap_or o [])
    by None is = tt
    by (Some queue) is = all_named (λ q. LinesAre nodes q.0 q.1) name queue m.queues all is

delivered_waits : (nodes : Nodes) (b : Poll) (m : Memory) → AllByRecursion (WaitsAt nodes b.seat.name) b.events →
    AllWait nodes m.queues → AllWait nodes (delivered b m).queues
delivered_waits nodes b m are all = (
  queued_are nodes b.seat.name b.events (queue_at b.seat.name m) are (queue_is nodes b.seat.name m all),
  forgotten_waits nodes b.seat.name m all,
)

pub left_waits : (nodes : Nodes) (delivery : Delivery) (b : Poll) (m : Memory) →
    AllByRecursion (WaitsAt nodes b.seat.name) b.events → AllWait nodes m.queues →
    AllWait nodes (left_by delivery b m).queues
left_waits nodes Once b m are all = delivered_waits nodes b m are all
left_waits nodes Lost b m are all = all
left_waits nodes Again b m are all = delivered_waits nodes b (delivered b m) are (delivered_waits nodes b m are all)

-- ---- what is taken

-- what waits at a node in the line of an origin
pub waiting_in : (nodes : Nodes) (name : List ℕ) (origin : ℕ) (m : Memory) → AllWait nodes m.queues →
    AllByRecursion (WaitsIn nodes name origin) (line_of origin (queue_at name m))
waiting_in nodes name origin m all = line_is nodes name origin (queue_at name m) (queue_is nodes name m all)

pub taken_waits : (nodes : Nodes) (c : Carried) (m : Memory) → AllWait nodes m.queues →
    AllWait nodes (taken_from c m).queues
taken_waits nodes c m all =
    let name = c.seat.name in
    let e = c.event in (
      all_with (λ line. AllByRecursion (WaitsIn nodes name line.0) line.1) e.origin _ (queue_at name m)
          (all_filtered (WaitsIn nodes name e.origin) (λ f. nat_lt e.number f.number)
          (line_of e.origin (queue_at name m)) (waiting_in nodes name e.origin m all))
          (queue_is nodes name m all),
      forgotten_waits nodes name m all,
    )

-- ---- what a poll brings

-- The node at its seat is of the session, the events are of streams of origins that it knows, and the confirmations are
-- so.
pub record IsPoll (w : World) (b : Poll) : Type 0 where
  pub seat : IsSeat w.places b.seat
  pub events : AllByRecursion (WaitsAt (nodes_in w.places) b.seat.name) b.events
  pub confirms : AllByRecursion (HasConfirmed (nodes_in w.places)) b.confirms

linked_ok : (server : ℕ) (w : World) (s : Seat) (o : Option (List ℕ × Place)) →
    ((e : List ℕ × Place) → o ≡ Some e → IsFound w.places e) → OnOk (IsFound w.places) (linked server w.memory s o)
linked_ok server w s None found = tt
linked_ok server w s (Some e) found =
    kept_ok (IsFound w.places)
    (when (hears_none server s) (refused.NotListed server)
    ∷ when (is_cut s.node.id server w.memory) (refused.Severed s.node.id server) ∷ []) e (found e refl)

server_ok : (server : ℕ) (w : World) (s : Seat) → IsRegular w → OnOk (IsSeat w.places) (server_for server w s)
server_ok server w s regular =
    bind_ok (IsSeat w.places) (IsSeat w.places)
    (bind (linked server w.memory s (at_node server w)) (λ e. seat_at server (Some e))) _
    (bind_ok (IsFound w.places) (IsSeat w.places) (linked server w.memory s (at_node server w)) _
    (linked_ok server w s (at_node server w) (λ e is. at_node_found server w e regular.once is))
    (λ e found. seat_at_ok server w (Some e) (λ f is. subst (IsFound w.places) (one_found e f is) found)))
    (λ p is. kept_ok (IsSeat w.places)
    (when (not (is_known s.node.id p.known.config)) (refused.NotKnown s.node.id) ∷ []) p is)

-- a live node is known
live_known : (id : ℕ) (c : Config) → is_live id c ≡ true → IsKnown id c
live_known id c live = by (entry_at id c.nodes) live
  where
    by : (o : Option NodeRow) → is_live_row o ≡ true → is_some o ≡ true
    by None live = absurd (false≢true live)
    by (Some row) live = refl

-- the nodes of which a node hears at a server are known
heard_known : (own server : ℕ) (c : Config) → AllByRecursion (λ origin. IsKnown origin c) (heard_in own server c)
heard_known own server c =
    all_filtered (λ origin. IsKnown origin c) (λ origin. not (origin == own) && hears own server origin c)
    (live_nodes c) (all_passed (λ origin. Unit {0}) (λ origin. IsKnown origin c) (λ origin. is_live origin c)
    (λ origin any live. live_known origin c live) (ids c.nodes) (all_each (λ origin. Unit {0}) (λ origin. tt) _))

poll_is : (w : World) (s p : Seat) → IsRegular w → IsSeat w.places s → IsSeat w.places p →
    IsPoll w (poll_of w.memory s p)
poll_is w s p regular is server = record {
  seat = is;
  events =
      all_flat (λ origin. IsKnown origin s.known.config) (WaitsAt nodes s.name)
      (λ origin. events_behind origin (reach_of s origin w.memory) (held p.node)) waiting
      (heard_in s.node.id p.node.id s.known.config) (heard_known s.node.id p.node.id s.known.config);
  confirms =
      all_filtered (HasConfirmed nodes) (is_new s.node.id s.known.told) (confirms_of p)
      (all_confirms nodes p server.known at facts);
}
  where
    nodes : Nodes
    nodes = nodes_in w.places

    at : nodes p.name ≡ Some p.node
    at = seat_node w.places p server

    facts : Facts nodes p.node
    facts = regular.nodes.each p.name p.node at

    is_of : ℕ → Event → Bool
    is_of origin e = e.origin == origin && nat_lt (reach_of s origin w.memory) e.number

    waiting : (origin : ℕ) → IsKnown origin s.known.config →
        AllByRecursion (WaitsAt nodes s.name) (events_behind origin (reach_of s origin w.memory) (held p.node))
    waiting origin known =
        all_reversed (WaitsAt nodes s.name) (filter (is_of origin) (held p.node))
        (all_passed (IsEvent nodes) (WaitsAt nodes s.name) (is_of origin) (λ e one of. record {
          event = one;
          node = s.node;
          is = seat_node w.places s is;
          knows =
              subst (λ id. IsKnown id (knowledge s.node).config)
              (sym (eqb-true e.origin origin (and_parts (e.origin == origin) _ of).0))
              (subst (λ (k : Knowledge). IsKnown origin k.config) is.known known);
        }) (held p.node) (held_events nodes p.node facts))

pub polled_ok : (node server : ℕ) (w : World) → IsRegular w → OnOk (IsPoll w) (polled node server w)
polled_ok node server w regular =
    bind_ok (IsSeat w.places) (IsPoll w) (on_turn node w) _ (turn_ok node w regular.once)
    (λ s is. bind_ok (IsSeat w.places) (IsPoll w) (server_for server w s) _ (server_ok server w s regular)
    (λ p at. kept_ok (IsPoll w) (when (brings_nothing (poll_of w.memory s p)) refused.Nothing ∷ [])
    (poll_of w.memory s p) (poll_is w s p regular is at)))
