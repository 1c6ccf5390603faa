-- The laws, for every session that a legal history leads to.
use Rattle.std.proofs.Common.{◌≡◌, ◌≤◌, inl, inr, ℕ, Bool, true, false, cond, List, [], ◌∷◌, ◌++◌, Option, Some, None}
use Rattle.std.proofs.Common.{refl}
use Rattle.std.proofs.Common.{sym, ap, subst, arith, unwrap_or}
use Rattle.std.specs.Prelude.{◌==◌, filter_map}
use Rattle.std.specs.List.{cons_option, AllByRecursion}
use Rattle.std.proofs.lemmas.Bool.{eqb-true}
use Rattle.node_rows.specs.declared.body.Body.{Body}
use Rattle.node_rows.specs.declared.body.Body.TheVariants.{StoreSet, DropSet, SetAddTable}
use Rattle.slon_model.specs.Maps.{Map, entry_at, number_at, row_at}
use Rattle.slon_model.specs.Events.{Event}
use Rattle.slon_model.specs.Deeds.{Node, Deed, Doing, Emits, Applies, knowledge, stream, met_by, held, progress}
use Rattle.slon_model.specs.World.{World}
use Rattle.stream_laws.specs.Nodes.{IsAmong, Nodes, IsEvent, HasConfirmed, WaitsAt}
use Rattle.stream_laws.specs.Applied.{applied_in, applied_events}
use Rattle.stream_laws.specs.Making.{HasLasted, HasStored, MayFollow, AreEmitted, OfEnd, tells_of}
use Rattle.stream_laws.specs.Facts.{AreRegular, WaitsIn, LinesAre, IsRegular}
use Rattle.stream_laws.specs.Laws.{HoldsOfSessions, node_of, HaveOrigins, EventsAreTheStream, AreInOrder}
use Rattle.stream_laws.specs.Laws.{StreamsAreNumbered, AreBehind, ConfirmationsAreBehind, NodesAreDistinct}
use Rattle.stream_laws.specs.Laws.{AreApplied, EventsAreAppliedOnce, LastedBefore, StoredBefore, IsProper}
use Rattle.stream_laws.specs.Laws.{AreMadeOnce}
use Rattle.stream_laws.specs.Laws.{MarksAreMadeOnce}
use Rattle.stream_laws.proofs.Lists.{all_among, among_behind, all_entry}
use Rattle.stream_laws.proofs.Hears.{held_events, row_confirmed}
use Rattle.stream_laws.proofs.Seats.{OnOk}
use Rattle.stream_laws.proofs.Steps.{regular_world}
use Rattle.stream_laws.proofs.Streams.{among_earlier, number_within, emitted_before, Found, among_found, own_is}
use Rattle.stream_laws.proofs.Streams.{one_node, reached_of}
use Rattle.stream_laws.proofs.Streams.{has_told}
use Rattle.stream_laws.proofs.Waiting.{IsPoll, polled_ok}

of_sessions : (P : World → Type 0) → ((w : World) → IsRegular w → P w) → HoldsOfSessions P
of_sessions P from limit history w leads = from w (regular_world limit history w leads)

pub nodes_are_distinct : NodesAreDistinct
nodes_are_distinct limit history w leads = (regular_world limit history w leads).nodes.apart

-- ---- events

waiting : (w : World) → IsRegular w → (queue : List ℕ × Map (List Event)) → IsAmong queue w.memory.queues →
    (line : ℕ × List Event) → IsAmong line queue.1 → (e : Event) → IsAmong e line.1 → WaitsAt (node_of w) queue.0 e
waiting w regular queue in_queues line in_queue e in_line =
    (all_among (WaitsIn (node_of w) queue.0 line.0) e line.1
    (all_among (λ line. AllByRecursion (WaitsIn (node_of w) queue.0 line.0) line.1) line queue.1
    (all_among (λ queue. LinesAre (node_of w) queue.0 queue.1) queue w.memory.queues regular.waits in_queues)
    in_queue) in_line).0

have_origins : (w : World) → IsRegular w → HaveOrigins w
have_origins w regular = record {
  holds = λ name n is e among.
      all_among (IsEvent (node_of w)) e (held n)
      (held_events (node_of w) n (regular.nodes.each name n is)) among;
  waits = λ queue in_queues line in_queue e in_line.
      (waiting w regular queue in_queues line in_queue e in_line).event;
}

pub events_are_the_stream : EventsAreTheStream
events_are_the_stream = of_sessions HaveOrigins have_origins

-- ---- numbers

in_order : (w : World) → IsRegular w → AreInOrder w
in_order w regular = record {
  numbers = λ name n is later earlier e all.
      let parts =
      emitted_before n.id later (e ∷ earlier)
      (subst (AreEmitted n.id) all (regular.nodes.each name n is).emitted) in
      (parts.1, parts.0);
  own = λ name n is. (regular.nodes.each name n is).whole;
  others = λ name n is other x there. (
    (regular.nodes.each name n is).low x.id,
    reached_of (node_of w) regular.nodes other x there (knowledge n).config (knowledge n).progress
        (regular.nodes.each name n is).marked.emitted,
  );
}

pub streams_are_numbered : StreamsAreNumbered
streams_are_numbered = of_sessions AreInOrder in_order

-- ---- events that are applied

applied_met : (P : Event → Type 0) (ds : List Deed) (given : List Event) →
    AllByRecursion P (filter_map (λ d. met_by d.doing) ds ++ given) →
    AllByRecursion P (filter_map (λ d. applied_in d.doing) ds)
applied_met P [] given all = tt
applied_met P (d ∷ ds) given all = by (applied_met P ds given) d.doing all
  where
    by : (AllByRecursion P (filter_map (λ d. met_by d.doing) ds ++ given) →
        AllByRecursion P (filter_map (λ d. applied_in d.doing) ds)) → (doing : Doing) →
        AllByRecursion P (cons_option (met_by doing) (filter_map (λ d. met_by d.doing) ds) ++ given) →
        AllByRecursion P (cons_option (applied_in doing) (filter_map (λ d. applied_in d.doing) ds))
    by on (Emits e) all = on all.1
    by on (Applies e brought) all = (all.0, on all.1)
    by on others all = on all

are_applied : (w : World) → IsRegular w → AreApplied w
are_applied w regular = record {
  once = λ name n is. (regular.nodes.each name n is).applied;
  events = λ name n is e among.
      all_among (IsEvent (node_of w)) e (applied_events n)
      (applied_met (IsEvent (node_of w)) n.deeds n.events (regular.nodes.each name n is).met) among;
}

pub events_are_applied_once : EventsAreAppliedOnce
events_are_applied_once = of_sessions AreApplied are_applied

-- ---- confirmations

told_behind : (nodes : Nodes) → AreRegular nodes → (name : List ℕ) (r : Node) → nodes name ≡ Some r →
    (origin : ℕ) (row : Map ℕ) → AllByRecursion (λ c. HasConfirmed nodes (origin, c.0, c.1)) row →
    number_at r.id row ≤ progress origin (knowledge r)
told_behind nodes regular name r is origin row all = by (entry_at r.id row) refl
  where
    by : (o : Option ℕ) → entry_at r.id row ≡ o → unwrap_or o 0 ≤ progress origin (knowledge r)
    by None none = omega arith
    by (Some number) some =
        let one = all_entry (λ c. HasConfirmed nodes (origin, c.0, c.1)) r.id number row all some in
        subst (λ (y : Node). number ≤ progress origin (knowledge y))
        (one_node nodes regular one.name name one.node r one.is (is, one.own)) one.within

are_behind : (w : World) → IsRegular w → AreBehind w
are_behind w regular name n is other r there x = by (r.id == n.id) refl
  where
    by : (b : Bool) → (r.id == n.id) ≡ b →
        cond b (progress x (knowledge n)) (number_at r.id (row_at x (knowledge n).told)) ≤ progress x (knowledge r)
    by true same =
        let one = one_node (node_of w) regular.nodes other name r n there (is, eqb-true r.id n.id same) in
        let far = ap (λ (y : Node). progress x (knowledge y)) one in
        omega (arith, far)
    by false differ =
        told_behind (node_of w) regular.nodes other r there x (row_at x (knowledge n).told)
        (row_confirmed (node_of w) x (knowledge n).told (regular.nodes.each name n is).told)

pub confirmations_are_behind : ConfirmationsAreBehind
confirmations_are_behind = of_sessions AreBehind are_behind

-- ---- what events make known

stored_before : (n : Node) (e : Event) (set : ℕ) (f : Found n.id (stream n) e) → HasStored set f.earlier →
    StoredBefore n e.number set
stored_before n e set f one =
    let within = number_within n.id f.earlier one.0 f.are.3 one.1 in (
      one.0,
      subst (IsAmong one.0) (sym f.all) (among_behind one.0 f.later (e ∷ f.earlier) (inr one.1)),
      omega (arith, within.1, f.are.1),
      one.2,
    )

lasted_before : (n : Node) (e : Event) (set : ℕ) (f : Found n.id (stream n) e) → AreEmitted n.id (stream n) →
    HasLasted set f.earlier → LastedBefore n e.number set
lasted_before n e set f are lasted d among less =
    by (among_earlier n.id f.later (e ∷ f.earlier) d (subst (AreEmitted n.id) f.all are)
    (subst (IsAmong d) f.all among) (omega (arith, f.are.1, less)))
  where
    by : IsAmong d (e ∷ f.earlier) → tells_of d.body (OfEnd set) ≡ false
    by (inl same) = let number = ap (λ (x : Event). x.number) same in absurd (omega (arith, number, less))
    by (inr early) = all_among (λ x. tells_of x.body (OfEnd set) ≡ false) d f.earlier lasted early

proper : (n : Node) (e : Event) (f : Found n.id (stream n) e) → AreEmitted n.id (stream n) → (body : Body) →
    MayFollow n.id f.earlier body → IsProper n e.number body
proper n e f are (StoreSet set origin comment) may = may
proper n e f are (SetAddTable set table name comment) may =
    (stored_before n e set f may.0, lasted_before n e set f are may.1)
proper n e f are (DropSet set) may = stored_before n e set f may
proper n e f are others may = may

made_once : (w : World) → IsRegular w → AreMadeOnce w
made_once w regular = record {
  once = regular.nodes.once;
  met = λ name n is. (regular.nodes.each name n is).marked.met;
  known = λ name n is mark met.
      let made = met.made in
      let maker = regular.nodes.each made.name made.node made.is in
      has_told (node_of w) regular.nodes (knowledge n).config (knowledge n).progress
      (regular.nodes.each name n is).marked.emitted made.event
      (own_is (node_of w) made.name made.node made.is maker made.event made.among) met.within mark made.makes;
  origins = λ name n is. (regular.nodes.each name n is).marked.origins;
  bodies = λ name n is e among.
      let are = (regular.nodes.each name n is).emitted in
      let f = among_found n.id (stream n) e are among in
      proper n e f are e.body f.are.2;
  waits = waiting w regular;
  polls = λ node server b is e among.
      all_among (WaitsAt (node_of w) b.seat.name) e b.events
      (subst (OnOk (IsPoll w)) is (polled_ok node server w regular)).events among;
}

pub marks_are_made_once : MarksAreMadeOnce
marks_are_made_once = of_sessions AreMadeOnce made_once
