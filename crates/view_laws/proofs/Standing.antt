-- What a subscription that stands says of the tables of its set: none comes into the set.
use Rattle.std.proofs.Common.{◌≡◌, ◌≢◌, ◌⊎◌, inl, inr, ℕ, ◌<◌, ◌≤◌, true, List, Some, sym, subst, ◌∙◌, arith}
use Rattle.std.proofs.lemmas.Bool.{cases_lt, eq-eqb, false≢true}
use Rattle.std.specs.Prelude.{◌==◌, ◌+◌}
use Rattle.node_rows.specs.declared.body.Body.{Body}
use Rattle.node_rows.specs.declared.body.Body.TheVariants.{SetAddTable}
use Rattle.slon_model.specs.Maps.{number_at}
use Rattle.slon_model.specs.Events.{Event}
use Rattle.image_laws.proofs.Logging.{among_filtered}
use Rattle.slon_model.specs.Deeds.{Node, knowledge, progress, stream}
use Rattle.slon_model.specs.Views.{View}
use Rattle.stream_laws.specs.Nodes.{IsAmong, IsEvent, nodes_in}
use Rattle.stream_laws.specs.Applied.{HasApplied, applied_events, of_origin}
use Rattle.stream_laws.specs.Making.{AreEmitted}
use Rattle.stream_laws.proofs.Laws.{events_are_applied_once}
use Rattle.stream_laws.proofs.Streams.{among_found, one_node, same_number}
use Rattle.view_laws.specs.Known.{IsSeen, adds, enables, leaves}
use Rattle.view_laws.specs.Past.{Past, WasUpTo}
use Rattle.view_laws.proofs.Applied.{applied_within, event_before, was_applied}
use Rattle.view_laws.proofs.Lasting.{Between, left_before}
use Rattle.view_laws.proofs.Once.{unfed_now}
use Rattle.view_laws.proofs.Reached.{regular_now}

-- A node of the session that keeps a set in a view.
pub record Viewer (t : Past) : Type 0 where
  pub name : List ℕ
  pub node : Node
  pub is : nodes_in t.world.places name ≡ Some node
  pub set_id : ℕ
  pub view : View
  pub seen : IsSeen (WasUpTo t) node set_id view

-- the event with which it copied the set
abbrev pub viewer_event : (t : Past) (k : Viewer t) → IsEvent (nodes_in t.world.places) k.seen.enabled
viewer_event t k =
    (events_are_applied_once t.limit t.history t.world t.leads).events k.name k.node k.is k.seen.enabled k.seen.applied

-- it is as far as that
pub viewer_far : (t : Past) (k : Viewer t) → k.seen.enabled.number ≤ progress k.view.origin (knowledge k.node)
viewer_far t k =
    let within = applied_within (number_at k.view.origin k.node.given.progress)
    (of_origin k.view.origin (applied_events k.node)) k.seen.enabled (has.each k.view.origin k.seen.apart)
    (among_filtered (λ f. f.origin == k.view.origin) k.seen.enabled (applied_events k.node) k.seen.applied
    (eq-eqb k.seen.enabled.origin k.view.origin k.seen.of)) in
    let far = has.all k.view.origin k.seen.apart in
    omega (arith, within, far)
  where
    has : HasApplied k.node.id k.node.given.progress (knowledge k.node).progress (applied_events k.node)
    has = ((regular_now t).nodes.each k.name k.node k.is).applied

-- another event of that stream is one of the same node
pub viewer_stream : (t : Past) (k : Viewer t) (e : Event) → IsEvent (nodes_in t.world.places) e →
    e.origin ≡ k.view.origin → IsAmong e (stream (viewer_event t k).node)
viewer_stream t k e is own =
    let y = viewer_event t k in
    subst (λ n. IsAmong e (stream n)) (one_node (nodes_in t.world.places) (regular_now t).nodes is.name y.name is.node
    y.node is.is (y.is, is.own ∙ own ∙ sym k.seen.of ∙ sym y.own)) is.among

-- an event by which a table comes into the set has no receiver copy it
apart_bodies : (set node : ℕ) (body : Body) → adds set body ≡ true → enables set node body ≡ true → ⊥
apart_bodies set node (SetAddTable id table name comment) adds on = absurd (false≢true on)
apart_bodies set node others adds on = absurd (false≢true adds)

-- An event of the origin by which a table comes into the set comes before the one with which the node copied the set;
-- or the origin told the node before that to give the set up.
pub added_or_left : (t : Past) (k : Viewer t) (e : Event) → IsEvent (nodes_in t.world.places) e →
    (e.origin ≡ k.view.origin) × (adds k.set_id e.body ≡ true) →
    (e.number < k.seen.enabled.number)
    ⊎ Between (leaves k.set_id k.node.id) (stream (viewer_event t k).node) k.seen.enabled e
added_or_left t k e is of = by (cases_lt e.number enabled.number)
  where
    enabled : Event
    enabled = k.seen.enabled

    y : IsEvent (nodes_in t.world.places) enabled
    y = viewer_event t k

    among : IsAmong e (stream y.node)
    among = viewer_stream t k e is of.0

    are : AreEmitted y.node.id (stream y.node)
    are = ((regular_now t).nodes.each y.name y.node y.is).emitted

    apart : e.number ≢ enabled.number
    apart same =
        apart_bodies k.set_id k.node.id e.body of.1
        (subst (λ (f : Event). enables k.set_id k.node.id f.body ≡ true)
        (sym (same_number y.node.id (stream y.node) e enabled are among y.among same)) k.seen.enables)

    by : (e.number < enabled.number) ⊎ (enabled.number ≤ e.number) → (e.number < enabled.number)
        ⊎ Between (leaves k.set_id k.node.id) (stream y.node) enabled e
    by (inl less) = inl less
    by (inr most) =
        inr (left_before k.set_id k.node.id y.node.id (stream y.node) (record {
          first = enabled;
          second = e;
          are = are;
          among = y.among;
          behind = among;
          before = behind most (λ same. apart (sym same));
        }) (unfed_now t y.name y.node y.is) (k.seen.enables, of.1))
      where
        behind : {a b : ℕ} → a ≤ b → a ≢ b → a < b
        behind {a} {b} less differ = elim (cases_lt a b) [
          | inl is ↦ is
          | inr other ↦ absurd (differ (omega (arith, less, other)))
        ]

-- the node has not applied that it is to give the set up
pub left_later : (t : Past) (k : Viewer t) (e : Event) → IsEvent (nodes_in t.world.places) e →
    (e.origin ≡ k.view.origin) × (leaves k.set_id k.node.id e.body ≡ true)
    × (k.seen.enabled.number < e.number) → progress k.view.origin (knowledge k.node) < e.number
left_later t k e is of = elim (cases_lt (progress k.view.origin (knowledge k.node)) e.number) [
  | inl less ↦ less
  | inr far ↦
      let before = k.seen.since e (was_applied t k.name k.node k.is e (record {
        first = k.seen.enabled;
        applied = k.seen.applied;
        other = λ same. k.seen.apart (sym k.seen.of ∙ same);
        is = is;
        own = of.0 ∙ sym k.seen.of;
        behind = of.2;
        far = subst (λ i. e.number ≤ progress i (knowledge k.node)) (sym k.seen.of) far;
      })) of.0 of.1 in
      let behind = of.2 in
      absurd (omega (arith, before, behind))
]

-- an event of the stream with which the node copied the set
abbrev pub viewer_other : (t : Past) (k : Viewer t) (e : Event) → IsAmong e (stream (viewer_event t k).node) →
    e.origin ≡ k.view.origin → IsEvent (nodes_in t.world.places) e
viewer_other t k e among own =
    let y = viewer_event t k in
    record { name = y.name; node = y.node; is = y.is; own = y.own ∙ k.seen.of ∙ sym own; among = among }

-- what comes behind an event by which the node is to give the set up is not its next event
pub left_behind : (t : Past) (k : Viewer t) (e : Event) →
    Between (leaves k.set_id k.node.id) (stream (viewer_event t k).node) k.seen.enabled e →
    progress k.view.origin (knowledge k.node) + 1 < e.number
left_behind t k e b =
    let later = left_later t k f (viewer_other t k f b.closed.among own) (own, b.closed.done, b.closed.later) in
    let earlier = b.earlier in
    omega (arith, later, earlier)
  where
    f : Event
    f = b.closed.event

    y : IsEvent (nodes_in t.world.places) k.seen.enabled
    y = viewer_event t k

    own : f.origin ≡ k.view.origin
    own =
        (among_found y.node.id (stream y.node) f ((regular_now t).nodes.each y.name y.node y.is).emitted
        b.closed.among).are.0 ∙ y.own ∙ k.seen.of

-- an event by which a table comes into the set is none that the node applies while it keeps the set
pub added_within : (t : Past) (k : Viewer t) (e : Event) → IsEvent (nodes_in t.world.places) e →
    (e.origin ≡ k.view.origin) × (adds k.set_id e.body ≡ true) →
    (e.number ≤ progress k.view.origin (knowledge k.node))
    ⊎ (progress k.view.origin (knowledge k.node) + 1 < e.number)
added_within t k e is of = elim (added_or_left t k e is of) [
  | inl less ↦ inl (let far = viewer_far t k in omega (arith, less, far))
  | inr b ↦ inr (left_behind t k e b)
]

-- So each table of the set that the node can know came into it before the snapshot of the view was taken, and before
-- the node copied the set.
pub added_before : (t : Past) (k : Viewer t) (e : Event) → IsEvent (nodes_in t.world.places) e →
    (e.origin ≡ k.view.origin) × (adds k.set_id e.body ≡ true)
    × (e.number ≤ progress k.view.origin (knowledge k.node)) → e.number < k.seen.enabled.number
added_before t k e is of = elim (added_or_left t k e is (of.0, of.1)) [
  | inl less ↦ less
  | inr b ↦ let later = left_behind t k e b in let far = of.2 in absurd (omega (arith, later, far))
]

pub before_first : (t : Past) (k : Viewer t) (e : Event) → IsEvent (nodes_in t.world.places) e →
    (e.origin ≡ k.view.origin) × (adds k.set_id e.body ≡ true)
    × (e.number ≤ progress k.view.origin (knowledge k.node)) → e.number < k.seen.first.number
before_first t k e is of =
    let less = added_before t k e is of in
    let from = k.seen.from in
    k.seen.tables e (event_before t from.session from.was k.seen.enabled from.is e is
    (of.0 ∙ sym k.seen.of, omega (arith, less))) of.1 less
