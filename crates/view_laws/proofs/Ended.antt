-- A set that has ended: by one event of its origin, which nobody who keeps the set has met.
use Rattle.std.proofs.Common.{◌≡◌, ◌⊎◌, inl, inr, ℕ, suc, ◌<◌, ◌≤◌, Bool, true, false, cond, List, ◌∷◌, Option}
use Rattle.std.proofs.Common.{Some, None, refl, sym, ap, subst, ◌∙◌, arith, is_some, not}
use Rattle.std.specs.List.{AllByRecursion}
use Rattle.std.proofs.lemmas.Bool.{cases_lt, eq-eqb, false≢true, true≢false}
use Rattle.node_rows.specs.declared.rows.SetRow.{SetRow}
use Rattle.node_rows.specs.declared.body.Body.TheVariants.{DropSet}
use Rattle.slon_model.specs.Maps.{entry_at, number_at}
use Rattle.slon_model.specs.Events.{Event}
use Rattle.slon_model.specs.Config.{Config, live_set, set_row}
use Rattle.slon_model.specs.Deeds.{Node, knowledge, progress, stream}
use Rattle.slon_model.proofs.Names.{one_found}
use Rattle.stream_laws.specs.Nodes.{IsAmong, IsEvent, nodes_in, node_in}
use Rattle.stream_laws.specs.Making.{AreEmitted as AreNumbered, IsMade, IsMet, OfEnd, OfSet, has_mark, is_ended}
use Rattle.stream_laws.specs.Making.{tells_of}
use Rattle.stream_laws.proofs.Copies.{Leading}
use Rattle.stream_laws.proofs.Laws.{marks_are_made_once}
use Rattle.stream_laws.proofs.Lists.{all_among}
use Rattle.stream_laws.proofs.Applies.{end_stored, ends_of}
use Rattle.stream_laws.proofs.Streams.{Found, among_earlier, among_found, one_node}
use Rattle.view_laws.specs.Known.{AreLive, enables, ends, leaves}
use Rattle.view_laws.specs.Laws.{IsEnding}
use Rattle.view_laws.specs.Past.{Past}
use Rattle.view_laws.proofs.Copied.{enables_feeds, feeder_leads, leading_now, live_or_over, stays_owner}
use Rattle.view_laws.proofs.Emitted.{SyncAt}
use Rattle.view_laws.proofs.Moments.{IsLater, Reached, event_now, past_of, reached_up_to, regular_now}
use Rattle.view_laws.proofs.Once.{ended_body, live_at, live_now}
use Rattle.view_laws.proofs.Standing.{Viewer, left_later, viewer_event, viewer_stream}
use Rattle.image_laws.proofs.Staying.{IsOver}

-- An event of the session by which the set ends.
pub record Ending (t : Past) (set : ℕ) : Type 0 where
  pub event : Event
  pub is : IsEvent (nodes_in t.world.places) event
  pub body : event.body ≡ DropSet set

-- ---- who knows that a set has ended

over_mark : (set : ℕ) (c : Config) → IsOver set c → is_some (entry_at set c.sets) ≡ true → has_mark (OfEnd set) c ≡ true
over_mark set c over known = by (entry_at set c.sets) over known
  where
    live : (row : SetRow) (b : Bool) → cond b (Some row) None ≡ None → not b ≡ true
    live row true some = absurd cc
    live row false none = refl

    by : (o : Option SetRow) → live_set o ≡ None → is_some o ≡ true → is_ended o ≡ true
    by None none some = absurd (false≢true some)
    by (Some row) none some = live row row.live none

mark_over : (set : ℕ) (c : Config) → has_mark (OfEnd set) c ≡ true → IsOver set c
mark_over set c ended = by (entry_at set c.sets) ended
  where
    live : (row : SetRow) (b : Bool) → not b ≡ true → cond b (Some row) None ≡ None
    live row true none = absurd (false≢true none)
    live row false some = refl

    by : (o : Option SetRow) → is_ended o ≡ true → live_set o ≡ None
    by None none = refl
    by (Some row) is = live row row.live is

abbrev ending_made : (t : Past) (set : ℕ) (e : Ending t set) → IsMade (nodes_in t.world.places) (OfEnd set)
ending_made t set e = record {
  name = e.is.name;
  node = e.is.node;
  is = e.is.is;
  event = e.event;
  among = e.is.among;
  makes = ap (λ body. tells_of body (OfEnd set)) e.body ∙ eq-eqb set set refl;
}

-- has met the event by which it did
pub ending_of : (t : Past) (name : List ℕ) (n : Node) → nodes_in t.world.places name ≡ Some n → (set : ℕ) →
    IsOver set (knowledge n).config → is_some (entry_at set (knowledge n).config.sets) ≡ true →
    (e : Ending t set) × (e.event.number ≤ progress e.event.origin (knowledge n))
ending_of t name n is set over known = (
  record {
    event = made.event;
    is = record { name = made.name; node = made.node; is = made.is; own = sym own; among = made.among };
    body = ends_of set made.event.body made.makes;
  },
  subst (λ id. made.event.number ≤ number_at id (knowledge n).progress) (sym own) met.within,
)
  where
    met : IsMet (nodes_in t.world.places) (knowledge n).progress (OfEnd set)
    met = (marks_are_made_once t.limit t.history t.world t.leads).met name n is (OfEnd set)
        (over_mark set (knowledge n).config over known)

    made : IsMade (nodes_in t.world.places) (OfEnd set)
    made = met.made

    own : made.event.origin ≡ made.node.id
    own =
        (among_found made.node.id (stream made.node) made.event
        ((regular_now t).nodes.each made.name made.node made.is).emitted made.among).are.0

-- and who has met it knows it
pub ending_met : (t : Past) (set : ℕ) (e : Ending t set) (name : List ℕ) (n : Node) →
    nodes_in t.world.places name ≡ Some n → e.event.number ≤ progress e.event.origin (knowledge n) →
    IsOver set (knowledge n).config
ending_met t set e name n is within =
    mark_over set (knowledge n).config
    ((marks_are_made_once t.limit t.history t.world t.leads).known name n is (OfEnd set) (record {
      made = ending_made t set e;
      within = subst (λ id. e.event.number ≤ number_at id (knowledge n).progress) (sym e.is.own) within;
    }))

-- ---- the origin of the set

-- who made a set known is its origin
pub made_leader : (t : Past) (set : ℕ) (made : IsMade (nodes_in t.world.places) (OfSet set))
    (y : Leading (nodes_in t.world.places) set) → made.node.id ≡ y.node.id
made_leader t set made y =
    let row = y.leads in
    let by = ((regular_now t).nodes.each y.name y.node y.is).marked.origins set row.0 row.1 in
    let once = (regular_now t).nodes.once (OfSet set) by.0 made in
    let node = one_found by.0.node made.node (sym by.0.is ∙ ap (nodes_in t.world.places) once.0 ∙ made.is) in
    ap (λ (n : Node). n.id) (sym node) ∙ by.1 ∙ row.2

pub ending_leader : (t : Past) (set : ℕ) (e : Ending t set) (y : Leading (nodes_in t.world.places) set) →
    e.event.origin ≡ y.node.id
ending_leader t set e y =
    let stored = end_stored (nodes_in t.world.places) (regular_now t).nodes set (ending_made t set e) in
    sym e.is.own ∙ ap (λ (n : Node). n.id) (sym stored.1) ∙ made_leader t set stored.0 y

-- ---- who keeps the set

-- it has not met the event
pub ending_later : (t : Past) (k : Viewer t) (e : Ending t k.set_id) →
    progress k.view.origin (knowledge k.node) < e.event.number
ending_later t k e = by (cases_lt enabled.number e.event.number)
  where
    enabled : Event
    enabled = k.seen.enabled

    y : IsEvent (nodes_in t.world.places) enabled
    y = viewer_event t k

    leader : (y : Leading (nodes_in t.world.places) k.set_id) × (y.node.id ≡ k.seen.moment.node.id)
    leader = leading_now t k.seen.moment k.set_id k.seen.leads

    origin : e.event.origin ≡ k.view.origin
    origin = ending_leader t k.set_id e leader.0 ∙ leader.1 ∙ k.seen.own

    left : leaves k.set_id k.node.id e.event.body ≡ true
    left = ap (leaves k.set_id k.node.id) e.body ∙ eq-eqb k.set_id k.set_id refl

    are : AreNumbered y.node.id (stream y.node)
    are = ((regular_now t).nodes.each y.name y.node y.is).emitted

    f : Found y.node.id (stream y.node) enabled
    f = among_found y.node.id (stream y.node) enabled are y.among

    live : AllByRecursion (λ e. ends k.set_id e.body ≡ false) f.earlier
    live =
        ended_body k.set_id k.node.id f.earlier enabled.body k.seen.enables
        (live_at f.later enabled f.earlier (subst AreLive f.all (live_now t y.name y.node y.is)))

    ends_it : ends k.set_id e.event.body ≡ true
    ends_it = ap (ends k.set_id) e.body ∙ eq-eqb k.set_id k.set_id refl

    among : e.event.number ≤ enabled.number → IsAmong e.event (enabled ∷ f.earlier)
    among most =
        among_earlier y.node.id f.later (enabled ∷ f.earlier) e.event (subst (AreNumbered y.node.id) f.all are)
        (subst (IsAmong e.event) f.all (viewer_stream t k e.event e.is origin))
        (let number = f.are.1 in omega (arith, number, most))

    never : IsAmong e.event (enabled ∷ f.earlier) → ⊥
    never (inl same) =
        false≢true (sym (ap (enables k.set_id k.node.id) e.body)
        ∙ ap (λ (x : Event). enables k.set_id k.node.id x.body) same ∙ k.seen.enables)
    never (inr later) =
        true≢false (sym ends_it ∙ all_among (λ e. ends k.set_id e.body ≡ false) e.event f.earlier live later)

    by : (enabled.number < e.event.number) ⊎ (e.event.number ≤ enabled.number) →
        progress k.view.origin (knowledge k.node) < e.event.number
    by (inl less) = left_later t k e.event e.is (origin, left, less)
    by (inr most) = absurd (never (among most))

-- and so knows the set as live
pub view_live : (t : Past) (k : Viewer t) → is_some (entry_at k.set_id (knowledge k.node).config.sets) ≡ true →
    is_some (set_row k.set_id (knowledge k.node).config) ≡ true
view_live t k known = by (live_or_over k.set_id (knowledge k.node).config)
  where
    leader : (y : Leading (nodes_in t.world.places) k.set_id) × (y.node.id ≡ k.seen.moment.node.id)
    leader = leading_now t k.seen.moment k.set_id k.seen.leads

    never : (e : Ending t k.set_id) × (e.event.number ≤ progress e.event.origin (knowledge k.node)) → ⊥
    never (e, within) =
        let later = ending_later t k e in
        let at = ap (λ i. progress i (knowledge k.node))
        (ending_leader t k.set_id e leader.0 ∙ leader.1 ∙ k.seen.own) in
        omega (arith, later, within, at)

    by : (is_some (set_row k.set_id (knowledge k.node).config) ≡ true) ⊎ IsOver k.set_id (knowledge k.node).config →
        is_some (set_row k.set_id (knowledge k.node).config) ≡ true
    by (inl live) = live
    by (inr over) = absurd (never (ending_of t k.name k.node k.is k.set_id over known))

-- ---- who copies the set

-- a node is told to copy a set before that ends
pub enabled_first : (t : Past) (set node : ℕ) (e : Event) (y : IsEvent (nodes_in t.world.places) e) →
    enables set node e.body ≡ true → (d : Ending t set) → e.number < d.event.number
enabled_first t set node e y enabled d = by (cases_lt e.number d.event.number)
  where
    leader : Leading (nodes_in t.world.places) set
    leader = record {
      name = y.name;
      node = y.node;
      is = y.is;
      leads = feeder_leads t e y set (enables_feeds set node e.body enabled);
    }

    one : d.is.node ≡ y.node
    one =
        one_node (nodes_in t.world.places) (regular_now t).nodes d.is.name y.name d.is.node y.node d.is.is
        (y.is, d.is.own ∙ ending_leader t set d leader)

    are : AreNumbered y.node.id (stream y.node)
    are = ((regular_now t).nodes.each y.name y.node y.is).emitted

    f : Found y.node.id (stream y.node) e
    f = among_found y.node.id (stream y.node) e are y.among

    live : AllByRecursion (λ e. ends set e.body ≡ false) f.earlier
    live =
        ended_body set node f.earlier e.body enabled
        (live_at f.later e f.earlier (subst AreLive f.all (live_now t y.name y.node y.is)))

    ended : ends set d.event.body ≡ true
    ended = ap (ends set) d.body ∙ eq-eqb set set refl

    never : IsAmong d.event (e ∷ f.earlier) → ⊥
    never (inl same) =
        false≢true (sym (ap (enables set node) d.body) ∙ ap (λ (x : Event). enables set node x.body) same ∙ enabled)
    never (inr later) =
        true≢false (sym ended ∙ all_among (λ e. ends set e.body ≡ false) d.event f.earlier live later)

    by : (e.number < d.event.number) ⊎ (d.event.number ≤ e.number) → e.number < d.event.number
    by (inl less) = less
    by (inr most) =
        absurd (never (among_earlier y.node.id f.later (e ∷ f.earlier) d.event
        (subst (AreNumbered y.node.id) f.all are)
        (subst (IsAmong d.event) f.all (subst (λ (n : Node). IsAmong d.event (stream n)) one d.is.among))
        (let number = f.are.1 in omega (arith, number, most))))

-- A node that is to copy a set by its next event of the origin of that.
pub record Asked (t : Past) : Type 0 where
  pub name : List ℕ
  pub node : Node
  pub is : nodes_in t.world.places name ≡ Some node
  pub set_id : ℕ
  pub event : Event
  pub from : IsEvent (nodes_in t.world.places) event
  pub enables : enables set_id node.id event.body ≡ true
  pub next : event.number ≡ suc (progress event.origin (knowledge node))

-- it knows the set as live
pub asked_live : (t : Past) (k : Asked t) → is_some (entry_at k.set_id (knowledge k.node).config.sets) ≡ true →
    is_some (set_row k.set_id (knowledge k.node).config) ≡ true
asked_live t k known = by (live_or_over k.set_id (knowledge k.node).config)
  where
    leader : Leading (nodes_in t.world.places) k.set_id
    leader = record {
      name = k.from.name;
      node = k.from.node;
      is = k.from.is;
      leads = feeder_leads t k.event k.from k.set_id (enables_feeds k.set_id k.node.id k.event.body k.enables);
    }

    never : (d : Ending t k.set_id) × (d.event.number ≤ progress d.event.origin (knowledge k.node)) → ⊥
    never (d, within) =
        let later = enabled_first t k.set_id k.node.id k.event k.from k.enables d in
        let next = k.next in
        let at = ap (λ i. progress i (knowledge k.node)) (ending_leader t k.set_id d leader ∙ k.from.own) in
        omega (arith, later, within, next, at)

    by : (is_some (set_row k.set_id (knowledge k.node).config) ≡ true) ⊎ IsOver k.set_id (knowledge k.node).config →
        is_some (set_row k.set_id (knowledge k.node).config) ≡ true
    by (inl live) = live
    by (inr over) = absurd (never (ending_of t k.name k.node k.is k.set_id over known))

-- The origin of a set that a node keeps has it as ended: it has said so, which the node has not applied.
pub ending_at : (t : Past) (k : Viewer t) (name : List ℕ) (m : Node) → nodes_in t.world.places name ≡ Some m →
    m.id ≡ k.view.origin → IsOver k.set_id (knowledge m).config → IsEnding k.set_id k.node m
ending_at t k name m is own over = record {
  event = e.0.event;
  among = subst (λ (x : Node). IsAmong e.0.event (stream x))
      (one e.0.is.node (e.0.is.own ∙ origin) e.0.is.name e.0.is.is)
      e.0.is.among;
  ends = e.0.body;
  later = subst (λ i. progress i (knowledge k.node) < e.0.event.number) (sym own) (ending_later t k e.0);
}
  where
    leader : (y : Leading (nodes_in t.world.places) k.set_id) × (y.node.id ≡ k.seen.moment.node.id)
    leader = leading_now t k.seen.moment k.set_id k.seen.leads

    one : (x : Node) → x.id ≡ k.view.origin → (a : List ℕ) → nodes_in t.world.places a ≡ Some x → x ≡ m
    one x from a at =
        one_node (nodes_in t.world.places) (regular_now t).nodes a name x m at (is, from ∙ sym own)

    known : is_some (entry_at k.set_id (knowledge m).config.sets) ≡ true
    known =
        subst (λ (x : Node). is_some (entry_at k.set_id (knowledge x).config.sets) ≡ true)
        (one leader.0.node (leader.1 ∙ k.seen.own) leader.0.name leader.0.is) (ap is_some leader.0.leads.1)

    e : (e : Ending t k.set_id) × (e.event.number ≤ progress e.event.origin (knowledge m))
    e = ending_of t name m is k.set_id over known

    origin : e.0.event.origin ≡ k.view.origin
    origin = ending_leader t k.set_id e.0 leader.0 ∙ leader.1 ∙ k.seen.own

-- ---- a SYNC

-- A SYNC that a node which keeps the set may apply next was emitted while the set was live.
pub sync_live : (t : Past) (k : Viewer t) (e : Event) (is : IsEvent (nodes_in t.world.places) e) (m : SyncAt t e) →
    (e.origin ≡ k.view.origin) × (e.number ≤ suc (progress k.view.origin (knowledge k.node))) →
    IsLater k.seen.moment m.moment → is_some (set_row k.set_id (knowledge m.moment.node).config) ≡ true
sync_live t k e is m of later = by (live_or_over k.set_id (knowledge m.moment.node).config)
  where
    reached : Reached t m.moment.session
    reached = reached_up_to t m.moment.session m.moment.was

    u : Past
    u = past_of t m.moment.session reached

    there : nodes_in u.world.places m.moment.name ≡ Some m.moment.node
    there = ap node_in m.moment.found ∙ m.moment.at

    leader : Leading (nodes_in u.world.places) k.set_id
    leader = record {
      name = m.moment.name;
      node = m.moment.node;
      is = there;
      leads = stays_owner k.seen.moment.node m.moment.place m.moment.node later.stays m.moment.at k.set_id k.seen.leads;
    }

    known : is_some (entry_at k.set_id (knowledge m.moment.node).config.sets) ≡ true
    known = ap is_some leader.leads.1

    never : (d : Ending u k.set_id) × (d.event.number ≤ progress d.event.origin (knowledge m.moment.node)) → ⊥
    never (d, within) =
        let own : d.event.origin ≡ m.moment.node.id = ending_leader u k.set_id d leader in
        let one = one_node (nodes_in u.world.places) (regular_now u).nodes d.is.name m.moment.name d.is.node
        m.moment.node d.is.is (there, d.is.own ∙ own) in
        let before = m.before d.event (subst (λ (n : Node). IsAmong d.event (stream n)) one d.is.among) in
        let after = ending_later t k (record {
          event = d.event;
          is = event_now t d.event (record { session = m.moment.session; was = m.moment.was; is = d.is });
          body = d.body;
        }) in
        let next = of.1 in
        omega (arith, before, after, next)

    by : (is_some (set_row k.set_id (knowledge m.moment.node).config) ≡ true)
        ⊎ IsOver k.set_id (knowledge m.moment.node).config →
        is_some (set_row k.set_id (knowledge m.moment.node).config) ≡ true
    by (inl live) = live
    by (inr over) = absurd (never (ending_of u m.moment.name m.moment.node there k.set_id over known))
