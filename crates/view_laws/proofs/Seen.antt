-- The snapshot of each view that a node keeps was taken at the origin of the set, in a session of the history.
use Rattle.view_laws.proofs.Emitted.{sync_emitted}
use Rattle.view_laws.proofs.Emitted.{sync_in}
use Rattle.view_laws.proofs.Emitted.{SyncAt}
use Rattle.std.proofs.Common.{suc}
use Rattle.std.proofs.Common.{◌≤◌}
use Rattle.slon_model.specs.Events.{is_sync}
use Rattle.view_laws.proofs.Standing.{Viewer}
use Rattle.slon_model.specs.Config.{era_of}
use Rattle.std.proofs.Common.{◌≡◌, ◌≢◌, inl, inr, ℕ, Bool, true, false, cond, List, [], ◌∷◌, Some, refl}
use Rattle.std.proofs.Common.{sym, ap, subst, ◌∙◌, ◌<◌, arith}
use Rattle.std.specs.List.{AllByRecursion}
use Rattle.std.proofs.lemmas.Bool.{false≢true, true≢false}
use Rattle.node_rows.specs.declared.body.Body.{Body}
use Rattle.node_rows.specs.declared.body.Body.TheVariants.{DropSet, UnsubscribeSet, MoveSet, FailoverSet}
use Rattle.slon_model.specs.Maps.{Map}
use Rattle.slon_model.specs.Snapshots.{Covers, Snapshot, covers}
use Rattle.slon_model.specs.Events.{Event}
use Rattle.slon_model.specs.Views.{View, based, view_after, views_emitted, views_told, with_views}
use Rattle.view_laws.proofs.Turned.{all_told}
use Rattle.slon_model.specs.Deeds.{Node, Brought, Hears as HearsOf, Knowledge, knowledge, nothing_brought, view_of}
use Rattle.slon_model.specs.Deeds.{progress, stream, with_deeds}
use Rattle.slon_model.specs.Moves.{with_commit}
use Rattle.slon_model.specs.Place.{Place, deed, taken}
use Rattle.slon_model.specs.Sessions.{World, Seat}
use Rattle.slon_model.specs.Following.{SetSync, with_sync, with_syncs}
use Rattle.slon_model.specs.Working.{Carried}
use Rattle.slon_model.proofs.Names.{all_map, one_found}
use Rattle.stream_laws.specs.Nodes.{IsAmong, nodes_in, IsEvent}
use Rattle.stream_laws.specs.Applied.{applied_events}
use Rattle.stream_laws.specs.Making.{is_emitted}
use Rattle.stream_laws.proofs.Lists.{all_among, all_with, among_behind}
use Rattle.stream_laws.proofs.Seats.{IsSeat, seat_node}
use Rattle.stream_laws.proofs.Streams.{among_found, one_node}
use Rattle.view_laws.proofs.Doing.{IsTaken}
use Rattle.view_laws.specs.Known.{IsEmitted, IsSeen, AreSeen, WasEvent, adds, feeds, enables, leaves}
use Rattle.view_laws.proofs.Doing.{taking}
use Rattle.view_laws.specs.Past.{Past, WasBefore, WasUpTo}
use Rattle.view_laws.proofs.Brought.{IsBrought, IsCopied, IsKept, IsSynced, Nothing, Copies, Brings, same_id}
use Rattle.view_laws.proofs.Brought.{copied_view, earlier, was_then}
use Rattle.view_laws.proofs.Emitted.{moment_later, moment_of}
use Rattle.view_laws.proofs.Living.{NodeLives, deed_of, event_of, knew, KnewAll}
use Rattle.view_laws.proofs.Moments.{IsLater, covers_passes, regular_now, two_moments}
use Rattle.image_laws.proofs.Staying.{Stays}
use Rattle.view_laws.proofs.Saying.{says_emitted}
use Rattle.view_laws.proofs.Applied.{applied_before}
use Rattle.view_laws.proofs.Standing.{Viewer, before_first}
use Rattle.view_laws.proofs.Ended.{sync_live}
use Rattle.stream_laws.proofs.Copies.{origin_row}
use Rattle.stream_laws.proofs.Works.{IsWork}
use Rattle.view_laws.proofs.Emitted.{SyncAt, sync_emitted, sync_in}
use Rattle.view_laws.proofs.Copied.{CopySource, FromOrigin, FromForwarder, copy_asks, copy_moment, copy_source}
use Rattle.view_laws.proofs.Copied.{enables_feeds}
use Rattle.view_laws.proofs.Copied.{feeder_leads, seen_leads, stays_leading, feeder_is}
use Rattle.view_laws.proofs.Rising.{found_stands}
use Rattle.slon_model.specs.Config.{is_origin}

-- ---- the same node, later

abbrev pub seen_later : (t : Past) (n : Node) (set : ℕ) (v : View) → IsSeen (WasBefore t) n set v →
    IsSeen (WasUpTo t) n set v
seen_later t n set v is = record {
  moment = moment_later t is.moment;
  own = is.own;
  apart = is.apart;
  seen = is.seen;
  era = is.era;
  leads = is.leads;
  enabled = is.enabled;
  applied = is.applied;
  enables = is.enables;
  of = is.of;
  since = is.since;
  first = is.first;
  before = is.before;
  from = record { session = is.from.session; was = inr is.from.was; is = is.from.is };
  tables = is.tables;
}

-- who applied no less, and no event by which it is to give the set up
abbrev pub seen_more : (Was : World → Type 0) (n m : Node) → m.id ≡ n.id → (set : ℕ) (v : View) →
    ((e : Event) → IsAmong e (applied_events n) → IsAmong e (applied_events m))
    × ((e : Event) → IsAmong e (applied_events m) → leaves set m.id e.body ≡ true → IsAmong e (applied_events n)) →
    IsSeen Was n set v → IsSeen Was m set v
seen_more Was n m id set v (more, back) is = record {
  moment = is.moment;
  own = is.own;
  apart = λ same. is.apart (same ∙ id);
  seen = is.seen;
  era = is.era;
  leads = is.leads;
  enabled = is.enabled;
  applied = more is.enabled is.applied;
  enables = subst (λ i. enables set i is.enabled.body ≡ true) (sym id) is.enables;
  of = is.of;
  since = λ e among own left. is.since e (back e among left) own (subst (λ i. leaves set i e.body ≡ true) id left);
  first = is.first;
  before = is.before;
  from = is.from;
  tables = is.tables;
}

-- an event that the node applies
abbrev pub seen_taken : (t : Past) (x : Carried) (set : ℕ) (v : View) → leaves set x.seat.node.id x.event.body ≡ false →
    IsSeen (WasUpTo t) x.seat.node set v → IsSeen (WasUpTo t) (with_deeds (taking x).deeds x.seat.node) set v
seen_taken t x set v stays is =
    seen_more (WasUpTo t) x.seat.node (with_deeds (taking x).deeds x.seat.node) refl set v (
      λ e among. inr among,
      λ e among left. elim among [
        | inl same ↦ absurd (true≢false (sym left ∙ ap (λ (f : Event). leaves set x.seat.node.id f.body) same ∙ stays))
        | inr old ↦ old
      ],
    ) is

-- who applied the same
abbrev pub seen_same : (Was : World → Type 0) (n m : Node) → m.id ≡ n.id → applied_events m ≡ applied_events n →
    (set : ℕ) (v : View) → IsSeen Was n set v → IsSeen Was m set v
seen_same Was n m id same set v =
    seen_more Was n m id set v
    (λ e among. subst (IsAmong e) (sym same) among, λ e among left. subst (IsAmong e) same among)

all_seen : (Was : World → Type 0) (n m : Node) → m.id ≡ n.id → applied_events m ≡ applied_events n →
    (vs : Map View) → AllByRecursion (λ v. IsSeen Was n v.0 v.1) vs → AllByRecursion (λ v. IsSeen Was m v.0 v.1) vs
all_seen Was n m id same vs all =
    all_map (λ v. IsSeen Was n v.0 v.1) (λ v. IsSeen Was m v.0 v.1)
    (λ v. seen_same Was n m id same v.0 v.1) vs all

-- ---- a copy

-- what is known of the views of the provider of a copy
abbrev pub ProviderSeen : {t : Past} {s : Seat} {e : Event} {b : Brought} → IsCopied t s e b → Type 0
ProviderSeen k =
    (v : View) → view_of k.copy.copying.set_id (knowledge k.copy.provider.node) ≡ Some v →
    IsSeen (WasUpTo k.at.to) k.copy.provider.node k.copy.copying.set_id v

-- Of the events of its origin that the node applied, this one is behind each by which the node gives the set up.
abbrev pub IsSince : ℕ → Node → Event → List Event → Type 0
IsSince set n event applied =
    (e : Event) → IsAmong e applied → e.origin ≡ event.origin → leaves set n.id e.body ≡ true → e.number < event.number

-- A copy that the node at its seat makes with an event, with what is known of the views of the provider; and a node
-- that has applied the event, as that one does, and gave the set up before that alone.
pub record Copier (t : Past) : Type 0 where
  pub seat : Seat
  pub event : Event
  pub brought : Brought
  pub is : IsSeat t.world.places seat
  pub copied : IsCopied t seat event brought
  pub seen : ProviderSeen copied
  pub node : Node
  pub id : node.id ≡ seat.node.id
  pub applied : IsAmong event (applied_events node)
  pub since : IsSince copied.copy.copying.set_id node event (applied_events node)

abbrev pub set_of : {t : Past} → Copier t → ℕ
set_of c = c.copied.copy.copying.set_id

-- the session in which it was found
abbrev pub then_of : {t : Past} → Copier t → Past
then_of c = c.copied.at.to

pub copier_at : {t : Past} (c : Copier t) → c.copied.at.seat.node.id ≡ c.node.id
copier_at {t} c = same_id t c.seat c.event c.copied.at c.is ∙ sym c.id

pub copier_asks : {t : Past} (c : Copier t) → enables (set_of c) c.copied.at.seat.node.id c.event.body ≡ true
copier_asks c = copy_asks (then_of c).world c.copied.at.seat c.event c.copied.found c.copied.copy

pub copier_feed : {t : Past} (c : Copier t) → feeds (set_of c) c.event.body ≡ true
copier_feed c = enables_feeds (set_of c) c.copied.at.seat.node.id c.event.body (copier_asks c)

pub copier_enables : {t : Past} (c : Copier t) → enables (set_of c) c.node.id c.event.body ≡ true
copier_enables c = subst (λ id. enables (set_of c) id c.event.body ≡ true) (copier_at c) (copier_asks c)

pub copier_apart : {t : Past} (c : Copier t) → c.event.origin ≢ c.node.id
copier_apart c same = c.copied.at.work.other (same ∙ sym (copier_at c))

-- the provider that leads the set is the origin of the event
pub copier_led : {t : Past} (c : Copier t) →
    is_origin c.copied.copy.provider.node.id (set_of c) (knowledge c.copied.copy.provider.node).config ≡ true →
    c.copied.copy.provider.node.id ≡ c.copied.at.work.event.node.id
copier_led c leads =
    let p = c.copied.copy.provider in
    feeder_is (then_of c) c.event c.copied.at.work.event (set_of c) (copier_feed c) p c.copied.copy.reached.0.0.0
    (origin_row p.node.id (set_of c) (knowledge p.node).config leads)

pub copier_before : {t : Past} (c : Copier t) →
    is_origin c.copied.copy.provider.node.id (set_of c) (knowledge c.copied.copy.provider.node).config ≡ true →
    IsAmong c.event (stream c.copied.copy.provider.node)
copier_before c leads =
    let u = then_of c in
    let p = c.copied.copy.provider in
    let y : IsEvent (nodes_in u.world.places) c.event = c.copied.at.work.event in
    subst (λ n. IsAmong c.event (stream n)) (one_node (nodes_in u.world.places) (regular_now u).nodes y.name p.name
    y.node p.node y.is (seat_node u.world.places p c.copied.copy.reached.0.0.0, sym (copier_led c leads))) y.among

-- the view of a provider that forwards the set is of that origin too
pub copier_origin : {t : Past} (c : Copier t) (v : View) →
    IsSeen (WasUpTo (then_of c)) c.copied.copy.provider.node (set_of c) v → v.origin ≡ c.event.origin
copier_origin c v seen =
    let y : IsEvent (nodes_in (then_of c).world.places) c.event = c.copied.at.work.event in
    seen_leads (then_of c) c.copied.copy.provider.node (set_of c) v seen (record {
      name = y.name;
      node = y.node;
      is = y.is;
      leads = feeder_leads (then_of c) c.event y (set_of c) (copier_feed c);
    }) ∙ y.own

-- the session in which the copy was found had the event
abbrev pub copier_from : (t : Past) (c : Copier t) → WasEvent (WasUpTo t) c.event
copier_from t c =
    record { session = (then_of c).world; was = was_then c.copied.at; is = c.copied.at.work.event }

-- the tables that came into the set before it, came into it before the snapshot that the provider keeps was taken
pub copier_tables : {t : Past} (c : Copier t) (v : View)
    (seen : IsSeen (WasUpTo (then_of c)) c.copied.copy.provider.node (set_of c) v) → (e : Event) →
    IsAmong e (stream c.copied.at.work.event.node) → adds (set_of c) e.body ≡ true → e.number < c.event.number →
    e.number < seen.first.number
copier_tables c v seen e among adds less =
    before_first u (record {
      name = p.name;
      node = p.node;
      is = seat_node u.world.places p c.copied.copy.reached.0.0.0;
      set_id = set_of c;
      view = v;
      seen = seen;
    }) e (record { name = y.name; node = y.node; is = y.is; own = sym from; among = among }) (
      from ∙ sym own,
      adds,
      (let far = c.copied.copy.reached.1 in
          let at = ap (λ i. progress i (knowledge p.node)) (own ∙ y.own) in
          omega (arith, less, far, at)),
    )
  where
    u : Past
    u = then_of c

    p : Seat
    p = c.copied.copy.provider

    y : IsEvent (nodes_in u.world.places) c.event
    y = c.copied.at.work.event

    from : e.origin ≡ y.node.id
    from =
        (among_found y.node.id (stream y.node) e ((regular_now u).nodes.each y.name y.node y.is).emitted among).are.0

    own : v.origin ≡ y.node.id
    own = copier_origin c v seen ∙ sym y.own

-- the view that begins with the copy
abbrev pub seen_from : (t : Past) (c : Copier t) →
    CopySource c.copied.copy.copying c.copied.copy.provider c.copied.copy.seen →
    IsSeen (WasUpTo t) c.node c.copied.copy.copying.set_id (copied_view c.copied.copy)
seen_from t c (FromOrigin leads era same) =
    record {
      moment = copy_moment t c.seat c.event c.brought c.copied;
      own = copier_led c leads ∙ c.copied.at.work.event.own;
      apart = copier_apart c;
      seen = same;
      era = sym era;
      leads = leads;
      enabled = c.event;
      applied = c.applied;
      enables = copier_enables c;
      of = refl;
      since = c.since;
      first = c.event;
      before = copier_before c leads;
      from = copier_from t c;
      tables = λ e among adds less. less;
    }
seen_from t c (FromForwarder v found era forward same) =
    record {
      moment = moment_of (WasUpTo (then_of c)) (WasUpTo t) (earlier c.copied.at) (c.seen v found).moment;
      own = (c.seen v found).own ∙ copier_origin c v (c.seen v found);
      apart = copier_apart c;
      seen = same ∙ (c.seen v found).seen;
      era = sym era ∙ (c.seen v found).era;
      leads = (c.seen v found).leads;
      enabled = c.event;
      applied = c.applied;
      enables = copier_enables c;
      of = refl;
      since = c.since;
      first = (c.seen v found).first;
      before = (c.seen v found).before;
      from = copier_from t c;
      tables = copier_tables c v (c.seen v found);
    }

-- who gives it
abbrev pub source_of : {t : Past} (c : Copier t) →
    CopySource c.copied.copy.copying c.copied.copy.provider c.copied.copy.seen
source_of c = copy_source (then_of c).world c.copied.at.seat c.event c.copied.found c.copied.copy

copy_seen : (t : Past) (c : Copier t) → AllByRecursion (λ v. IsSeen (WasUpTo t) c.node v.0 v.1) c.brought.views
copy_seen t c =
    subst (λ (b : Brought). AllByRecursion (λ v. IsSeen (WasUpTo t) c.node v.0 v.1) b.views) (sym c.copied.is)
    (seen_from t c (source_of c), tt)

-- ---- a SYNC

pub stays_streaming : (a : Node) (q : Place) (b : Node) → Stays a q → q.node ≡ Some b → (e : Event) →
    IsAmong e (stream a) → IsAmong e (stream b)
stays_streaming a q b stays is e among =
    subst (λ n. IsAmong e (stream n)) (one_found stays.node b (sym stays.is ∙ is))
    (subst (IsAmong e) (sym stays.all) (among_behind e stays.more (stream a) among))

-- a view with another number and another base
abbrev seen_with : (Was : World → Type 0) (n : Node) (set : ℕ) (v : View) (number : ℕ) (base : ℕ × Snapshot) →
    IsSeen Was n set v → IsSeen Was n set (record v { number = number; base_era = base.0; base = base.1 })
seen_with Was n set v number base is =
    record {
      moment = is.moment;
      own = is.own;
      apart = is.apart;
      seen = is.seen;
      era = is.era;
      leads = is.leads;
      enabled = is.enabled;
      applied = is.applied;
      enables = is.enables;
      of = is.of;
      since = is.since;
      first = is.first;
      before = is.before;
      from = is.from;
      tables = is.tables;
    }

-- a view of a set that the node begins to forward
abbrev pub based_seen : (Was : World → Type 0) (n : Node) (set : ℕ) (v : View) → IsSeen Was n set v →
    IsSeen Was n set (based v)
based_seen Was n set v is = seen_with Was n set v v.number (v.era, v.seen) is

-- a view whose snapshot covers that of a SYNC
abbrev pub same_seen : (Was : World → Type 0) (n : Node) (set : ℕ) (v : View) (number : ℕ) → IsSeen Was n set v →
    IsSeen Was n set (record v { number = number })
same_seen Was n set v number is = seen_with Was n set v number (v.base_era, v.base) is

-- the set is led in the session in which the event was emitted
abbrev LedThen : {Was : World → Type 0} {n : Node} {set : ℕ} {v : View} {e : Event} → IsSeen Was n set v →
    IsEmitted Was e → Type 0
LedThen {set = set} is emitted =
    (is_origin emitted.moment.node.id set (knowledge emitted.moment.node).config ≡ true)
    × (era_of set (knowledge emitted.moment.node).config ≡ era_of set (knowledge is.moment.node).config)

-- one whose snapshot is older
abbrev pub newer_seen : (Was : World → Type 0) (n : Node) (set : ℕ) (v : View) (e : Event)
    (from : IsEmitted Was e × (e.origin ≡ v.origin)) → (is : IsSeen Was n set v) →
    IsLater is.moment from.0.moment × LedThen is from.0 →
    IsSeen Was n set (record v { number = e.number; seen = e.taken })
newer_seen Was n set v e from is later =
    record {
      moment = from.0.moment;
      own = from.0.own ∙ from.1;
      apart = is.apart;
      seen = from.0.taken;
      era = is.era ∙ sym later.1.1;
      leads = later.1.0;
      enabled = is.enabled;
      applied = is.applied;
      enables = is.enables;
      of = is.of;
      since = is.since;
      first = is.first;
      from = is.from;
      tables = is.tables;
      before = stays_streaming is.moment.node from.0.moment.place from.0.moment.node later.0.stays
          from.0.moment.at is.first is.before;
    }

-- where it does not cover that of a SYNC of its origin, it is older
pub is_older : (t : Past) (n : Node) (set : ℕ) (v : View) (e : Event)
    (from : IsEmitted (WasUpTo t) e × (e.origin ≡ v.origin)) →
    (is : IsSeen (WasUpTo t) n set v) → covers v.seen e.taken ≡ false →
    IsLater is.moment from.0.moment
is_older t n set v e from is differ =
    elim (two_moments t is.moment from.0.moment (is.own ∙ sym from.1 ∙ sym from.0.own)) [
      | inl later ↦ later
      | inr earlier ↦ absurd (true≢false (sym (covers_passes v.seen e.taken
          (subst (λ k. Covers k e.taken) (sym is.seen)
          (subst (Covers (taken is.moment.place)) (sym from.0.taken) earlier.covers))) ∙ differ))
    ]

-- the view behind a SYNC of its origin, which the node may apply next
seen_after : (t : Past) (k : Viewer t) (e : Event) → IsEvent (nodes_in t.world.places) e → is_sync e.body ≡ true →
    (e.origin ≡ k.view.origin) × (e.number ≤ suc (progress k.view.origin (knowledge k.node))) →
    IsSeen (WasUpTo t) k.node k.set_id (view_after e k.view)
seen_after t k e event sync of = by (covers v.seen e.taken) refl
  where
    n : Node
    n = k.node

    set : ℕ
    set = k.set_id

    v : View
    v = k.view

    is : IsSeen (WasUpTo t) n set v
    is = k.seen

    at : SyncAt t e
    at = sync_in t e event sync

    emitted : IsEmitted (WasUpTo t) e
    emitted = sync_emitted t e sync at

    led : IsLater is.moment emitted.moment → LedThen is emitted
    led later =
        stays_leading is.moment.node at.moment.place at.moment.node later.stays at.moment.at set is.leads
        (sync_live t k e event at of later)

    by : (b : Bool) → covers v.seen e.taken ≡ b →
        IsSeen (WasUpTo t) n set (record v { number = e.number; seen = cond b v.seen e.taken })
    by true same = same_seen (WasUpTo t) n set v e.number is
    by false differ =
        let later = is_older t n set v e (emitted, of.0) is differ in
        newer_seen (WasUpTo t) n set v e (emitted, of.0) is (later, led later)

pub syncs_seen : (P : ℕ × View → Type 0) (here : Place) (ts : List SetSync) (b : Brought) →
    AllByRecursion (λ t. P (t.set_id, t.view)) ts → AllByRecursion P b.views →
    AllByRecursion P (with_syncs here ts b).views
syncs_seen P here [] b all old = old
syncs_seen P here (t ∷ more) b all old = syncs_seen P here more (with_sync here t b) all.1 (all.0, old)

synced_seen : (t : Past) (origin : ℕ) (s : Seat) (e : Event) (b : Brought) → IsWork t.world origin s e →
    IsSynced t s e b → AllByRecursion (λ v. IsSeen (WasUpTo t) s.node v.0 v.1) (knowledge s.node).views →
    AllByRecursion (λ v. IsSeen (WasUpTo t) s.node v.0 v.1) b.views
synced_seen t origin s e b work y all =
    subst (λ (c : Brought). AllByRecursion P c.views) (sym y.is)
    (syncs_seen P s.place y.syncs nothing_brought
    (all_map (IsKept s.known e) (λ (z : SetSync). P (z.set_id, z.view))
    (λ z k. subst (IsSeen (WasUpTo t) s.node z.set_id) (sym k.view)
    (seen_after t (viewer z k) e work.event (ap is_sync y.follows.body) (
      sym k.origin,
      (let next = work.next in
          let at = ap (λ i. progress i (knowledge s.node)) k.origin in
          omega (arith, next, at)),
    ))) y.syncs y.kept) tt)
  where
    P : ℕ × View → Type 0
    P v = IsSeen (WasUpTo t) s.node v.0 v.1

    viewer : (z : SetSync) → IsKept s.known e z → Viewer t
    viewer z k = record {
      name = s.name;
      node = s.node;
      is = seat_node t.world.places s work.seat;
      set_id = z.set_id;
      view = z.before;
      seen = all_among P (z.set_id, z.before) (knowledge s.node).views all
          (subst (λ (j : Knowledge). IsAmong (z.set_id, z.before) j.views) work.seat.known k.among);
    }

-- ---- all views

-- no event of a kind that is emitted changes views
pub same_views : (e : Event) (body : Body) (vs : Map View) → is_emitted body ≡ true → views_emitted e body vs ≡ vs
same_views e (MoveSet set old new era feeds) vs may = absurd (false≢true may)
same_views e (FailoverSet failed limit sets) vs may = absurd (false≢true may)
same_views e others vs may = refl

views_with : (P : ℕ × View → Type 0) (new old : Map View) → AllByRecursion P new → AllByRecursion P old →
    AllByRecursion P (with_views new old)
views_with P [] old all kept = kept
views_with P (v ∷ more) old all kept =
    all_with P v.0 v.1 (with_views more old) all.0 (views_with P more old all.1 kept)

-- the node that applies the event gave the set up before that alone
pub copied_since : (t : Past) (x : Carried) (origin : ℕ) → IsTaken t origin x →
    (k : IsCopied t x.seat x.event x.brought) →
    IsSince k.copy.copying.set_id x.seat.node x.event (x.event ∷ applied_events x.seat.node)
copied_since t x origin is k e (inl same) own left =
    absurd (enables_stays k.copy.copying.set_id k.at.seat.node.id x.seat.node.id x.event.body
    (copy_asks k.at.to.world k.at.seat x.event k.found k.copy)
    (subst (λ (f : Event). leaves k.copy.copying.set_id x.seat.node.id f.body ≡ true) same left))
  where
    enables_stays : (set node own : ℕ) (body : Body) → enables set node body ≡ true → leaves set own body ≡ true → ⊥
    enables_stays set node own (UnsubscribeSet id receiver) on left = absurd (false≢true on)
    enables_stays set node own (DropSet id) on left = absurd (false≢true on)
    enables_stays set node own others on left = absurd (false≢true left)
copied_since t x origin is k e (inr old) own left = applied_before t x origin is e old own

brought_seen : (t : Past) → KnewAll AreSeen t → (x : Carried) (origin : ℕ) → IsTaken t origin x →
    AllByRecursion (λ v. IsSeen (WasUpTo t) x.seat.node v.0 v.1) (knowledge x.seat.node).views →
    IsBrought t x.seat x.event x.brought →
    AllByRecursion (λ v. IsSeen (WasUpTo t) (with_deeds (taking x).deeds x.seat.node) v.0 v.1) x.brought.views
brought_seen t knew x origin is all (Nothing n) =
    subst (λ (c : Brought). AllByRecursion (λ v. IsSeen (WasUpTo t) (with_deeds (taking x).deeds x.seat.node) v.0 v.1)
    c.views) (sym n.none) tt
brought_seen t knew x origin is all (Copies k) =
    copy_seen t (record {
      seat = x.seat;
      event = x.event;
      brought = x.brought;
      is = is.work.seat;
      copied = k;
      seen = provider;
      node = with_deeds (taking x).deeds x.seat.node;
      id = refl;
      applied = inl refl;
      since = copied_since t x origin is k;
    })
  where
    p : Seat
    p = k.copy.provider

    provider : ProviderSeen k
    provider v found =
        seen_later k.at.to p.node k.copy.copying.set_id v (all_among (λ v. IsSeen (WasBefore k.at.to) p.node v.0 v.1)
        (k.copy.copying.set_id, v) (knowledge p.node).views
        (knew k.at.to k.at.within p.name p.node (seat_node k.at.to.world.places p k.copy.reached.0.0.0))
        (found_stands k.copy.copying.set_id v (knowledge p.node).views found))
brought_seen t knew x origin is all (Brings y) =
    all_map (λ v. IsSeen (WasUpTo t) x.seat.node v.0 v.1)
    (λ v. IsSeen (WasUpTo t) (with_deeds (taking x).deeds x.seat.node) v.0 v.1)
    (λ v. seen_taken t x v.0 v.1 (ap (leaves v.0 x.seat.node.id) y.follows.body)) x.brought.views
    (synced_seen t origin x.seat x.event x.brought is.work y all)

pub views_seen : NodeLives AreSeen
views_seen = record {
  later = λ t n.
      all_map (λ v. IsSeen (WasBefore t) n v.0 v.1) (λ v. IsSeen (WasUpTo t) n v.0 v.1)
      (λ v. seen_later t n v.0 v.1) (knowledge n).views;
  logs = λ t n p xid was.
      all_seen (WasUpTo t) n (with_commit xid p n) refl refl (knowledge n).views was;
  tells = λ t s is number m n says was.
      subst (λ vs. AllByRecursion (λ v. IsSeen (WasUpTo t) (with_deeds (deed_of s number m ∷ []) n) v.0 v.1) vs)
      (sym (same_views (event_of s number m.body) m.body (knowledge n).views (says_emitted s n m says)))
      (all_seen (WasUpTo t) n (with_deeds (deed_of s number m ∷ []) n) refl refl (knowledge n).views was);
  takes = λ t knew x origin is was.
      let m : Node = with_deeds (taking x).deeds x.seat.node in
      let k = knowledge x.seat.node in
      views_with (λ v. IsSeen (WasUpTo t) m v.0 v.1) x.brought.views
      (views_told x.seat.node.id x.event.body k.config k.views)
      (brought_seen t knew x origin is was is.brings)
      (all_told (λ v. IsSeen (WasUpTo t) m v.0 v.1) x.seat.node.id x.event.body k.config k.views
      (λ v seen. based_seen (WasUpTo t) m v.0 v.1 seen)
      (all_map (λ v. IsSeen (WasUpTo t) x.seat.node v.0 v.1)
      (λ v. leaves v.0 x.seat.node.id x.event.body ≡ false → IsSeen (WasUpTo t) m v.0 v.1)
      (λ v seen stays. seen_taken t x v.0 v.1 stays seen) k.views was));
  hears = λ t s confirms was.
      all_seen (WasUpTo t) s.node (with_deeds (deed s.place [] [] (HearsOf confirms) ∷ []) s.node) refl
      refl (knowledge s.node).views was;
  becomes = λ t knew n deeds views knows.
      subst (λ ds. AreSeen (WasUpTo t) (record n { deeds = ds })) (sym deeds)
      (subst (AllByRecursion (λ v. IsSeen (WasUpTo t) (record n { deeds = [] }) v.0 v.1)) (sym views) tt);
}
