-- The snapshot of a view sees all that each SYNC of its origin saw which the node has applied.
use Rattle.stream_laws.proofs.Copies.{origin_row}
use Rattle.std.proofs.Common.{◌≡◌, ◌≢◌, ◌⊎◌, inl, inr, ℕ, Bool, true, false, cond, List, [], ◌∷◌, Some}
use Rattle.std.proofs.Common.{refl, sym, ap, subst, ◌∙◌, arith, ◌<◌, ◌≤◌, not}
use Rattle.std.specs.Prelude.{◌==◌, ◌&&◌}
use Rattle.std.specs.List.{AllByRecursion}
use Rattle.std.proofs.lemmas.Bool.{true≢false, eq-eqb, and_from, cases_lt, eqb-true, false_from_ne_true}
use Rattle.slon_model.specs.Names.{find_named}
use Rattle.slon_model.specs.Maps.{Map, entry_at, number_at}
use Rattle.slon_model.specs.Snapshots.{Covers, covers}
use Rattle.slon_model.specs.Events.{Event, is_sync}
use Rattle.slon_model.specs.Deeds.{Node, Brought, Knowledge, knowledge, nothing_brought, progress, stream}
use Rattle.slon_model.specs.Deeds.{view_of, with_deeds}
use Rattle.slon_model.specs.Following.{SetSync, kept_from}
use Rattle.slon_model.specs.Place.{taken}
use Rattle.slon_model.specs.Sessions.{World, Seat}
use Rattle.slon_model.specs.Views.{View, based, view_after, views_told}
use Rattle.slon_model.specs.Working.{Carried, receives_from}
use Rattle.slon_model.proofs.Names.{all_map}
use Rattle.slon_laws.proofs.Later.{HoldsOf}
use Rattle.stream_laws.specs.Nodes.{IsAmong, nodes_in, node_in, IsEvent}
use Rattle.stream_laws.specs.Applied.{HasApplied, applied_events, of_origin}
use Rattle.stream_laws.proofs.Copies.{copies_silent, vain_silent}
use Rattle.stream_laws.proofs.Laws.{events_are_applied_once}
use Rattle.stream_laws.proofs.Lists.{all_among, among_any}
use Rattle.stream_laws.proofs.Seats.{IsSeat, seat_node}
use Rattle.image_laws.proofs.Logging.{among_filtered, filtered_among}
use Rattle.view_laws.specs.Known.{IsEmitted, IsSeen, WasEvent, feeds}
use Rattle.view_laws.specs.Laws.{ViewsReach}
use Rattle.view_laws.specs.Past.{Moment, Past, WasUpTo, past, WasBefore}
use Rattle.view_laws.proofs.Doing.{IsTaken, taking}
use Rattle.view_laws.proofs.Emitted.{emitted_in}
use Rattle.view_laws.proofs.Going.{after_covers}
use Rattle.view_laws.proofs.Viewed.{rising_now, seen_now}
use Rattle.view_laws.proofs.Brought.{Finding, IsBrought, IsCopied, IsKept, Nothing, Copies, Brings}
use Rattle.view_laws.proofs.Applied.{applied_above, applied_at, applied_within, event_before}
use Rattle.view_laws.proofs.Living.{NodeLives, event_of, knew, node_lives, KnewAll}
use Rattle.view_laws.proofs.Moments.{node_now, now_stays, one_name, passes_covers, regular_now, taken_covers}
use Rattle.view_laws.proofs.Rising.{found_in, found_stands, stands_found}
use Rattle.view_laws.proofs.Seen.{same_views, syncs_seen}
use Rattle.image_laws.proofs.Staying.{Stays}
use Rattle.view_laws.proofs.Turned.{IsBased, IsSame, IsToldAs, found_told}
use Rattle.view_laws.proofs.Saying.{says_emitted}
use Rattle.view_laws.proofs.Walking.{lives_in}
use Rattle.view_laws.proofs.Unmoved.{none_kept, since, view_then}
use Rattle.view_laws.proofs.Copied.{CopySource, FromOrigin, FromForwarder, copy_asks, copy_source, enables_feeds}
use Rattle.view_laws.proofs.Copied.{feeder_is}
use Rattle.view_laws.proofs.Copied.{feeder_leads, seen_leads}
use Rattle.view_laws.proofs.Brought.{copied_view, was_then}
use Rattle.stream_laws.proofs.Streams.{among_found}
use Rattle.view_laws.proofs.Reached.{one_of}

-- ---- a SYNC is followed

-- A view that the node keeps of the origin of a SYNC is brought, so one that is not brought is of another origin.
pub not_brought : (t : Past) (origin : ℕ) (x : Carried) → IsTaken t origin x → (set : ℕ) (v : View) →
    (view_of set (knowledge x.seat.node) ≡ Some v) × AllByRecursion (λ u. u.0 ≢ set) x.brought.views →
    (is_sync x.event.body ≡ true) × (x.event.origin ≡ v.origin) → ⊥
not_brought t origin x is set v kept sync = by is.brings
  where
    was : (a : Finding t x.seat x.event) → view_of set (knowledge a.seat.node) ≡ Some v
    was a = view_then t (since origin x is a) set v kept.0 (sym sync.1)

    -- it kept a set of the origin as it found what there is for the event
    received : (a : Finding t x.seat x.event) →
        (receives_from x.event.origin a.seat.known && not (x.event.origin == a.seat.node.id)) ≡ true
    received a =
        and_from (receives_from x.event.origin a.seat.known) (not (x.event.origin == a.seat.node.id))
        (subst (λ (k : Knowledge). receives_from x.event.origin k ≡ true) (sym a.work.seat.known)
        (among_any (λ v. v.1.origin == x.event.origin) (set, v) (knowledge a.seat.node).views
        (found_stands set v (knowledge a.seat.node).views (was a)) (eq-eqb v.origin x.event.origin (sym sync.1))))
        (ap not (false_from_ne_true (x.event.origin == a.seat.node.id)
        (λ same. a.work.other (eqb-true x.event.origin a.seat.node.id same))))

    by : IsBrought t x.seat x.event x.brought → ⊥
    by (Nothing n) = true≢false (sym (received n.at) ∙ vain_silent n.at.to.world n.at.seat x.event n.vain sync.0)
    by (Copies k) =
        true≢false (sym (received k.at) ∙ copies_silent k.at.seat.node.id
        (receives_from x.event.origin k.at.seat.known) x.event.origin x.event.body k.copy.copying k.copy.asked sync.0)
    by (Brings y) =
        all_among (λ u. u.0 ≢ set) (set, v) (kept_from x.event.origin (knowledge y.at.seat.node))
        (none_kept t origin x is y set kept.1)
        (among_filtered (λ u. u.1.origin == x.event.origin) (set, v) (knowledge y.at.seat.node).views
        (found_stands set v (knowledge y.at.seat.node).views (was y.at)) (eq-eqb v.origin x.event.origin (sym sync.1)))
        refl

-- ---- what a view sees

-- The view sees all that the SYNCs of its origin saw that come before an event which was applied, and all that those
-- saw which were applied.
pub record Reaches (Was : World → Type 0) (applied : List Event) (v : View) : Type 0 where
  pub enabled : Event
  pub among : IsAmong enabled applied
  pub from : WasEvent Was enabled
  pub own : enabled.origin ≡ v.origin
  pub earlier : (e : Event) → IsAmong e (stream from.is.node) → e.number ≤ enabled.number →
      is_sync e.body ≡ true → Covers v.seen e.taken
  pub later : (e : Event) → IsAmong e applied → e.origin ≡ v.origin → is_sync e.body ≡ true → Covers v.seen e.taken

abbrev pub AllReach : (World → Type 0) → Node → Type 0
AllReach Was n = (set : ℕ) (v : View) → view_of set (knowledge n) ≡ Some v → Reaches Was (applied_events n) v

abbrev reaches_later : (t : Past) (applied : List Event) (v : View) → Reaches (WasBefore t) applied v →
    Reaches (WasUpTo t) applied v
reaches_later t applied v r =
    record {
      enabled = r.enabled;
      among = r.among;
      from = record { session = r.from.session; was = inr r.from.was; is = r.from.is };
      own = r.own;
      earlier = r.earlier;
      later = r.later;
    }

-- A node that keeps a set in a view.
pub record Keeping (t : Past) : Type 0 where
  pub name : List ℕ
  pub node : Node
  pub is : nodes_in t.world.places name ≡ Some node
  pub view : View
  pub apart : view.origin ≢ node.id
  pub reaches : Reaches (WasUpTo t) (applied_events node) view

-- so it sees all that each SYNC of the origin saw up to which the node is, whether it applied that or was given it
pub keeper_sees : (t : Past) (k : Keeping t) (e : Event) → IsEvent (nodes_in t.world.places) e →
    e.origin ≡ k.view.origin → is_sync e.body ≡ true → e.number ≤ progress k.view.origin (knowledge k.node) →
    Covers k.view.seen e.taken
keeper_sees t k e is own sync far = by (cases_lt r.enabled.number e.number)
  where
    r : Reaches (WasUpTo t) (applied_events k.node) k.view
    r = k.reaches

    origin : ℕ
    origin = k.view.origin

    es : List Event
    es = of_origin origin (applied_events k.node)

    has : HasApplied k.node.id k.node.given.progress (knowledge k.node).progress (applied_events k.node)
    has = ((regular_now t).nodes.each k.name k.node k.is).applied

    given : ℕ
    given = number_at origin k.node.given.progress

    by : (r.enabled.number < e.number) ⊎ (e.number ≤ r.enabled.number) → Covers k.view.seen e.taken
    by (inr before) =
        r.earlier e (event_before t r.from.session r.from.was r.enabled r.from.is e is (own ∙ sym r.own, before)) before
        sync
    by (inl behind) =
        r.later e (subst (λ f. IsAmong f (applied_events k.node)) same there.0) own sync
      where
        above : given < r.enabled.number
        above =
            applied_above given es r.enabled (has.each origin k.apart)
            (among_filtered (λ f. f.origin == origin) r.enabled (applied_events k.node) r.among
            (eq-eqb r.enabled.origin origin r.own))

        found : (f : Event) × IsAmong f es × (f.number ≡ e.number)
        found = applied_at given es (has.each origin k.apart) e.number (omega (arith, above, behind))
            (let all = has.all origin k.apart in omega (arith, all, far))

        there : IsAmong found.0 (applied_events k.node) × ((found.0.origin == origin) ≡ true)
        there = filtered_among (λ f. f.origin == origin) found.0 (applied_events k.node) found.1

        same : found.0 ≡ e
        same =
            one_of t found.0 e ((events_are_applied_once t.limit t.history t.world t.leads).events k.name k.node k.is
            found.0 there.0) is (eqb-true found.0.origin origin there.1 ∙ sym own, found.2)

-- a node sees all that each event saw which it had emitted
pub own_covered : (t : Past) (s : Seat) → IsSeat t.world.places s → (e : Event) → IsEmitted (WasUpTo t) e →
    e.origin ≡ s.node.id → Covers (taken s.place) e.taken
own_covered t s is e emitted own =
    subst (Covers (taken s.place)) (sym emitted.taken)
    (taken_covers t m.session m.was m.name m.place s.place m.found
    (ap (λ name. find_named name t.world.places) (one_name t (node_now t m now) (record {
      name = s.name;
      place = s.place;
      found = is.found;
      node = s.node;
      at = is.node;
    }) (now.2.id ∙ emitted.own ∙ own)) ∙ is.found))
  where
    m : Moment (WasUpTo t)
    m = emitted.moment

    now : HoldsOf (Stays m.node) m.name t.world.places
    now = now_stays t m.session m.was m.name m.place m.node m.found m.at

-- the view behind a SYNC sees what the SYNC saw
after_reaches : (e : Event) (v : View) → Covers (view_after e v).seen e.taken
after_reaches e v = by (covers v.seen e.taken) refl
  where
    by : (b : Bool) → covers v.seen e.taken ≡ b → Covers (cond b v.seen e.taken) e.taken
    by true same = passes_covers v.seen e.taken same
    by false differ = λ x sees. sees

-- ---- a copy

-- the snapshot of a copy sees all that the SYNCs of the origin saw before the event
copy_sees : {s : Seat} {e : Event} {b : Brought} (t : Past) (k : IsCopied t s e b) → KnewAll AllReach t →
    (f : Event) → IsAmong f (stream k.at.work.event.node) → (f.number ≤ e.number) × (is_sync f.body ≡ true) →
    Covers k.copy.seen f.taken
copy_sees {s} {e} {b} t k knew f among before = by (copy_source u.world k.at.seat e k.found k.copy)
  where
    u : Past
    u = k.at.to

    set : ℕ
    set = k.copy.copying.set_id

    p : Seat
    p = k.copy.provider

    seat : IsSeat u.world.places p
    seat = k.copy.reached.0.0.0

    y : IsEvent (nodes_in u.world.places) e
    y = k.at.work.event

    from : f.origin ≡ y.node.id
    from =
        (among_found y.node.id (stream y.node) f ((regular_now u).nodes.each y.name y.node y.is).emitted among).are.0

    event : IsEvent (nodes_in u.world.places) f
    event = record { name = y.name; node = y.node; is = y.is; own = sym from; among = among }

    feed : feeds set e.body ≡ true
    feed = enables_feeds set k.at.seat.node.id e.body (copy_asks u.world k.at.seat e k.found k.copy)

    by : CopySource k.copy.copying p k.copy.seen → Covers k.copy.seen f.taken
    by (FromOrigin leads era same) =
        subst (λ seen. Covers seen f.taken) (sym same) (own_covered u p seat f (emitted_in u f event)
        (from ∙ sym (feeder_is u e y set feed p seat (origin_row p.node.id set (knowledge p.node).config leads))))
    by (FromForwarder v found era forward same) =
        subst (λ seen. Covers seen f.taken) (sym same) (keeper_sees u (record {
          name = p.name;
          node = p.node;
          is = seat_node u.world.places p seat;
          view = v;
          apart = seen.apart;
          reaches = reaches_later u (applied_events p.node) v
              (knew u k.at.within p.name p.node (seat_node u.world.places p seat) set v found);
        }) f event (from ∙ sym own) before.1
        (let less = before.0 in let far = k.copy.reached.1 in
        let at = ap (λ i. progress i (knowledge p.node)) (own ∙ y.own) in
        omega (arith, less, far, at)))
      where
        seen : IsSeen (WasUpTo u) p.node set v
        seen = seen_now u p.name p.node (seat_node u.world.places p seat) set v found

        own : v.origin ≡ y.node.id
        own = seen_leads u p.node set v seen (record {
          name = y.name;
          node = y.node;
          is = y.is;
          leads = feeder_leads u e y set feed;
        })

-- ---- each view

takes_reach : (t : Past) → KnewAll AllReach t → (x : Carried) (origin : ℕ) → IsTaken t origin x →
    AllReach (WasUpTo t) x.seat.node → AllReach (WasUpTo t) (with_deeds (taking x).deeds x.seat.node)
takes_reach t knew x origin is was set v found =
    by is.brings (found_in set v x.brought.views views found)
  where
    n : Node
    n = x.seat.node

    own : nodes_in t.world.places x.seat.name ≡ Some n
    own = seat_node t.world.places x.seat is.work.seat

    now : List Event
    now = x.event ∷ applied_events n

    -- what was applied is of the session, and of the origin of the event no later than that
    applied : (e : Event) → IsAmong e now → e.origin ≡ x.event.origin →
        IsEvent (nodes_in t.world.places) e × (e.number ≤ x.event.number)
    applied e (inl same) from = (
      subst (IsEvent (nodes_in t.world.places)) (sym same) is.work.event,
      let one = ap (λ (f : Event). f.number) same in omega (arith, one),
    )
    applied e (inr later) from = (
      (events_are_applied_once t.limit t.history t.world t.leads).events x.seat.name n own e later,
      let within = applied_within (number_at x.event.origin n.given.progress) (of_origin x.event.origin
          (applied_events n)) e (has.each x.event.origin is.work.other)
          (among_filtered (λ f. f.origin == x.event.origin) e (applied_events n) later
          (eq-eqb e.origin x.event.origin from)) in
          let far = has.all x.event.origin is.work.other in
          let next = is.work.next in
          omega (arith, within, far, next),
    )
      where
        has : HasApplied n.id n.given.progress (knowledge n).progress (applied_events n)
        has = ((regular_now t).nodes.each x.seat.name n own).applied

    views : Map View
    views = views_told n.id x.event.body (knowledge n).config (knowledge n).views

    kept_on : (v : View) → (view_of set (knowledge n) ≡ Some v) × AllByRecursion (λ u. u.0 ≢ set) x.brought.views →
        Reaches (WasUpTo t) now v
    kept_on v kept =
        let r = was set v kept.0 in
        record {
          enabled = r.enabled;
          among = inr r.among;
          from = r.from;
          own = r.own;
          earlier = r.earlier;
          later = λ e among from sync. elim among [
            | inl same ↦ absurd (not_brought t origin x is set v kept (
              ap (λ (f : Event). is_sync f.body) (sym same) ∙ sync,
              ap (λ (f : Event). f.origin) (sym same) ∙ from,
            ))
            | inr later ↦ r.later e later from sync
          ];
        }

    based_reaches : (v : View) → Reaches (WasUpTo t) now v → Reaches (WasUpTo t) now (based v)
    based_reaches v r = record {
      enabled = r.enabled;
      among = r.among;
      from = r.from;
      own = r.own;
      earlier = r.earlier;
      later = r.later;
    }

    told : (u : View) → IsToldAs n.id set x.event.body (knowledge n).config u v → Reaches (WasUpTo t) now u →
        Reaches (WasUpTo t) now v
    told u (IsSame same) r = subst (Reaches (WasUpTo t) now) (sym same) r
    told u (IsBased same turns) r = subst (Reaches (WasUpTo t) now) (sym same) (based_reaches u r)

    old : (entry_at set views ≡ Some v) × AllByRecursion (λ u. u.0 ≢ set) x.brought.views →
        Reaches (WasUpTo t) now v
    old kept =
        let of = found_told n.id set x.event.body (knowledge n).config (knowledge n).views v kept.0 in
        told of.0 of.2 (kept_on of.0 (of.1, kept.1))

    copied : (k : IsCopied t x.seat x.event x.brought) → Reaches (WasUpTo t) now (copied_view k.copy)
    copied k = record {
      enabled = x.event;
      among = inl refl;
      from = record { session = k.at.to.world; was = was_then k.at; is = k.at.work.event };
      own = refl;
      earlier = λ e among less sync. copy_sees t k knew e among (less, sync);
      later = λ e among from sync.
          let a = applied e among from in
          copy_sees t k knew e
          (event_before t k.at.to.world (was_then k.at) x.event k.at.work.event e a.0 (from, a.1)) (a.1, sync);
    }

    by : IsBrought t x.seat x.event x.brought → IsAmong (set, v) x.brought.views
        ⊎ ((entry_at set views ≡ Some v) × AllByRecursion (λ u. u.0 ≢ set) x.brought.views) →
        Reaches (WasUpTo t) now v
    by any (inr kept) = old kept
    by (Nothing s) (inl new) = absurd (subst (λ (b : Brought). IsAmong (set, v) b.views) s.none new)
    by (Copies k) (inl new) = first (subst (λ (b : Brought). IsAmong (set, v) b.views) k.is new)
      where
        one : ℕ × View
        one = (k.copy.copying.set_id, copied_view k.copy)

        first : IsAmong (set, v) (one ∷ []) → Reaches (WasUpTo t) now v
        first (inl same) = subst (λ (u : ℕ × View). Reaches (WasUpTo t) now u.1) (sym same) (copied k)
        first (inr never) = absurd never
    by (Brings y) (inl new) =
        let of = all_among P (set, v) x.brought.views brought new in
        let here = stands_found set of.0 (knowledge n).views (rising_now t x.seat.name n own) of.1 in
        subst (Reaches (WasUpTo t) now) (sym of.3) (after of.0 here (sym of.2))
      where
        P : ℕ × View → Type 0
        P u = (y : View) × IsAmong (u.0, y) (knowledge n).views × (y.origin ≡ x.event.origin)
            × (u.1 ≡ view_after x.event y)

        brought : AllByRecursion P x.brought.views
        brought =
            subst (λ (b : Brought). AllByRecursion P b.views) (sym y.is)
            (syncs_seen P x.seat.place y.syncs nothing_brought
            (all_map (IsKept x.seat.known x.event) (λ (s : SetSync). P (s.set_id, s.view))
            (λ s kept. (
              s.before,
              subst (λ (j : Knowledge). IsAmong (s.set_id, s.before) j.views) is.work.seat.known kept.among,
              kept.origin,
              kept.view,
            )) y.syncs y.kept) tt)

        after : (y : View) → view_of set (knowledge n) ≡ Some y → x.event.origin ≡ y.origin →
            Reaches (WasUpTo t) now (view_after x.event y)
        after y here own_view =
            let r = was set y here in
            let covers = after_covers t n set y x.event (emitted_in t x.event is.work.event) own_view
            (seen_now t x.seat.name n own set y here) in
            record {
              enabled = r.enabled;
              among = inr r.among;
              from = r.from;
              own = r.own;
              earlier = λ e among less sync id sees. covers id (r.earlier e among less sync id sees);
              later = λ e among from sync. elim among [
                | inl same ↦ subst (λ (f : Event). Covers (view_after x.event y).seen f.taken) (sym same)
                    (after_reaches x.event y)
                | inr later ↦ λ id sees. covers id (r.later e later from sync id sees)
              ];
            }

views_reaching : NodeLives AllReach
views_reaching = record {
  later = λ t n was set v found. reaches_later t (applied_events n) v (was set v found);
  logs = λ t n p xid was. was;
  tells = λ t s is number m n says was set v found.
      was set v (ap (entry_at set)
      (sym (same_views (event_of s number m.body) m.body (knowledge n).views (says_emitted s n m says))) ∙ found);
  takes = λ t knew x origin is was. takes_reach t knew x origin is was;
  hears = λ t s confirms was. was;
  becomes = λ t knew n deeds views knows.
      subst (λ ds. AllReach (WasUpTo t) (record n { deeds = ds })) (sym deeds)
      (λ set v found. none_found set v (ap (entry_at set) (sym views) ∙ found));
}
  where
    none_found : {X : Type 0} (set : ℕ) (v : View) → entry_at set [] ≡ Some v → X
    none_found set v found = absurd cc

-- what is known of each view that a node keeps
pub reaches_now : (t : Past) (name : List ℕ) (n : Node) → nodes_in t.world.places name ≡ Some n → (set : ℕ) (v : View) →
    view_of set (knowledge n) ≡ Some v → Reaches (WasUpTo t) (applied_events n) v
reaches_now t name n is set v found =
    reaches_later t (applied_events n) v
    (knew AllReach t (lives_in (node_lives views_reaching) t) name n is set v found)

pub views_reach : ViewsReach
views_reach limit history w leads name p found n is set v view =
    (reaches_now (past limit history w leads) name n (ap node_in found ∙ is) set v view).later

-- the snapshot of a copy sees all that the SYNCs of the origin saw before the event
pub copy_covers : (t : Past) (s : Seat) (e : Event) (b : Brought) (k : IsCopied t s e b) → (f : Event) →
    IsAmong f (stream k.at.work.event.node) → (f.number ≤ e.number) × (is_sync f.body ≡ true) →
    Covers k.copy.seen f.taken
copy_covers t s e b k =
    copy_sees t k (λ u to. knew AllReach u (lives_in (node_lives views_reaching) u))
