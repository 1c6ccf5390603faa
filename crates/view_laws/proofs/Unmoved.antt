-- Between the session in which a node found what is to come with an event and the one in which it applies that, no
-- other event of the origin is applied: the node keeps the same views of sets of that origin, and the origin had
-- emitted all events before that one.
use Rattle.std.proofs.Common.{◌≡◌, ◌∙◌, inl, inr, ℕ, suc, ◌≤◌, Bool, true, false, cond, List, [], ◌∷◌}
use Rattle.std.proofs.Common.{◌≢◌, Some, refl, sym, ap, subst, arith, filter, length}
use Rattle.std.specs.Prelude.{◌==◌, ◌+◌, nat_lt}
use Rattle.std.specs.Str.{bytes_eq}
use Rattle.std.specs.List.{AllByRecursion}
use Rattle.std.proofs.lemmas.Bool.{and_from, eq-eqb}
use Rattle.slon_model.specs.Names.{find_named}
use Rattle.slon_model.specs.Maps.{Map, entry_at, number_at, with_entry}
use Rattle.slon_model.specs.Events.{Event}
use Rattle.slon_model.specs.Views.{View, views_told, with_views}
use Rattle.slon_model.specs.Deeds.{Node, Brought, Knowledge, knowledge, nothing_brought, progress, stream}
use Rattle.slon_model.specs.Deeds.{view_of, with_deeds}
use Rattle.slon_model.specs.Following.{SetSync, kept_from, with_sync, with_syncs}
use Rattle.slon_model.specs.Snapshots.{Snapshot}
use Rattle.slon_model.specs.Turns.{same_snapshot}
use Rattle.slon_model.specs.Place.{Place}
use Rattle.slon_model.specs.Sessions.{Seat}
use Rattle.slon_model.specs.Working.{Carried, is_view, same_view, stands}
use Rattle.slon_model.proofs.Names.{all_map, bytes_itself, one_found}
use Rattle.slon_laws.proofs.Later.{HoldsOf}
use Rattle.stream_laws.specs.Nodes.{IsAmong, nodes_in, IsEvent}
use Rattle.stream_laws.specs.Applied.{applied_events, of_origin}
use Rattle.stream_laws.specs.Making.{AreEmitted}
use Rattle.stream_laws.proofs.Lists.{all_among, among_all}
use Rattle.stream_laws.proofs.Seats.{IsSeat, seat_node}
use Rattle.stream_laws.proofs.Works.{IsWork}
use Rattle.image_laws.proofs.Logging.{among_filtered, filtered_among}
use Rattle.view_laws.specs.Known.{IsSeen, enables, feeds, leaves}
use Rattle.view_laws.specs.Past.{Past, WasUpTo}
use Rattle.view_laws.proofs.Brought.{Finding, IsBrought, IsCopied, IsKept, IsPart, IsSynced, Nothing, Copies, Brings}
use Rattle.view_laws.proofs.Brought.{Whole, Standing, was_then, taken_each, taken_back, same_id}
use Rattle.view_laws.proofs.Doing.{IsTaken, taking}
use Rattle.view_laws.proofs.Living.{HasNode, NodeGoes, event_of, node_passes}
use Rattle.view_laws.proofs.Reached.{Reached, past_of, reached_up_to, regular_now, event_now}
use Rattle.view_laws.proofs.Rising.{found_in, found_stands, stands_found}
use Rattle.view_laws.proofs.Seen.{same_views, syncs_seen}
use Rattle.view_laws.proofs.Turned.{Touches, Turns, filter_told, found_told, told_like, turns_feeds}
use Rattle.view_laws.proofs.Saying.{says_emitted}
use Rattle.view_laws.proofs.Viewed.{rising_now, seen_now}
use Rattle.view_laws.proofs.Walking.{passing_later}
use Rattle.view_laws.proofs.Copied.{copy_asks, enables_feeds, feeder_leads, seen_leads}
use Rattle.view_laws.proofs.Applied.{applied_before, event_before}
use Rattle.view_laws.proofs.Fed.{left_feeds}
use Rattle.view_laws.proofs.Lasting.{Between, left_again}
use Rattle.view_laws.proofs.Standing.{Viewer, left_behind, viewer_event, viewer_stream}
use Rattle.view_laws.proofs.Once.{once_now}

-- ---- what is brought

-- A view that is brought is of the origin of the event, and so is the one that the node keeps of the set, if it does.
pub record IsFrom (s : Seat) (e : Event) (y : ℕ × View) : Type 0 where
  pub own : y.1.origin ≡ e.origin
  pub old : (v : View) → view_of y.0 (knowledge s.node) ≡ Some v → v.origin ≡ e.origin

-- a view that the node keeps of a set that is copied is of the origin of the event
copied_old : (t : Past) (s : Seat) (e : Event) (b : Brought) → IsSeat t.world.places s → (k : IsCopied t s e b) →
    (v : View) → view_of k.copy.copying.set_id (knowledge s.node) ≡ Some v → v.origin ≡ e.origin
copied_old t s e b is k v found =
    seen_leads t s.node set v (seen_now t s.name s.node (seat_node t.world.places s is) set v found) (record {
      name = y.name;
      node = y.node;
      is = y.is;
      leads =
          feeder_leads t e y set (enables_feeds set k.at.seat.node.id e.body
          (copy_asks k.at.to.world k.at.seat e k.found k.copy));
    }) ∙ y.own
  where
    set : ℕ
    set = k.copy.copying.set_id

    y : IsEvent (nodes_in t.world.places) e
    y = event_now t e (record { session = k.at.to.world; was = was_then k.at; is = k.at.work.event })

pub views_from : (t : Past) (s : Seat) (e : Event) (b : Brought) → IsSeat t.world.places s → IsBrought t s e b →
    AllByRecursion (IsFrom s e) b.views
views_from t s e b is (Nothing n) = subst (λ (c : Brought). AllByRecursion (IsFrom s e) c.views) (sym n.none) tt
views_from t s e b is (Copies k) =
    subst (λ (c : Brought). AllByRecursion (IsFrom s e) c.views) (sym k.is) (
      record {
        own = refl;
        old = copied_old t s e b is k;
      },
      tt,
    )
views_from t s e b is (Brings y) =
    subst (λ (c : Brought). AllByRecursion (IsFrom s e) c.views) (sym y.is)
    (syncs_seen (IsFrom s e) s.place y.syncs nothing_brought
    (all_map (IsKept s.known e) (λ (z : SetSync). IsFrom s e (z.set_id, z.view))
    (λ z k. record {
      own = ap (λ (v : View). v.origin) k.view ∙ k.origin;
      old = λ v found. ap (λ (u : View). u.origin) (one_found v z.before (sym found
          ∙ stands_found z.set_id z.before (knowledge s.node).views
          (rising_now t s.name s.node (seat_node t.world.places s is))
          (subst (λ (j : Knowledge). IsAmong (z.set_id, z.before) j.views) is.known k.among))) ∙ k.origin;
    }) y.syncs y.kept) tt)

-- ---- views of another origin

-- an entry of another origin at an id at which none of this one stands
filter_with : (origin id : ℕ) (x : View) (es : Map View) → (x.origin == origin) ≡ false →
    ((v : View) → entry_at id es ≡ Some v → (v.origin == origin) ≡ false) →
    filter (λ e. e.1.origin == origin) (with_entry id x es) ≡ filter (λ e. e.1.origin == origin) es
filter_with origin id x [] other none =
    ap (λ b. cond b ((id, x) ∷ []) []) other
filter_with origin id x (e ∷ es) other none =
    by (λ later. filter_with origin id x es other later) (nat_lt id e.0) (id == e.0) none
  where
    kept : Map View → Map View
    kept vs = filter (λ v. v.1.origin == origin) vs

    by : (((v : View) → entry_at id es ≡ Some v → (v.origin == origin) ≡ false) →
        kept (with_entry id x es) ≡ kept es) → (less same : Bool) →
        ((v : View) → cond same (Some e.1) (entry_at id es) ≡ Some v → (v.origin == origin) ≡ false) →
        kept (cond less ((id, x) ∷ e ∷ es) (cond same ((id, x) ∷ es) (e ∷ with_entry id x es))) ≡ kept (e ∷ es)
    by on true same none = ap (λ b. cond b ((id, x) ∷ kept (e ∷ es)) (kept (e ∷ es))) other
    by on false true none =
        ap (λ b. cond b ((id, x) ∷ kept es) (kept es)) other
        ∙ sym (ap (λ b. cond b (e ∷ kept es) (kept es)) (none e.1 refl))
    by on false false none = ap (λ vs. cond (e.1.origin == origin) (e ∷ vs) vs) (on none)

-- what is brought of another origin
filter_beside : (origin : ℕ) (new old : Map View) →
    AllByRecursion (λ y. ((y.1.origin == origin) ≡ false)
    × ((v : View) → entry_at y.0 old ≡ Some v → (v.origin == origin) ≡ false)) new →
    filter (λ e. e.1.origin == origin) (with_views new old) ≡ filter (λ e. e.1.origin == origin) old
filter_beside origin [] old all = refl
filter_beside origin (y ∷ more) old all =
    filter_with origin y.0 y.1 (with_views more old) all.0.0
    (λ v found. elim (found_in y.0 v more old found) [
      | inl among ↦ (all_among (λ z. ((z.1.origin == origin) ≡ false)
          × ((u : View) → entry_at z.0 old ≡ Some u → (u.origin == origin) ≡ false)) (y.0, v) more all.1 among).0
      | inr was ↦ all.0.1 v was.0
    ]) ∙ filter_beside origin more old all.1

-- ---- a node that waits

-- The node was this one, has applied no less of the origin since, and keeps the same views of the origin where it has
-- applied no more.
pub record Waits (origin : ℕ) (n m : Node) : Type 0 where
  pub given : m.given ≡ n.given
  pub more : length (of_origin origin (applied_events n)) ≤ length (of_origin origin (applied_events m))
  pub still : length (of_origin origin (applied_events m)) ≡ length (of_origin origin (applied_events n)) →
      kept_from origin (knowledge m) ≡ kept_from origin (knowledge n)

-- a view of a set to which nodes subscribe by an event is of the origin of the event
pub fed_from : (t : Past) (x : Carried) (by : ℕ) → IsTaken t by x → (set : ℕ) (v : View) →
    view_of set (knowledge x.seat.node) ≡ Some v → feeds set x.event.body ≡ true → v.origin ≡ x.event.origin
fed_from t x by is set v found feed =
    seen_leads t n set v (seen_now t x.seat.name n (seat_node t.world.places x.seat is.work.seat) set v found) (record {
      name = y.name;
      node = y.node;
      is = y.is;
      leads = feeder_leads t x.event y set feed;
    }) ∙ y.own
  where
    n : Node
    n = x.seat.node

    y : IsEvent (nodes_in t.world.places) x.event
    y = is.work.event

-- so is one that the node gives up
pub left_from : (t : Past) (x : Carried) (by : ℕ) → IsTaken t by x → (set : ℕ) (v : View) →
    view_of set (knowledge x.seat.node) ≡ Some v → leaves set x.seat.node.id x.event.body ≡ true →
    v.origin ≡ x.event.origin
left_from t x by is set v found left =
    fed_from t x by is set v found (left_feeds set x.seat.node.id x.event.body left)

-- so is one whose set the node begins to forward
pub turned_from : (t : Past) (x : Carried) (by : ℕ) → IsTaken t by x → (set : ℕ) (v : View) →
    view_of set (knowledge x.seat.node) ≡ Some v →
    Turns x.seat.node.id set x.event.body (knowledge x.seat.node).config → v.origin ≡ x.event.origin
turned_from t x by is set v found turns =
    fed_from t x by is set v found
    (turns_feeds x.seat.node.id set x.event.body (knowledge x.seat.node).config turns)

waits_takes : (t : Past) (origin : ℕ) (n : Node) (x : Carried) (by : ℕ) → IsTaken t by x → Waits origin n x.seat.node →
    Waits origin n (with_deeds (taking x).deeds x.seat.node)
waits_takes t origin n x by is w = record {
  given = w.given;
  more = (cases (x.event.origin == origin) refl).0;
  still = (cases (x.event.origin == origin) refl).1;
}
  where
    own : ℕ
    own = x.seat.node.id

    k : Knowledge
    k = knowledge x.seat.node

    applied : List Event
    applied = of_origin origin (applied_events x.seat.node)

    from : AllByRecursion (IsFrom x.seat x.event) x.brought.views
    from = views_from t x.seat x.event x.brought is.work.seat is.brings

    touched : (e : ℕ × View) → view_of e.0 k ≡ Some e.1 → Touches own e.0 x.event.body k.config →
        e.1.origin ≡ x.event.origin
    touched e found (inl turns) = turned_from t x by is e.0 e.1 found turns
    touched e found (inr left) = left_from t x by is e.0 e.1 found left

    beside : (x.event.origin == origin) ≡ false →
        kept_from origin (knowledge (with_deeds (taking x).deeds x.seat.node)) ≡ kept_from origin k
    beside other =
        filter_beside origin x.brought.views (views_told own x.event.body k.config k.views)
        (all_map (IsFrom x.seat x.event) (λ y. ((y.1.origin == origin) ≡ false)
        × ((v : View) → entry_at y.0 (views_told own x.event.body k.config k.views) ≡ Some v →
        (v.origin == origin) ≡ false))
        (λ y is. (
          ap (λ o. o == origin) is.own ∙ other,
          λ v found.
              let of = found_told own y.0 x.event.body k.config k.views v found in
              let like = told_like own y.0 x.event.body k.config of.0 v of.2 in
              ap (λ o. o == origin) (like.origin ∙ is.old of.0 of.1) ∙ other,
        )) x.brought.views from)
        ∙ filter_told origin own x.event.body k.config k.views
        (among_all (λ e. Touches own e.0 x.event.body k.config → (e.1.origin == origin) ≡ false) k.views
        (λ e among touches. ap (λ o. o == origin) (touched e (stands_found e.0 e.1 k.views
        (rising_now t x.seat.name x.seat.node (seat_node t.world.places x.seat is.work.seat)) among) touches) ∙ other))

    cases : (b : Bool) → (x.event.origin == origin) ≡ b →
        (length (of_origin origin (applied_events n)) ≤ length (cond b (x.event ∷ applied) applied))
        × (length (cond b (x.event ∷ applied) applied) ≡ length (of_origin origin (applied_events n)) →
        kept_from origin (knowledge (with_deeds (taking x).deeds x.seat.node)) ≡ kept_from origin (knowledge n))
    cases true same =
        let less = w.more in
        (omega (arith, less), λ equal. absurd (omega (arith, less, equal)))
    cases false other = (w.more, λ equal. beside other ∙ w.still equal)

waits_on : (t : Past) (origin : ℕ) (n : Node) → NodeGoes t (Waits origin n)
waits_on t origin n = record {
  logs = λ m p xid w. record { given = w.given; more = w.more; still = w.still };
  does = record {
    tells = λ s is number m k says w. record {
      given = w.given;
      more = w.more;
      still = λ equal.
          ap (λ vs. filter (λ v. v.1.origin == origin) vs)
          (same_views (event_of s number m.body) m.body (knowledge k).views (says_emitted s k m says)) ∙ w.still equal;
    };
    takes = λ x by is w. waits_takes t origin n x by is w;
    hears = λ s confirms w. record { given = w.given; more = w.more; still = w.still };
  };
}

-- ---- since it was found

-- An event that the node at its seat applies, and the session in which it found what there is for that.
pub record Since (t : Past) : Type 0 where
  pub by : ℕ
  pub seat : Seat
  pub event : Event
  pub work : IsWork t.world by seat event
  pub at : Finding t seat event

abbrev pub since : {t : Past} (origin : ℕ) (x : Carried) → IsTaken t origin x → Finding t x.seat x.event → Since t
since origin x is a = record { by = origin; seat = x.seat; event = x.event; work = is.work; at = a }

-- how much was applied of the origin of an event that is the next one
applied_of : (t : Past) (by : ℕ) (s : Seat) (e : Event) → IsWork t.world by s e →
    e.number ≡ suc (number_at e.origin s.node.given.progress + length (of_origin e.origin (applied_events s.node)))
applied_of t by s e work =
    let has = ((regular_now t).nodes.each s.name s.node (seat_node t.world.places s work.seat)).applied in
    let all = has.all e.origin work.other in
    let next = work.next in
    omega (arith, next, all)

pub views_stay : (t : Past) (i : Since t) →
    kept_from i.event.origin (knowledge i.seat.node) ≡ kept_from i.event.origin (knowledge i.at.seat.node)
views_stay t i =
    ap (λ (m : Node). kept_from e.origin (knowledge m)) (sym one)
    ∙ there.2.2.still (subst (λ (m : Node). length (of_origin e.origin (applied_events m))
    ≡ length (of_origin e.origin (applied_events n))) (sym one) equal)
  where
    s : Seat
    s = i.seat

    e : Event
    e = i.event

    a : Finding t s e
    a = i.at

    n : Node
    n = a.seat.node

    r : Reached t a.to.world
    r = reached_up_to t a.to.world (was_then a)

    there : HoldsOf (HasNode (Waits e.origin n)) a.seat.name t.world.places
    there =
        passing_later (λ u. node_passes u (waits_on u e.origin n)) (past_of t a.to.world r) r.later t.world r.goes_on
        a.seat.name (
          a.seat.place,
          a.work.seat.found,
          (n, a.work.seat.node, record { given = refl; more = omega arith; still = λ equal. refl }),
        )

    one : there.2.0 ≡ s.node
    one = one_found there.2.0 s.node (sym there.2.1
        ∙ ap (λ (p : Place). p.node) (one_found there.0 s.place (sym there.1
        ∙ ap (λ name. find_named name t.world.places) a.name ∙ i.work.seat.found)) ∙ i.work.seat.node)

    equal : length (of_origin e.origin (applied_events s.node)) ≡ length (of_origin e.origin (applied_events n))
    equal =
        let now = applied_of t i.by s e i.work in
        let then = applied_of a.to a.origin a.seat e a.work in
        let same = ap (λ (k : Knowledge). number_at e.origin k.progress)
        (ap (λ (m : Node). m.given) (sym one) ∙ there.2.2.given) in
        omega (arith, now, then, same)

-- a view of the origin that the node keeps, it kept then
pub view_then : (t : Past) (i : Since t) (set : ℕ) (v : View) → view_of set (knowledge i.seat.node) ≡ Some v →
    v.origin ≡ i.event.origin → view_of set (knowledge i.at.seat.node) ≡ Some v
view_then t i set v found from =
    stands_found set v (knowledge then.node).views
    (rising_now i.at.to then.name then.node (seat_node i.at.to.world.places then i.at.work.seat))
    (filtered_among (λ u. u.1.origin == i.event.origin) (set, v) (knowledge then.node).views
    (subst (IsAmong (set, v)) (views_stay t i)
    (among_filtered (λ u. u.1.origin == i.event.origin) (set, v) (knowledge i.seat.node).views
    (found_stands set v (knowledge i.seat.node).views found) (eq-eqb v.origin i.event.origin from)))).0
  where
    then : Seat
    then = i.at.seat

-- each event of the origin before this one was of its stream then
pub event_then : (t : Past) (i : Since t) (f : Event) → IsEvent (nodes_in t.world.places) f →
    f.origin ≡ i.event.origin → f.number ≤ progress i.event.origin (knowledge i.seat.node) →
    IsEvent (nodes_in i.at.to.world.places) f
event_then t i f is from within =
    let y : IsEvent (nodes_in i.at.to.world.places) i.event = i.at.work.event in
    let next = i.work.next in
    record {
      name = y.name;
      node = y.node;
      is = y.is;
      own = y.own ∙ sym from;
      among = event_before t i.at.to.world (was_then i.at) i.event y f is (from, omega (arith, next, within));
    }

-- ---- what is taken of sets

same_view_itself : (v : View) → same_view v v ≡ true
same_view_itself v =
    and_from (v.era == v.era) _ (eq-eqb v.era v.era refl)
    (and_from (v.origin == v.origin) _ (eq-eqb v.origin v.origin refl)
    (and_from (v.number == v.number) _ (eq-eqb v.number v.number refl)
    (and_from (same_snapshot v.seen v.seen) _ (itself v.seen)
    (and_from (v.base_era == v.base_era) (same_snapshot v.base v.base) (eq-eqb v.base_era v.base_era refl)
    (itself v.base)))))
  where
    itself : (k : Snapshot) → same_snapshot k k ≡ true
    itself k =
        and_from (k.xmin == k.xmin) _ (eq-eqb k.xmin k.xmin refl)
        (and_from (k.xmax == k.xmax) (bytes_eq k.running k.running) (eq-eqb k.xmax k.xmax refl)
        (bytes_itself k.running))

filter_whole : {X : Type 0} (test : X → Bool) (xs : List X) → AllByRecursion (λ x. test x ≡ true) xs →
    filter test xs ≡ xs
filter_whole test [] all = refl
filter_whole test (x ∷ xs) all =
    ap (λ b. cond b (x ∷ filter test xs) (filter test xs)) all.0 ∙ ap (λ ys. x ∷ ys) (filter_whole test xs all.1)

-- the view of each set of which something was read stands, so nothing that was read is passed over
pub syncs_are : (t : Past) (origin : ℕ) (x : Carried) → IsTaken t origin x →
    (y : IsSynced t x.seat x.event x.brought) → y.syncs ≡ y.follows.syncs
syncs_are t origin x is y = cases y.part
  where
    s : Seat
    s = x.seat

    e : Event
    e = x.event

    then : Seat
    then = y.at.seat

    own : nodes_in t.world.places s.name ≡ Some s.node
    own = seat_node t.world.places s is.work.seat

    stand : (v : ℕ × View) → IsAmong v (kept_from e.origin (knowledge s.node)) →
        is_view v.1 (view_of v.0 s.known) ≡ true
    stand v among =
        let kept = filtered_among (λ u. u.1.origin == e.origin) v (knowledge s.node).views among in
        let found = stands_found v.0 v.1 (knowledge s.node).views (rising_now t s.name s.node own) kept.0 in
        ap (is_view v.1) (ap (view_of v.0) is.work.seat.known ∙ found) ∙ same_view_itself v.1

    all : AllByRecursion (λ z. stands s.known z ≡ true) y.follows.syncs
    all =
        taken_each (λ v. IsAmong v (kept_from e.origin then.known)) (λ z. stands s.known z ≡ true)
        (λ v z among taken. ap (stands s.known) taken.is
        ∙ stand v (subst (IsAmong v) (ap (kept_from e.origin) y.at.work.seat.known
        ∙ sym (views_stay t (since origin x is y.at))) among)) (kept_from e.origin then.known) y.follows.syncs
        y.follows.taken
        (among_all (λ v. IsAmong v (kept_from e.origin then.known)) (kept_from e.origin then.known)
        (λ v among. among))

    cases : IsPart s.known y.syncs y.follows.syncs → y.syncs ≡ y.follows.syncs
    cases (Whole all_of) = all_of
    cases (Standing those) = those ∙ filter_whole (stands s.known) y.follows.syncs all

-- ---- the views that are brought

-- what holds of all views that a SYNC brings holds of each set that is synced
views_before : (P : ℕ × View → Type 0) (here : Place) (ts : List SetSync) (b : Brought) →
    AllByRecursion P (with_syncs here ts b).views → AllByRecursion P b.views
views_before P here [] b all = all
views_before P here (t ∷ more) b all = (views_before P here more (with_sync here t b) all).1

pub views_synced : (P : ℕ × View → Type 0) (here : Place) (ts : List SetSync) (b : Brought) →
    AllByRecursion P (with_syncs here ts b).views → AllByRecursion (λ t. P (t.set_id, t.view)) ts
views_synced P here [] b all = tt
views_synced P here (t ∷ more) b all =
    ((views_before P here more (with_sync here t b) all).0, views_synced P here more (with_sync here t b) all)

-- where no view of a set is brought, the node kept none of the origin as it read the log
pub none_kept : (t : Past) (origin : ℕ) (x : Carried) → IsTaken t origin x →
    (y : IsSynced t x.seat x.event x.brought) (set : ℕ) → AllByRecursion (λ u. u.0 ≢ set) x.brought.views →
    AllByRecursion (λ u. u.0 ≢ set) (kept_from x.event.origin (knowledge y.at.seat.node))
none_kept t origin x is y set none =
    subst (λ k. AllByRecursion (λ u. u.0 ≢ set) (kept_from x.event.origin k)) y.at.work.seat.known
    (taken_back (λ u. u.0 ≢ set) (λ z. z.set_id ≢ set)
    (λ v z apart taken same. apart (ap (λ (w : SetSync). w.set_id) taken.is ∙ same))
    (kept_from x.event.origin y.at.seat.known) y.follows.syncs y.follows.taken
    (subst (AllByRecursion (λ z. z.set_id ≢ set)) (syncs_are t origin x is y)
    (views_synced (λ u. u.0 ≢ set) x.seat.place y.syncs nothing_brought
    (subst (λ (c : Brought). AllByRecursion (λ u. u.0 ≢ set) c.views) y.is none))))

-- ---- a copy

-- who copies a set keeps no view of it: a receiver that is told again to copy has given up what it kept
pub unviewed : (t : Past) (origin : ℕ) (x : Carried) → IsTaken t origin x →
    (k : IsCopied t x.seat x.event x.brought) → (v : View) →
    view_of k.copy.copying.set_id (knowledge x.seat.node) ≡ Some v → ⊥
unviewed t origin x is k v found =
    let behind = left_behind t viewer e again in
    let next = is.work.next in
    let at = ap (λ i. progress i (knowledge n)) (sym from ∙ seen.of) in
    omega (arith, behind, next, at)
  where
    e : Event
    e = x.event

    n : Node
    n = x.seat.node

    set : ℕ
    set = k.copy.copying.set_id

    own : nodes_in t.world.places x.seat.name ≡ Some n
    own = seat_node t.world.places x.seat is.work.seat

    seen : IsSeen (WasUpTo t) n set v
    seen = seen_now t x.seat.name n own set v found

    viewer : Viewer t
    viewer = record { name = x.seat.name; node = n; is = own; set_id = set; view = v; seen = seen }

    from : seen.enabled.origin ≡ e.origin
    from = seen.of ∙ copied_old t x.seat e x.brought is.work.seat k v found

    y : IsEvent (nodes_in t.world.places) seen.enabled
    y = viewer_event t viewer

    are : AreEmitted y.node.id (stream y.node)
    are = ((regular_now t).nodes.each y.name y.node y.is).emitted

    again : Between (leaves set n.id) (stream y.node) seen.enabled e
    again =
        left_again set n.id y.node.id (stream y.node) (record {
          first = seen.enabled;
          second = e;
          are = are;
          among = y.among;
          behind = viewer_stream t viewer e is.work.event (sym from ∙ seen.of);
          before = applied_before t x origin is seen.enabled seen.applied from;
        }) (once_now t y.name y.node y.is) (
          seen.enables,
          subst (λ id. enables set id e.body ≡ true) (same_id t x.seat e k.at is.work.seat)
              (copy_asks k.at.to.world k.at.seat e k.found k.copy),
        )
