-- What the net of a set says of those who provide the set, in a session: they have in their logs what others take of
-- them with a SYNC, and who is told to copy the set finds it there.
use Rattle.std.proofs.Common.{◌≡◌, ◌≢◌, inl, inr, ℕ, ◌<◌, Bool, true, false, cond, List, [], ◌∷◌, ◌++◌}
use Rattle.std.proofs.Common.{length, Option, Some, None, refl, sym, ap, subst, ◌∙◌, arith, unwrap_or}
use Rattle.std.specs.Prelude.{◌+◌, ◌==◌, option_map}
use Rattle.std.proofs.lemmas.Bool.{cases_eq, eq-eqb, eqb-true, false≢true}
use Rattle.node_rows.specs.declared.body.Body.{Body}
use Rattle.node_rows.specs.declared.body.Body.TheVariants.{Sync}
use Rattle.node_rows.specs.declared.rows.Subscription.{Subscription}
use Rattle.net_laws.specs.Subscriptions.{Sync as Syncs, Enable, Unrelated, Subscription as Row}
use Rattle.net_laws.specs.Subscriptions.{row, up_to}
use Rattle.net_laws.specs.Laws.{CanServe, IsAwaited}
use Rattle.net_laws.specs.Net.{IsNext, Logs, Net, configured}
use Rattle.net_laws.specs.Sound.{Sound}
use Rattle.net_laws.proofs.Laws.{copy_finds, provider_logs, view_has_row}
use Rattle.slon_model.specs.Names.{find_named}
use Rattle.slon_model.specs.Events.{Event, is_sync}
use Rattle.slon_model.specs.Config.{forwards}
use Rattle.slon_model.specs.Deeds.{Node, knowledge, stream, view_of}
use Rattle.slon_model.specs.Logs.{logged}
use Rattle.slon_model.specs.Place.{Place}
use Rattle.slon_model.specs.Views.{View}
use Rattle.slon_model.proofs.Names.{one_found}
use Rattle.stream_laws.specs.Nodes.{IsAmong, nodes_in, node_in, IsEvent}
use Rattle.stream_laws.proofs.Lists.{all_among}
use Rattle.stream_laws.proofs.Streams.{Found, among_found, one_node}
use Rattle.image_laws.specs.Moments.{IsTaken, count_of}
use Rattle.image_laws.proofs.Orders.{order_in}
use Rattle.view_laws.specs.Past.{Past}
use Rattle.view_laws.proofs.Moments.{regular_now}
use Rattle.view_laws.proofs.Viewed.{seen_now}
use Rattle.net_relation.specs.Laws.{Keeper}
use Rattle.net_relation.specs.Matching.{HasRow, IsKept, MatchesNode}
use Rattle.net_relation.specs.Reading.{moment_of, plain, read, said, said_by, unfed}
use Rattle.net_relation.proofs.Earlier.{CopiesFind, ProvidersHave}
use Rattle.net_relation.proofs.Feeding.{IsFeed, NodeFeeds}
use Rattle.net_relation.proofs.Rowed.{AreRowed, IsRowed}
use Rattle.net_relation.proofs.Leading.{feeds_at}
use Rattle.net_relation.proofs.Moments.{seen_moment, unseen_moment}
use Rattle.net_relation.proofs.Nets.{said_next}
use Rattle.net_relation.proofs.Relating.{Netted, netted_sound}
use Rattle.slon_model.specs.Sessions.{Seat, seat}
use Rattle.stream_laws.proofs.Seats.{IsSeat}

pub place_of : (t : Past) (name : List ℕ) (x : Node) → nodes_in t.world.places name ≡ Some x →
    (p : Place) × (find_named name t.world.places ≡ Some p) × (p.node ≡ Some x)
place_of t name x is = by (find_named name t.world.places) refl is
  where
    by : (o : Option Place) → find_named name t.world.places ≡ o → node_in o ≡ Some x →
        (p : Place) × (find_named name t.world.places ≡ Some p) × (p.node ≡ Some x)
    by None found none = absurd cc
    by (Some p) found at = (p, found, at)

-- the seat of the node that emitted an event
abbrev pub event_seat : (t : Past) {e : Event} → IsEvent (nodes_in t.world.places) e → Seat
event_seat t y = seat y.name (place_of t y.name y.node y.is).0 y.node

abbrev pub event_seat_is : (t : Past) {e : Event} (y : IsEvent (nodes_in t.world.places) e) →
    IsSeat t.world.places (event_seat t y)
event_seat_is t y =
    let p = place_of t y.name y.node y.is in record { found = p.1; node = p.2; known = refl }

pub sync_body : (body : Body) → is_sync body ≡ true → body ≡ Sync
sync_body Sync is = refl
sync_body others is = absurd (false≢true is)

pub row_forwards : (set : ℕ) (o : Node) (u : Row) → HasRow set o.id u (knowledge o).config →
    forwards set o.id (knowledge o).config ≡ true → u.forward ≡ true
row_forwards set o u has is =
    sym (ap (λ k. unwrap_or (option_map (λ (s : Subscription). s.forward) k) false) has) ∙ is

-- and who forwards by its subscription does so by its configuration
row_forwards_back : (set : ℕ) (o : Node) (u : Row) → HasRow set o.id u (knowledge o).config → u.forward ≡ true →
    forwards set o.id (knowledge o).config ≡ true
row_forwards_back set o u has is =
    ap (λ k. unwrap_or (option_map (λ (s : Subscription). s.forward) k) false) has ∙ is

-- A database of a session that is a node, with its net of a set.
pub record Stood (set : ℕ) (t : Past) : Type 0 where
  pub name : List ℕ
  pub place : Place
  pub leader : Node
  pub at : nodes_in t.world.places name ≡ Some leader
  pub ended : List ℕ
  pub netted : Netted set ended (nodes_in t.world.places) place leader

abbrev net_in : {set : ℕ} {t : Past} → Stood set t → Net
net_in s = s.netted.net

stood_sound : {set : ℕ} {t : Past} (s : Stood set t) → Sound (net_in s)
stood_sound s = netted_sound s.netted

-- an event of the stream, and those before it
stood_found : {set : ℕ} {t : Past} (s : Stood set t) (e : Event) → IsAmong e (stream s.leader) →
    Found s.leader.id (stream s.leader) e
stood_found {t = t} s e among =
    among_found s.leader.id (stream s.leader) e ((regular_now t).nodes.each s.name s.leader s.at).emitted among

-- it is the next one for who has come so far
stood_next : {set : ℕ} {t : Past} (s : Stood set t) (e : Event) (f : Found s.leader.id (stream s.leader) e) (r : ℕ) →
    length f.earlier ≡ ((net_in s).nodes r).progress → IsNext (net_in s) r (said set e)
stood_next {set} s e f r here =
    let k = ((net_in s).nodes r).progress in
    let next = said_next set f.later e f.earlier k here in
    let whole = s.netted.origin.stream ∙ ap (read set) f.all in
    record {
      more = subst (λ z. k < length z) (sym whole) next.0;
      next = subst (λ z. up_to (k + 1) z ≡ said set e ∷ up_to k z) (sym whole) next.1;
    }

-- ---- what providers have

-- The node of the net of a node that keeps the set.
record Viewing {set : ℕ} {t : Past} (s : Stood set t) (k : Keeper t.world set s.leader) : Type 0 where
  other : k.node.id ≢ s.leader.id
  matches : MatchesNode set (order_in s.ended) (length s.ended) s.leader k.node ((net_in s).nodes k.node.id)
  viewed : ((net_in s).nodes k.node.id).view ≡ Some (count_of k.view.seen)
  kept : IsKept (order_in s.ended) (length s.ended) k.view ((net_in s).nodes k.node.id)
  row : Row
  has : configured (net_in s) k.node.id k.node.id ≡ Some row
  known : HasRow set k.node.id row (knowledge k.node).config

viewing : (set : ℕ) (t : Past) (s : Stood set t) (k : Keeper t.world set s.leader) → Viewing s k
viewing set t s k = record {
  other = other;
  matches = m;
  viewed = viewed;
  kept = m.kept k.view k.keeps k.own;
  row = u.0;
  has = u.1.0;
  known = m.row u.0
      (sym (ap (λ b. row b o.id (up_to ((net_in s).nodes o.id).progress (net_in s).stream)) s.netted.origin.start
      ∙ ap (λ z. row unfed o.id (up_to ((net_in s).nodes o.id).progress z)) s.netted.origin.stream) ∙ u.1.0);
}
  where
    o : Node
    o = k.node

    other : o.id ≢ s.leader.id
    other same = (seen_now t k.name o k.is set k.view k.keeps).apart (k.own ∙ sym same)

    m : MatchesNode set (order_in s.ended) (length s.ended) s.leader o ((net_in s).nodes o.id)
    m = s.netted.nodes k.name o k.is other

    viewed : ((net_in s).nodes o.id).view ≡ Some (count_of k.view.seen)
    viewed =
        m.view ∙ ap (moment_of s.leader.id) k.keeps
        ∙ ap (λ b. cond b (Some (count_of k.view.seen)) None) (eq-eqb k.view.origin s.leader.id k.own)

    u : (u : Row) × ((configured (net_in s) o.id o.id ≡ Some u) × (u.ready ≡ true))
    u = view_has_row (net_in s) (stood_sound s) o.id (count_of k.view.seen) viewed

pub providers_have : (set : ℕ) (t : Past) (s : Stood set t) → ProvidersHave set t.world s.leader
providers_have set t s k e p l ahead = elim (cases_eq p.node.id x.id) [
  | inl same ↦ subst (λ (n : Node). IsAmong l (logged n)) (sym (one_node (nodes_in t.world.places)
      (regular_now t).nodes p.name s.name p.node x p.is (s.at, same))) ahead.among
  | inr other ↦ by_net other
]
  where
    x : Node
    x = s.leader

    o : Node
    o = k.node

    n : Net
    n = net_in s

    v : Viewing s k
    v = viewing set t s k

    found : Found x.id (stream x) e
    found = stood_found s e p.among

    taken : IsTaken (order_in s.ended) (length s.ended) e.taken
    taken = all_among (λ f. IsTaken (order_in s.ended) (length s.ended) f.taken) e (stream x) s.netted.events p.among

    next : IsNext n o.id (Syncs (count_of e.taken))
    next =
        subst (λ body. IsNext n o.id (said_by set e.taken body)) (sync_body e.body p.sync)
        (stood_next s e found o.id (let number = found.are.1 in let next = p.next in
        let reached = v.matches.reached in omega (arith, number, next, reached)))

    moment : (m : ℕ) × (order_in s.ended l.action.xid ≡ Some m) × (m < count_of e.taken)
    moment = seen_moment (order_in s.ended) (length s.ended) e.taken l.action.xid taken ahead.seen

    provider : v.row.provider ≡ p.node.id
    provider = ap (λ (r : Subscription). r.provider) (one_found (plain v.row) p.row (sym v.known ∙ p.has)) ∙ p.own

    by_net : p.node.id ≢ x.id → IsAmong l (logged p.node)
    by_net other =
        m.logs l moment.0
        (record { among = ahead.among; of = ahead.of; own = ahead.own; ended = moment.1 })
        (subst (λ i. Logs (n.nodes i).log moment.0) provider
        (provider_logs n (stood_sound s) o.id (count_of e.taken) (record {
          next = next;
          view = count_of k.view.seen;
          keeps = v.viewed;
          row = v.row;
          has = v.has;
          other = λ same. other (sym provider ∙ same ∙ s.netted.origin.origin);
          far =
              let reached = m.reached in let here = v.matches.reached in let applied = p.applied in
              let next = p.next in let at = ap (λ i. (n.nodes i).progress) provider in
              omega (arith, reached, here, applied, next, at);
          stays = ap (λ i. (n.nodes i).gave_up) provider ∙ m.whole.keeps;
        }) moment.0 (record {
          from =
              unseen_moment (order_in s.ended) (length s.ended) k.view.seen l.action.xid moment.0 v.kept.seen
              (moment.1, ahead.unseen);
          to = moment.2;
        })))
      where
        m : MatchesNode set (order_in s.ended) (length s.ended) x p.node (n.nodes p.node.id)
        m = s.netted.nodes p.name p.node p.is other

-- ---- what is found for a copy

rowed_at : (later : List Event) (e : Event) (earlier : List Event) → AreRowed (later ++ e ∷ earlier) →
    IsRowed earlier e.body
rowed_at [] e earlier rowed = rowed.0
rowed_at (f ∷ later) e earlier rowed = rowed_at later e earlier rowed.1

-- the view by the moment that the net has of it
moment_view : (origin moment : ℕ) (o : Option View) → moment_of origin o ≡ Some moment →
    (v : View) × (o ≡ Some v) × (v.origin ≡ origin)
moment_view origin moment None is = absurd cc
moment_view origin moment (Some v) is = by (v.origin == origin) refl is
  where
    by : (b : Bool) → (v.origin == origin) ≡ b → cond b (Some (count_of v.seen)) None ≡ Some moment →
        (w : View) × (Some v ≡ Some w) × (w.origin ≡ origin)
    by true own some = (v, refl, eqb-true v.origin origin own)
    by false other none = absurd cc

pub copies_find : (set : ℕ) (t : Past) (s : Stood set t) → CopiesFind set t.world s.leader
copies_find set t s a = (
  viewed.0,
  viewed.1,
  viewed.2,
  row_forwards_back set a.giver serves.row.0
      (m.row serves.row.0 (sym (ap (λ b. row b a.giver.id (up_to (n.nodes a.giver.id).progress n.stream))
      s.netted.origin.start ∙ ap (λ z. row unfed a.giver.id (up_to (n.nodes a.giver.id).progress z))
      s.netted.origin.stream) ∙ serves.row.1.0)) serves.row.1.1,
)
  where
    x : Node
    x = s.leader

    o : Node
    o = a.node

    n : Net
    n = net_in s

    feeds : NodeFeeds x
    feeds = feeds_at t s.name x s.at

    apart : o.id ≢ x.id
    apart =
        (subst (IsFeed x.id (stream x) (knowledge x).config) a.body
        (all_among (λ f. IsFeed x.id (stream x) (knowledge x).config f.body) a.event (stream x) feeds.feeds
        a.among)).0.2

    here : MatchesNode set (order_in s.ended) (length s.ended) x o (n.nodes o.id)
    here = s.netted.nodes a.name o a.is apart

    m : MatchesNode set (order_in s.ended) (length s.ended) x a.giver (n.nodes a.giver.id)
    m = s.netted.nodes a.giver_name a.giver a.at a.other

    found : Found x.id (stream x) a.event
    found = stood_found s a.event a.among

    far : length found.earlier ≡ (n.nodes o.id).progress
    far = let number = found.are.1 in let next = a.next in let reached = here.reached in
        omega (arith, number, next, reached)

    enables : said set a.event ≡ Enable o.id
    enables = ap (said_by set a.event.taken) a.body ∙ ap (λ b. cond b (Enable o.id) Unrelated) (eq-eqb set set refl)

    -- its subscription by what it has heard
    known : (u : Row) × (row unfed o.id (read set found.earlier) ≡ Some u) × (u.provider ≡ a.provider)
    known = subst (IsRowed found.earlier) a.body
        (rowed_at found.later a.event found.earlier (subst AreRowed found.all feeds.rows))

    heard_is : up_to (n.nodes o.id).progress n.stream ≡ read set found.earlier
    heard_is =
        ap (up_to (n.nodes o.id).progress) (s.netted.origin.stream ∙ ap (read set) found.all)
        ∙ (said_next set found.later a.event found.earlier (n.nodes o.id).progress far).2

    provider : known.0.provider ≡ a.giver.id
    provider = known.2 ∙ sym a.own

    awaited : IsAwaited n o.id
    awaited = record {
      next = subst (IsNext n o.id) enables (stood_next s a.event found o.id far);
      row = a.ready.0;
      has =
          ap (λ b. row b o.id n.stream) s.netted.origin.start ∙ ap (row unfed o.id) s.netted.origin.stream ∙ a.ready.1;
      ready = a.ready.2;
      made =
          let made = a.ready.3 in
          let number = found.are.1 in
          let at = far in
          omega (arith, made, number, at);
      known = known.0;
      is =
          ap (λ b. row b o.id (up_to (n.nodes o.id).progress n.stream)) s.netted.origin.start
          ∙ ap (row unfed o.id) heard_is ∙ known.1;
    }

    serves : CanServe n a.giver.id
    serves =
        subst (CanServe n) provider (copy_finds n (stood_sound s) o.id awaited
        (λ same. a.other (sym provider ∙ same ∙ s.netted.origin.origin))
        (let reached = m.reached in
        let mine = here.reached in
        let applied = a.applied in
        let next = a.next in
        let at = ap (λ i. (n.nodes i).progress) provider in
        omega (arith, reached, mine, applied, next, at))
        (ap (λ i. (n.nodes i).gave_up) provider ∙ m.whole.keeps))

    viewed : (v : View) × (view_of set (knowledge a.giver) ≡ Some v) × (v.origin ≡ x.id)
    viewed = moment_view x.id serves.view.0 (view_of set (knowledge a.giver)) (sym m.view ∙ serves.view.1)
