-- A node applies the next event of the stream of a net, with what it found for that in a session of the history.
use Rattle.std.proofs.Common.{◌≡◌, inl, inr, ℕ, suc, ◌<◌, ◌≤◌, Bool, true, false, cond, List, [], ◌∷◌, ◌++◌, length}
use Rattle.std.proofs.Common.{Some, refl, sym, ap, subst, ◌∙◌, arith}
use Rattle.std.specs.Prelude.{◌+◌, ◌==◌}
use Rattle.std.proofs.lemmas.Bool.{cases_lt}
use Rattle.std.proofs.lemmas.List.{length-map, map-append}
use Rattle.node_rows.specs.declared.body.Body.{Body}
use Rattle.node_rows.specs.declared.body.Body.TheVariants.{Sync, DropSet, SubscribeSet, EnableSubscription}
use Rattle.node_rows.specs.declared.body.Body.TheVariants.{UnsubscribeSet}
use Rattle.net_laws.specs.Subscriptions.{DropSet as Ends}
use Rattle.net_laws.specs.Subscriptions.{Event as Said, Subscribe, Enable, Unsubscribe, Unrelated}
use Rattle.net_laws.specs.Subscriptions.{Subscription as Row, last_moment}
use Rattle.net_laws.specs.Subscriptions.{moment_with, row, up_to}
use Rattle.net_laws.specs.Net.{IsNext, Node as NetNode, configured, heard}
use Rattle.net_laws.proofs.Prefixes.{up_to_all, up_to_new, up_to_old}
use Rattle.slon_model.specs.Snapshots.{Snapshot}
use Rattle.slon_model.specs.Events.{Event, is_sync}
use Rattle.slon_model.specs.Deeds.{Node, knowledge, progress, stream}
use Rattle.slon_model.specs.Sessions.{Seat}
use Rattle.slon_laws.proofs.Later.{HoldsOf}
use Rattle.stream_laws.specs.Nodes.{IsAmong, nodes_in, node_in}
use Rattle.stream_laws.specs.Making.{AreEmitted}
use Rattle.stream_laws.proofs.Lists.{all_among}
use Rattle.stream_laws.proofs.Seats.{IsSeat, seat_node}
use Rattle.stream_laws.proofs.Streams.{Found, among_found, number_within, one_node}
use Rattle.image_laws.specs.Moments.{IsTaken, count_of}
use Rattle.image_laws.proofs.Orders.{order_in, order_is}
use Rattle.image_laws.proofs.Staying.{Stays}
use Rattle.image_laws.proofs.Ticking.{counts_tell}
use Rattle.view_laws.specs.Past.{Past, Moment, WasUpTo}
use Rattle.view_laws.proofs.Brought.{Finding, same_id, was_then, IsCopied, copied_view}
use Rattle.view_laws.proofs.Moments.{now_stays, regular_now}
use Rattle.net_relation.specs.Reading.{read, said, said_by, unfed}
use Rattle.net_relation.specs.Matching.{HasRow}
use Rattle.net_relation.proofs.Beside.{Work, leader_at, worker, worker_before}
use Rattle.net_relation.proofs.Earlier.{WasThen}
use Rattle.net_relation.proofs.Nets.{said_next, up_to_behind}
use Rattle.view_laws.specs.Known.{IsSeen}
use Rattle.view_laws.proofs.Viewed.{seen_now}
use Rattle.view_laws.proofs.Reaching.{copy_covers}
use Rattle.view_laws.proofs.Applied.{event_before}
use Rattle.net_relation.proofs.Views.{behind}
use Rattle.view_laws.proofs.Seen.{Copier, copied_since, seen_from, source_of}
use Rattle.net_relation.proofs.Providing.{event_seat, event_seat_is}

-- ---- moments of what was heard

-- the SYNCs among the first events of a stream have moments no greater than what bounds those of these events
said_bounded : (set v : ℕ) (k : Snapshot) (body : Body) (m : ℕ) → (is_sync body ≡ true → count_of k ≤ v) × (m ≤ v) →
    moment_with (said_by set k body) m ≤ v
said_bounded set v k Sync m most = let first = most.0 refl in omega (arith, first, most.1)
said_bounded set v k (SubscribeSet id provider receiver forward) m most = by (id == set)
  where
    by : (b : Bool) → moment_with (cond b (Subscribe receiver provider forward) Unrelated) m ≤ v
    by true = most.1
    by false = most.1
said_bounded set v k (EnableSubscription id provider receiver forward era) m most = by (id == set)
  where
    by : (b : Bool) → moment_with (cond b (Enable receiver) Unrelated) m ≤ v
    by true = most.1
    by false = most.1
said_bounded set v k (UnsubscribeSet id receiver) m most = by (id == set)
  where
    by : (b : Bool) → moment_with (cond b (Unsubscribe receiver) Unrelated) m ≤ v
    by true = most.1
    by false = most.1
said_bounded set v k (DropSet id) m most = by (id == set)
  where
    by : (b : Bool) → moment_with (cond b Ends Unrelated) m ≤ v
    by true = most.1
    by false = most.1
said_bounded set v k others m most = most.1

prefix_bounded : (set own k v : ℕ) (es : List Event) → AreEmitted own es →
    ((e : Event) → IsAmong e es → e.number ≤ k → is_sync e.body ≡ true → count_of e.taken ≤ v) →
    last_moment (up_to k (read set es)) ≤ v
prefix_bounded set own k v [] are most = omega arith
prefix_bounded set own k v (e ∷ es) are most =
    let before = prefix_bounded set own k v es are.3 (λ f among. most f (inr among)) in
    elim (cases_lt (length (read set es)) k) [
      | inl more ↦
          let number = are.1 in
          let long = length-map es (said set) in
          let rest = subst (λ z. last_moment z ≤ v) (up_to_all k (read set es) (omega (arith, more))) before in
          subst (λ z. last_moment z ≤ v) (sym (up_to_new k (said set e) (read set es) more))
          (said_bounded set v e.taken e.body (last_moment (read set es))
          (most e (inl refl) (omega (arith, number, long, more)), rest))
      | inr less ↦ subst (λ z. last_moment z ≤ v) (sym (up_to_old k (said set e) (read set es) less)) before
    ]

-- ---- the next event

-- The event is one of the stream of the net.
pub record Coming (set : ℕ) (t : Past) : Type 0 where
  pub work : Work set t
  pub own : work.carried.event.origin ≡ work.leader.id

abbrev pub node_of : {set : ℕ} {t : Past} → Coming set t → NetNode
node_of c = c.work.netted.net.nodes (worker c.work).id

abbrev pub event_of : {set : ℕ} {t : Past} → Coming set t → Event
event_of c = c.work.carried.event

-- what the node has heard so far
abbrev pub heard_of : {set : ℕ} {t : Past} → Coming set t → List Said
heard_of {set} c = up_to (node_of c).progress (read set (stream c.work.leader))

pub event_among : (set : ℕ) (t : Past) (c : Coming set t) → IsAmong (event_of c) (stream c.work.leader)
event_among set t c =
    subst (λ (n : Node). IsAmong (event_of c) (stream n))
    (one_node (nodes_in t.world.places) (regular_now t).nodes c.work.is.work.event.name c.work.name
    c.work.is.work.event.node c.work.leader c.work.is.work.event.is
    (leader_at c.work, c.work.is.work.event.own ∙ c.own)) c.work.is.work.event.among

pub reached_is : (set : ℕ) (t : Past) (c : Coming set t) → (event_of c).number ≡ suc (node_of c).progress
reached_is set t c =
    let next = c.work.is.work.next in
    let reached = (worker_before c.work).reached in
    let same = ap (λ i. progress i (knowledge (worker c.work))) c.own in
    omega (arith, next, reached, same)

pub record IsAt (set : ℕ) (t : Past) (c : Coming set t) : Type 0 where
  pub more : (node_of c).progress < length (read set (stream c.work.leader))
  pub next : up_to ((node_of c).progress + 1) (read set (stream c.work.leader)) ≡ said set (event_of c) ∷ heard_of c

pub is_at : (set : ℕ) (t : Past) (c : Coming set t) → IsAt set t c
is_at set t c =
    let found : Found c.work.leader.id (stream c.work.leader) (event_of c) =
    among_found c.work.leader.id (stream c.work.leader) (event_of c)
    ((regular_now t).nodes.each c.work.name c.work.leader (leader_at c.work)).emitted (event_among set t c) in
    let far = found.are.1 in
    let at = reached_is set t c in
    let here = said_next set found.later (event_of c) found.earlier (node_of c).progress (omega (arith, far, at)) in
    record {
      more = subst (λ es. (node_of c).progress < length (read set es)) (sym found.all) here.0;
      next = subst (λ es. up_to ((node_of c).progress + 1) (read set es)
          ≡ said set (event_of c) ∷ up_to (node_of c).progress (read set es)) (sym found.all) here.1;
    }

pub comes : (set : ℕ) (t : Past) (c : Coming set t) →
    IsNext c.work.netted.net (worker c.work).id (said set (event_of c))
comes set t c = record {
  more = subst (λ z. (node_of c).progress < length z) (sym c.work.netted.origin.stream) (is_at set t c).more;
  next = subst (λ z. up_to ((node_of c).progress + 1) z ≡ said set (event_of c) ∷ up_to (node_of c).progress z)
      (sym c.work.netted.origin.stream) (is_at set t c).next;
}

-- the subscription of the node by what it heard
pub configured_is : (set : ℕ) (t : Past) (c : Coming set t) (r : ℕ) →
    configured c.work.netted.net (worker c.work).id r ≡ row unfed r (heard_of c)
configured_is set t c r =
    ap (λ s. row s r (heard c.work.netted.net (worker c.work).id)) c.work.netted.origin.start
    ∙ ap (λ z. row unfed r (up_to (node_of c).progress z)) c.work.netted.origin.stream

-- ---- what was found for it

-- what was found for the event, in a session of the history
abbrev pub FindingOf : {set : ℕ} {t : Past} → Coming set t → Type 0
FindingOf {t = t} c = Finding t c.work.carried.seat (event_of c)

-- The origin of the event, as it was then.
pub record Source {set : ℕ} {t : Past} (c : Coming set t) (a : FindingOf c) : Type 0 where
  pub seat : Seat
  pub is : IsSeat a.to.world.places seat
  pub own : seat.node.id ≡ (event_of c).origin

-- there was one
abbrev pub origin_then : {set : ℕ} {t : Past} (c : Coming set t) (a : FindingOf c) → Source c a
origin_then c a =
    record {
      seat = event_seat a.to a.work.event;
      is = event_seat_is a.to a.work.event;
      own = a.work.event.own;
    }

-- it is the node of the net, which has gone on since
pub record IsLeader {set : ℕ} {t : Past} (c : Coming set t) (a : FindingOf c) (s : Source c a) : Type 0 where
  pub name : s.seat.name ≡ c.work.name
  pub more : List Event
  pub all : stream c.work.leader ≡ more ++ stream s.seat.node

pub source_leads : (set : ℕ) (t : Past) (c : Coming set t) (a : FindingOf c) (s : Source c a) → IsLeader c a s
source_leads set t c a s = record {
  name = name;
  more = now.2.more;
  all = ap stream (sym one) ∙ now.2.all;
}
  where
    p : Seat
    p = s.seat

    now : HoldsOf (Stays p.node) p.name t.world.places
    now = now_stays t a.to.world (was_then a) p.name p.place p.node s.is.found s.is.node

    there : nodes_in t.world.places p.name ≡ Some now.2.node
    there = ap node_in now.1 ∙ now.2.is

    own : now.2.node.id ≡ c.work.leader.id
    own = now.2.id ∙ s.own ∙ c.own

    name : p.name ≡ c.work.name
    name = (regular_now t).nodes.apart p.name c.work.name now.2.node c.work.leader there (leader_at c.work) own

    one : now.2.node ≡ c.work.leader
    one = one_node (nodes_in t.world.places) (regular_now t).nodes p.name c.work.name now.2.node c.work.leader there
        (leader_at c.work, own)

pub source_then : (set : ℕ) (t : Past) (c : Coming set t) (a : FindingOf c) (s : Source c a) →
    WasThen set c.work.ended c.work.place.node a.to.world s.seat.place s.seat.node
source_then set t c a s =
    c.work.then (record {
      session = a.to.world;
      was = was_then a;
      name = s.seat.name;
      place = s.seat.place;
      found = s.is.found;
      node = s.seat.node;
      at = s.is.node;
    }) (source_leads set t c a s).name

-- a moment of the origin was one of the database of the net
pub moment_named : {set : ℕ} {t : Past} (w : Work set t) (m : Moment (WasUpTo t)) → m.node.id ≡ w.leader.id →
    m.name ≡ w.name
moment_named {t = t} w m own =
    (regular_now t).nodes.apart m.name w.name now.2.node w.leader (ap node_in now.1 ∙ now.2.is) (leader_at w)
    (now.2.id ∙ own)
  where
    now : HoldsOf (Stays m.node) m.name t.world.places
    now = now_stays t m.session m.was m.name m.place m.node m.found m.at

-- a copy that the node makes with the event
abbrev pub CopyOf : {set : ℕ} {t : Past} → Coming set t → Type 0
CopyOf {t = t} c = IsCopied t c.work.carried.seat (event_of c) c.work.carried.brought

-- its snapshot was taken in the order of the origin
pub copy_ordered : (set : ℕ) (t : Past) (c : Coming set t) (k : CopyOf c) →
    IsTaken (order_in c.work.ended) (length c.work.ended) k.copy.seen
copy_ordered set t c k =
    subst (IsTaken (order_in c.work.ended) (length c.work.ended)) (sym seen.seen)
    (c.work.then seen.moment (moment_named c.work seen.moment (seen.own ∙ c.own))).seen
  where
    p : Seat
    p = k.copy.provider

    copier : Copier t
    copier = record {
      seat = c.work.carried.seat;
      event = event_of c;
      brought = c.work.carried.brought;
      is = c.work.is.work.seat;
      copied = k;
      seen = seen_now k.at.to p.name p.node (seat_node k.at.to.world.places p k.copy.reached.0.0.0)
          k.copy.copying.set_id;
      node = behind c.work.carried;
      id = refl;
      applied = inl refl;
      since = copied_since t c.work.carried c.work.origin c.work.is k;
    }

    seen : IsSeen (WasUpTo t) (behind c.work.carried) k.copy.copying.set_id (copied_view k.copy)
    seen = seen_from t copier (source_of copier)

-- it sees all that the node has heard of the stream so far
pub heard_bounded : (set : ℕ) (t : Past) (c : Coming set t) (k : CopyOf c) →
    last_moment (heard_of c) ≤ count_of k.copy.seen
heard_bounded set t c k =
    prefix_bounded set x.id (node_of c).progress (count_of k.copy.seen) (stream x) emitted
    (λ f among within sync. bounded f among (among_found x.id (stream x) f emitted among).are.0
    (let at = reached_is set t c in omega (arith, within, at)) sync)
  where
    x : Node
    x = c.work.leader

    emitted : AreEmitted x.id (stream x)
    emitted = ((regular_now t).nodes.each c.work.name x (leader_at c.work)).emitted

    bounded : (f : Event) → IsAmong f (stream x) → f.origin ≡ x.id → f.number ≤ (event_of c).number →
        is_sync f.body ≡ true → count_of f.taken ≤ count_of k.copy.seen
    bounded f among from less sync =
        (counts_tell (order_in c.work.ended) (length c.work.ended) (order_is c.work.ended c.work.clock.apart)
        k.copy.seen f.taken (copy_ordered set t c k)
        (all_among (λ e. IsTaken (order_in c.work.ended) (length c.work.ended) e.taken) f (stream x)
        c.work.netted.events among)).0
        (copy_covers t c.work.carried.seat (event_of c) c.work.carried.brought k f
        (event_before t k.at.to.world (was_then k.at) (event_of c) k.at.work.event f
        (record { name = c.work.name; node = x; is = leader_at c.work; own = sym from; among = among })
        (from ∙ sym c.own, less)) (less, sync))

-- it had heard just so much then
heard_then : (set : ℕ) (t : Past) (c : Coming set t) (a : FindingOf c) (s : Source c a) →
    up_to (progress s.seat.node.id (knowledge a.seat.node)) (read set (stream s.seat.node)) ≡ heard_of c
heard_then set t c a s =
    ap (λ k. up_to k (read set (stream p))) far
    ∙ sym (ap (λ es. up_to k (read set es)) lead.all
    ∙ ap (up_to k) (map-append (said set) lead.more (stream p))
    ∙ up_to_behind (read set lead.more) (read set (stream p)) k below)
  where
    p : Node
    p = s.seat.node

    k : ℕ
    k = (node_of c).progress

    lead : IsLeader c a s
    lead = source_leads set t c a s

    far : progress p.id (knowledge a.seat.node) ≡ k
    far =
        let same = ap (λ i. progress i (knowledge a.seat.node)) s.own in
        let next = a.work.next in
        let at = reached_is set t c in
        omega (arith, same, next, at)

    among : IsAmong (event_of c) (stream p)
    among =
        subst (λ (n : Node). IsAmong (event_of c) (stream n))
        (one_node (nodes_in a.to.world.places) (regular_now a.to).nodes a.work.event.name s.seat.name a.work.event.node
        p a.work.event.is (seat_node a.to.world.places s.seat s.is, a.work.event.own ∙ sym s.own)) a.work.event.among

    below : k ≤ length (read set (stream p))
    below =
        let within = (number_within p.id (stream p) (event_of c)
        ((regular_now a.to).nodes.each s.seat.name p (seat_node a.to.world.places s.seat s.is)).emitted among).1 in
        let long = length-map (stream p) (said set) in
        let at = reached_is set t c in
        omega (arith, within, long, at)

-- and had its subscription then
pub row_then : (set : ℕ) (t : Past) (c : Coming set t) (a : FindingOf c) (s : Source c a) → (u : Row) →
    row unfed (worker c.work).id (heard_of c) ≡ Some u →
    HasRow set a.seat.node.id u (knowledge a.seat.node).config
row_then set t c a s u has =
    (source_then set t c a s).rows a.seat.name a.seat.node (seat_node a.to.world.places a.seat a.work.seat)
    (λ same. a.work.other (sym s.own ∙ sym same)) u
    (ap (λ id. row unfed id (up_to (progress s.seat.node.id (knowledge a.seat.node)) (read set (stream s.seat.node))))
    (same_id t c.work.carried.seat (event_of c) a c.work.is.work.seat)
    ∙ ap (row unfed (worker c.work).id) (heard_then set t c a s) ∙ has)
