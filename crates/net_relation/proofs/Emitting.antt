-- A node emits events: the net of each of its own sets goes on by them, and no other net does.
use Rattle.net_laws.specs.Subscriptions.{up_to}
use Rattle.net_relation.proofs.Links.{EndsSet}
use Rattle.net_relation.proofs.Links.{CanEnd}
use Rattle.std.proofs.Common.{◌≡◌, ◌≢◌, inl, ℕ, Bool, true, false, cond, List, [], ◌∷◌, length, Option, ◌⊎◌, inr, ◌≤◌}
use Rattle.std.proofs.Common.{Some, None, refl, sym, ap, subst, ◌∙◌, arith}
use Rattle.std.specs.Prelude.{◌+◌, ◌==◌, max}
use Rattle.std.proofs.lemmas.Bool.{eqb-true, eq-eqb, false≢true, true≢false}
use Rattle.std.proofs.lemmas.List.{length-map}
use Rattle.node_rows.specs.declared.body.Body.{Body}
use Rattle.node_rows.specs.declared.body.Body.TheVariants.{Sync, DropSet, SubscribeSet, EnableSubscription}
use Rattle.node_rows.specs.declared.body.Body.TheVariants.{UnsubscribeSet}
use Rattle.net_laws.specs.Subscriptions.{DropSet as Ends}
use Rattle.view_laws.specs.Known.{ends}
use Rattle.std.specs.List.{AllByRecursion}
use Rattle.net_laws.specs.Subscriptions.{Event as Said, Sync as Syncs, Subscribe, Enable, Unrelated}
use Rattle.net_laws.specs.Subscriptions.{Subscription as Row, Unsubscribe, is_over, last_moment}
use Rattle.net_laws.specs.Subscriptions.{row, subscribed}
use Rattle.net_laws.specs.Net.{Emits as EmitsStep, Here, MayEmit, More, Net, Node as NetNode, emitted, owned, IsReady}
use Rattle.net_laws.specs.Net.{ProvidesNone}
use Rattle.slon_model.specs.Maps.{entry_at, pair_at}
use Rattle.slon_model.specs.Events.{Event}
use Rattle.slon_model.specs.Snapshots.{Snapshot}
use Rattle.slon_model.specs.Config.{era_of, receivers}
use Rattle.slon_model.specs.Deeds.{Emits, Knowledge, Node, knowledge, progress, stream, with_deeds}
use Rattle.slon_model.specs.Place.{Place, deed, taken}
use Rattle.slon_model.specs.Reaching.{commit_of}
use Rattle.slon_model.specs.Sessions.{Emission, Seat, next_event, tells}
use Rattle.slon_model.specs.Subscribing.{NewFeed, provides as is_provided}
use Rattle.slon_laws.specs.Sound.{Sound}
use Rattle.stream_laws.specs.Nodes.{Nodes}
use Rattle.stream_laws.specs.Making.{is_emitted}
use Rattle.stream_laws.proofs.Lists.{among_any, number_beside}
use Rattle.stream_laws.proofs.Seats.{IsSeat, seat_node}
use Rattle.image_laws.specs.Moments.{count_of}
use Rattle.image_laws.proofs.Ticking.{ClockAt}
use Rattle.view_laws.specs.Past.{Past}
use Rattle.view_laws.proofs.Moments.{regular_now}
use Rattle.view_laws.proofs.Rising.{found_stands}
use Rattle.view_laws.proofs.Seen.{same_views}
use Rattle.net_relation.specs.Reading.{moment_of, plain, read, said, said_by, unfed}
use Rattle.net_relation.proofs.Dropped.{dropped_stays, whole_stays}
use Rattle.net_relation.proofs.Feeding.{plain_emitted}
use Rattle.net_relation.proofs.Links.{Alone, CanFeed, CanLeave, Changes, Feeds, Leaves, MayTell, is_plain}
use Rattle.net_relation.proofs.Moments.{taken_now}
use Rattle.net_relation.proofs.Nets.{on_live, over_back}
use Rattle.net_relation.proofs.Relating.{FitsNode, Frame, Netted, netted_sound, origin_later}
use Rattle.net_relation.proofs.Rows.{IsBeside, row_beside, row_changed}
use Rattle.net_relation.proofs.Relaying.{AreReadyFor, IsAsFar, Relay}
use Rattle.node_rows.specs.declared.rows.Subscription.{Subscription}
use Rattle.slon_model.proofs.Names.{one_found}

-- ---- one event

-- The node of a database emits an event of this body, with this number.
pub record Emitting (set : ℕ) (ended : List ℕ) (all : Nodes) (p : Place) (y : Node) : Type 0 where
  pub netted : Netted set ended all p y
  pub sound : Sound p
  pub clock : ClockAt p ended
  pub number : ℕ
  pub is : number ≡ length (stream y) + 1

-- the node behind it
abbrev pub telling : Place → Node → ℕ → Emission → Node
telling p y number m =
    let event : Event = record { origin = y.id; number = number; taken = taken p; body = m.body } in
    with_deeds (deed p m.rows [] (Emits event) ∷ []) y

pub emit_one : {set : ℕ} {ended : List ℕ} {all : Nodes} {p : Place} {y : Node} (e : Emitting set ended all p y)
    (m : Emission) → is_emitted m.body ≡ true → MayEmit e.netted.net (said_by set (taken p) m.body) →
    Netted set ended all p (telling p y e.number m)
emit_one {set} {ended} {all} {p} {y} e m is may =
    origin_later n [] p (telling p y e.number m) (record {
      id = refl;
      new = event ∷ [];
      all = refl;
      logs = λ l among own. inl among;
      apart = e.clock.apart;
    }) (record {
      net = emitted says n.net;
      leads = More Here (EmitsStep says may refl);
      nodes = refl;
      origin = record {
        origin = n.origin.origin;
        start = n.origin.start;
        stream = ap (λ z. says ∷ z) n.origin.stream;
        now = n.origin.now;
        full = λ on. n.origin.full (over_back says (is_over n.net.stream) on);
        rows = λ r u has.
            row_changed set r (read set (stream y)) event (knowledge y).config is number
            (λ t old. n.origin.rows r t (at r n.net.stream n.origin.stream ∙ old)) u
            (sym (at r (says ∷ n.net.stream) (ap (λ z. says ∷ z) n.origin.stream)) ∙ has);
        bars = λ id barred.
            dropped_stays id (y.id, e.number) m.body (knowledge y).config is (n.origin.bars id barred);
      };
      now = n.now;
      events = (taken_now p ended e.sound e.clock, n.events);
    })
  where
    n : Netted set ended all p y
    n = e.netted

    event : Event
    event = record { origin = y.id; number = e.number; taken = taken p; body = m.body }

    says : Said
    says = said_by set (taken p) m.body

    number : e.number ≡ length (read set (stream y)) + 1
    number = let long = length-map (stream y) (said set) in let is = e.is in omega (arith, long, is)

    at : (r : ℕ) (z : List Said) {w : List Said} → z ≡ w → row n.net.start r z ≡ row unfed r w
    at r z same = ap (λ s. row s r z) n.origin.start ∙ ap (row unfed r) same

-- ---- an event that stands alone

plain_may : (set : ℕ) (n : Net) (k : Snapshot) (body : Body) → is_plain body ≡ true → count_of k ≡ n.now →
    MayEmit n (said_by set k body)
plain_may set n k Sync plain now = now
plain_may set n k (SubscribeSet id provider receiver forward) plain now = absurd (false≢true plain)
plain_may set n k (EnableSubscription id provider receiver forward era) plain now = absurd (false≢true plain)
plain_may set n k (UnsubscribeSet id receiver) plain now = absurd (false≢true plain)
plain_may set n k (DropSet id) plain now = absurd (false≢true plain)
plain_may set n k others plain now = tt

abbrev emit_plain : {set : ℕ} {ended : List ℕ} {all : Nodes} {p : Place} {y : Node} (e : Emitting set ended all p y)
    (m : Emission) → is_plain m.body ≡ true → Netted set ended all p (telling p y e.number m)
emit_plain {set} {p = p} e m plain =
    emit_one e m (plain_emitted m.body plain)
    (plain_may set e.netted.net (taken p) m.body plain (sym e.netted.origin.now))

-- ---- the events of a subscription

-- the subscription was not there
no_row : {set : ℕ} {ended : List ℕ} {all : Nodes} {p : Place} {y : Node} (n : Netted set ended all p y) (f : NewFeed) →
    pair_at f.set_id f.receiver (knowledge y).config.subscriptions ≡ None → f.set_id ≡ set →
    owned n.net f.receiver ≡ None
no_row {set} {y = y} n f none same = by (owned n.net f.receiver) refl
  where
    by : (o : Option Row) → owned n.net f.receiver ≡ o → o ≡ None
    by None is = refl
    by (Some u) is =
        let there = n.origin.rows f.receiver u is in
        let never : None ≡ Some (plain u) =
        sym none ∙ ap (λ i. pair_at i f.receiver (knowledge y).config.subscriptions) same ∙ there in
        absurd cc

-- A node is about to emit the subscription, behind a SYNC with the snapshot of now.
record Feeding {set : ℕ} {ended : List ℕ} {all : Nodes} {p : Place} {y : Node} (e : Emitting set ended all p y)
    (f : NewFeed) : Type 0 where
  ready : AreReadyFor all y f
  apart : f.receiver ≢ y.id
  keeps : (f.forward ≡ true) ⊎ (is_provided f.receiver f.set_id (knowledge y).config ≡ false)
  distinct : f.provider ≢ f.receiver
  before : List Event
  synced : Event
  is : stream y ≡ synced ∷ before
  body : synced.body ≡ Sync
  snapshot : synced.taken ≡ taken p
  live : AllByRecursion (λ e. ends f.set_id e.body ≡ false) (stream y)

-- a node of the net is as far as one of the session
far_reached : {set : ℕ} {ended : List ℕ} {all : Nodes} {p : Place} {y : Node} (n : Netted set ended all p y) (r k : ℕ) →
    r ≢ y.id → IsAsFar all y r k → k ≤ (n.net.nodes r).progress
far_reached n r k other (inl none) = omega (arith, none)
far_reached n r k other (inr (name, o, is, id, less)) =
    let reached = (n.nodes name o is (λ own. other (sym id ∙ own))).reached in
    let at = ap (λ i. (n.net.nodes i).progress) id in
    omega (arith, reached, less, at)

-- the provider is the origin, or ready
feed_provider : {set : ℕ} {ended : List ℕ} {all : Nodes} {p : Place} {y : Node} (e : Emitting set ended all p y)
    (f : NewFeed) → Feeding e f → f.set_id ≡ set →
    (f.provider ≡ e.netted.net.origin) ⊎ ((u : Row) × IsReady e.netted.net f.provider u)
feed_provider {set} {ended} {all} {p} {y} e f k same = by k.ready.provides
  where
    n : Net
    n = e.netted.net

    relayed : (r : Relay all y f) → IsReady n f.provider r.feed
    relayed r = record {
      row = has;
      ready = r.ready;
      forward = ap (λ (u : Subscription). u.forward) known ∙ r.forward;
      confirmed =
          let far = far_reached e.netted f.provider r.known.mark r.other r.far in
          omega (arith, mark, far);
    }
      where
        has : owned n f.provider ≡ Some r.feed
        has =
            ap (λ s. row s f.provider n.stream) e.netted.origin.start
            ∙ ap (row unfed f.provider) e.netted.origin.stream
            ∙ ap (λ i. row unfed f.provider (read i (stream y))) (sym same) ∙ r.made

        known : plain r.feed ≡ r.known
        known = one_found (plain r.feed) r.known
            (sym (e.netted.origin.rows f.provider r.feed has)
            ∙ ap (λ i. pair_at i f.provider (knowledge y).config.subscriptions) (sym same) ∙ r.has)

        mark : r.feed.mark ≡ r.known.mark
        mark = ap (λ (u : Subscription). u.mark) known

    by : (f.provider ≡ y.id) ⊎ Relay all y f → (f.provider ≡ n.origin) ⊎ ((u : Row) × IsReady n f.provider u)
    by (inl own) = inl (own ∙ sym e.netted.origin.origin)
    by (inr r) = inr (r.feed, relayed r)

-- who provides for a receiver is found among the providers of the configuration
provides_none : {set : ℕ} {ended : List ℕ} {all : Nodes} {p : Place} {y : Node} (n : Netted set ended all p y)
    (r : ℕ) → is_provided r set (knowledge y).config ≡ false → ProvidesNone n.net r
provides_none {set} {y = y} n r none q u has own =
    true≢false (sym (among_any (λ e. e.1.provider == r) (q, plain u) (receivers set (knowledge y).config)
    (found_stands q (plain u) (receivers set (knowledge y).config) (n.origin.rows q u has))
    (eq-eqb u.provider r own)) ∙ none)

feed_may : {set : ℕ} {ended : List ℕ} {all : Nodes} {p : Place} {y : Node} (e : Emitting set ended all p y)
    (f : NewFeed) → Feeding e f →
    MayEmit e.netted.net (said_by set (taken p) (SubscribeSet f.set_id f.provider f.receiver f.forward))
feed_may {set} {p = p} {y} e f k = by (f.set_id == set) refl
  where
    n : Net
    n = e.netted.net

    last : last_moment n.stream ≡ n.now
    last =
        let all : n.stream ≡ said_by set k.synced.taken k.synced.body ∷ read set k.before =
        e.netted.origin.stream ∙ ap (read set) k.is in
        let first : n.stream ≡ Syncs (count_of (taken p)) ∷ read set k.before =
        all ∙ ap (λ body. said_by set k.synced.taken body ∷ read set k.before) k.body
        ∙ ap (λ t. said_by set t Sync ∷ read set k.before) k.snapshot in
        let most : last_moment n.stream ≡ max (count_of (taken p)) (last_moment (read set k.before)) =
        ap last_moment first in
        let bound = (netted_sound e.netted).bound in
        let now = e.netted.origin.now in
        omega (arith, most, bound, now)

    by : (b : Bool) → (f.set_id == set) ≡ b → MayEmit n (cond b (Subscribe f.receiver f.provider f.forward) Unrelated)
    by true same = record {
      here =
          ap is_over e.netted.origin.stream
          ∙ on_live set (stream y) (subst (λ i. AllByRecursion (λ e. ends i e.body ≡ false) (stream y))
          (eqb-true f.set_id set same) k.live);
      synced = last;
      apart = k.distinct;
      provider = feed_provider e f k (eqb-true f.set_id set same);
      settled = λ u is.
          far_reached e.netted f.receiver u.mark k.apart
          (k.ready.settled (plain u)
          (ap (λ i. pair_at i f.receiver (knowledge y).config.subscriptions) (eqb-true f.set_id set same)
          ∙ e.netted.origin.rows f.receiver u is));
      keeps = λ u is. keeps k.keeps;
    }
      where
        keeps : (f.forward ≡ true) ⊎ (is_provided f.receiver f.set_id (knowledge y).config ≡ false) →
            (f.forward ≡ true) ⊎ ProvidesNone n f.receiver
        keeps (inl on) = inl on
        keeps (inr none) =
            inr (provides_none e.netted f.receiver
            (subst (λ i. is_provided f.receiver i (knowledge y).config ≡ false) (eqb-true f.set_id set same) none))
    by false other = tt

-- ENABLE_SUBSCRIPTION behind it
enable_may : {set : ℕ} {ended : List ℕ} {all : Nodes} {p : Place} {y : Node} (e : Emitting set ended all p y)
    (f : NewFeed) → (pair_at f.set_id f.receiver (knowledge y).config.subscriptions ≡ None)
    × AllByRecursion (λ e. ends f.set_id e.body ≡ false) (stream y) → (number : ℕ)
    (n : Netted set ended all p (telling p y number (tells (SubscribeSet f.set_id f.provider f.receiver f.forward)))) →
    (era : ℕ) → MayEmit n.net (said_by set (taken p) (EnableSubscription f.set_id f.provider f.receiver f.forward era))
enable_may {set} {p = p} {y} e f new number n era = by (f.set_id == set) refl
  where
    z : List Said
    z = read set (stream y)

    by : (b : Bool) → (f.set_id == set) ≡ b → MayEmit n.net (cond b (Enable f.receiver) Unrelated)
    by true same = (
      ap is_over n.origin.stream
          ∙ on_live set (stream (telling p y number (tells (SubscribeSet f.set_id f.provider f.receiver f.forward)))) (
            refl,
            subst (λ i. AllByRecursion (λ e. ends i e.body ≡ false) (stream y)) (eqb-true f.set_id set same) new.1,
          ),
      (
        made,
        record {
          row = ap (λ s. row s f.receiver n.net.stream) n.origin.start ∙ ap (row unfed f.receiver) first
              ∙ ap (λ b. cond b (Some made) (row unfed f.receiver z)) (eq-eqb f.receiver f.receiver refl);
          pending = ap (λ o. (subscribed (length z + 1) (last_moment z) f.provider f.forward o).ready) none;
        },
      ),
    )
      where
        made : Row
        made = subscribed (length z + 1) (last_moment z) f.provider f.forward (row unfed f.receiver z)

        first : n.net.stream ≡ Subscribe f.receiver f.provider f.forward ∷ z
        first =
            n.origin.stream
            ∙ ap (λ b. cond b (Subscribe f.receiver f.provider f.forward) Unrelated ∷ z) same

        none : row unfed f.receiver z ≡ None
        none =
            ap (row unfed f.receiver) (sym e.netted.origin.stream)
            ∙ ap (λ s. row s f.receiver e.netted.net.stream) (sym e.netted.origin.start)
            ∙ no_row e.netted f new.0 (eqb-true f.set_id set same)
    by false other = tt

-- the end of a subscription
leave_may : {set : ℕ} {ended : List ℕ} {all : Nodes} {p : Place} {y : Node} (e : Emitting set ended all p y)
    (id receiver : ℕ) → CanLeave y id receiver →
    MayEmit e.netted.net (said_by set (taken p) (UnsubscribeSet id receiver))
leave_may {set} {y = y} e id receiver can = by (id == set) refl
  where
    by : (b : Bool) → (id == set) ≡ b → MayEmit e.netted.net (cond b (Unsubscribe receiver) Unrelated)
    by true same = (
      ap is_over e.netted.origin.stream ∙ on_live set (stream y)
          (subst (λ i. AllByRecursion (λ e. ends i e.body ≡ false) (stream y)) (eqb-true id set same) can.live),
      provides_none e.netted receiver
          (subst (λ i. is_provided receiver i (knowledge y).config ≡ false) (eqb-true id set same) can.provides),
    )
    by false other = tt

-- the end of a set
end_may : {set : ℕ} {ended : List ℕ} {all : Nodes} {p : Place} {y : Node} (e : Emitting set ended all p y) (id : ℕ) →
    CanEnd y id → MayEmit e.netted.net (said_by set (taken p) (DropSet id))
end_may {set} {y = y} e id can = by (id == set) refl
  where
    by : (b : Bool) → (id == set) ≡ b → MayEmit e.netted.net (cond b Ends Unrelated)
    by true same =
        ap is_over e.netted.origin.stream
        ∙ on_live set (stream y)
        (subst (λ i. AllByRecursion (λ e. ends i e.body ≡ false) (stream y)) (eqb-true id set same) can.live)
    by false other = tt

-- ---- what a node emits at once

-- a SYNC
abbrev behind_sync : {set : ℕ} {ended : List ℕ} {all : Nodes} {p : Place} {y : Node}
    (e : Emitting set ended all p y) → Emitting set ended all p (telling p y e.number (tells Sync))
behind_sync e =
    record {
      netted = emit_plain e (tells Sync) refl;
      sound = e.sound;
      clock = e.clock;
      number = e.number + 1;
      is = let is = e.is in omega (arith, is);
    }

-- the subscription, behind a SYNC
emit_change : {set : ℕ} {ended : List ℕ} {all : Nodes} {p : Place} {y : Node} (e : Emitting set ended all p y)
    (f : NewFeed) → CanFeed y f → AreReadyFor all y f →
    Netted set ended all p (telling p (telling p y e.number (tells Sync)) (e.number + 1)
    (tells (SubscribeSet f.set_id f.provider f.receiver f.forward)))
emit_change {set} {ended} {all} {p} {y} e f can ready =
    emit_one two (tells (SubscribeSet f.set_id f.provider f.receiver f.forward)) refl (feed_may two f fed)
  where
    one : Node
    one = telling p y e.number (tells Sync)

    two : Emitting set ended all p one
    two = behind_sync e

    -- so it is behind the SYNC
    later : (f.provider ≡ y.id) ⊎ Relay all y f → (f.provider ≡ one.id) ⊎ Relay all one f
    later (inl own) = inl own
    later (inr r) = inr (record {
      other = r.other;
      known = r.known;
      has = r.has;
      forward = r.forward;
      feed = r.feed;
      made = r.made;
      ready = r.ready;
      far = r.far;
    })

    fed : Feeding two f
    fed = record {
      ready = record { provides = later ready.provides; settled = ready.settled };
      apart = can.apart;
      keeps = can.keeps;
      distinct = can.distinct;
      before = stream y;
      synced = record { origin = y.id; number = e.number; taken = taken p; body = Sync };
      is = refl;
      body = refl;
      snapshot = refl;
      live = (refl, can.live);
    }

-- and where it is a new one, the event at which the receiver copies the set
emit_feed : {set : ℕ} {ended : List ℕ} {all : Nodes} {p : Place} {y : Node} (e : Emitting set ended all p y)
    (f : NewFeed) → CanFeed y f → pair_at f.set_id f.receiver (knowledge y).config.subscriptions ≡ None →
    AreReadyFor all y f →
    Netted set ended all p (telling p (telling p (telling p y e.number (tells Sync)) (e.number + 1)
    (tells (SubscribeSet f.set_id f.provider f.receiver f.forward))) (e.number + 1 + 1)
    (tells (EnableSubscription f.set_id f.provider f.receiver f.forward (era_of f.set_id (knowledge y).config))))
emit_feed {set} {ended} {all} {p} {y} e f can new ready =
    emit_one three (tells (EnableSubscription f.set_id f.provider f.receiver f.forward era)) refl
    (enable_may (behind_sync e) f (new, (refl, can.live)) (e.number + 1) three.netted era)
  where
    era : ℕ
    era = era_of f.set_id (knowledge y).config

    one : Node
    one = telling p y e.number (tells Sync)

    three : Emitting set ended all p
        (telling p one (e.number + 1) (tells (SubscribeSet f.set_id f.provider f.receiver f.forward)))
    three = record {
      netted = emit_change e f can ready;
      sound = e.sound;
      clock = e.clock;
      number = e.number + 1 + 1;
      is = let is = e.is in omega (arith, is);
    }

-- the net of the node at its seat, behind all that it emits
pub told_net : {set : ℕ} {ended : List ℕ} {all : Nodes} (s : Seat) (ms : List Emission) → MayTell s.node ms →
    ((f : NewFeed) → CanFeed s.node f → AreReadyFor all s.node f) →
    next_event s ≡ length (stream s.node) + 1 → Sound s.place → ClockAt s.place ended →
    Netted set ended all s.place s.node →
    Netted set ended all s.place (with_deeds (commit_of s ms).deeds s.node)
told_net {set} {ended} {all} s ms (Alone m same plain) ready number sound clock n =
    subst (λ ms. Netted set ended all s.place (with_deeds (commit_of s ms).deeds s.node)) (sym same)
    (emit_plain (record { netted = n; sound = sound; clock = clock; number = next_event s; is = number }) m plain)
told_net {set} {ended} {all} s ms (Feeds f same can new) ready number sound clock n =
    subst (λ ms. Netted set ended all s.place (with_deeds (commit_of s ms).deeds s.node)) (sym same)
    (emit_feed (record { netted = n; sound = sound; clock = clock; number = next_event s; is = number }) f can new
    (ready f can))
told_net {set} {ended} {all} s ms (Changes f same can had) ready number sound clock n =
    subst (λ ms. Netted set ended all s.place (with_deeds (commit_of s ms).deeds s.node)) (sym same)
    (emit_change (record { netted = n; sound = sound; clock = clock; number = next_event s; is = number }) f can
    (ready f can))
told_net {set} {ended} {all} s ms (Leaves id receiver same can) ready number sound clock n =
    let e : Emitting set ended all s.place s.node =
    record { netted = n; sound = sound; clock = clock; number = next_event s; is = number } in
    subst (λ ms. Netted set ended all s.place (with_deeds (commit_of s ms).deeds s.node)) (sym same)
    (emit_one e (tells (UnsubscribeSet id receiver)) refl (leave_may e id receiver can))
told_net {set} {ended} {all} s ms (EndsSet id same can) ready number sound clock n =
    let e : Emitting set ended all s.place s.node =
    record { netted = n; sound = sound; clock = clock; number = next_event s; is = number } in
    subst (λ ms. Netted set ended all s.place (with_deeds (commit_of s ms).deeds s.node)) (sym same)
    (emit_one e (tells (DropSet id)) refl (end_may e id can))

pub next_number : (t : Past) (s : Seat) → IsSeat t.world.places s → next_event s ≡ length (stream s.node) + 1
next_number t s is =
    let whole = ((regular_now t).nodes.each s.name s.node (seat_node t.world.places s is)).whole in
    let known = ap (λ (k : Knowledge). progress s.node.id k) is.known in
    omega (arith, whole, known)

-- ---- another node

-- by the stream of the origin the node subscribes to the set
abbrev pub IsRowed : Frame → Node → NetNode → Type 0
IsRowed f o node =
    (u : Row) × (row unfed o.id (up_to node.progress (read f.set_id (stream f.leader))) ≡ Some u)

-- it emits an event that is not of its own subscription
record Tells (f : Frame) (o : Node) (node : NetNode) (m : Emission) : Type 0 where
  apart : o.id ≢ f.leader.id
  emitted : is_emitted m.body ≡ true
  beside : IsRowed f o node → IsBeside f.set_id o.id m.body

tell_beside : (f : Frame) (p : Place) (o : Node) (number : ℕ) (m : Emission) (node : NetNode) → Tells f o node m →
    FitsNode f o node → FitsNode f (telling p o number m) node
tell_beside f p o number m node is old = record {
  reached = old.reached
      ∙ sym (number_beside f.leader.id o.id number (knowledge o).progress (λ same. is.apart (sym same)));
  view = old.view ∙ ap (λ vs. moment_of f.leader.id (entry_at f.set_id vs)) (sym views);
  kept = λ v found own. old.kept v (ap (entry_at f.set_id) (sym views) ∙ found) own;
  row = λ u has. row_beside f.set_id o.id event (knowledge o).config u is.emitted (is.beside (u, has)) (old.row u has);
  logs = old.logs;
  whole = whole_stays event (knowledge o).config is.emitted old.whole;
}
  where
    event : Event
    event = record { origin = o.id; number = number; taken = taken p; body = m.body }

    views : (knowledge (telling p o number m)).views ≡ (knowledge o).views
    views = same_views event m.body (knowledge o).views is.emitted

plain_beside : (set r : ℕ) (body : Body) → is_plain body ≡ true → IsBeside set r body
plain_beside set r (SubscribeSet id provider receiver forward) plain = absurd (false≢true plain)
plain_beside set r (EnableSubscription id provider receiver forward era) plain = absurd (false≢true plain)
plain_beside set r (UnsubscribeSet id receiver) plain = absurd (false≢true plain)
plain_beside set r (DropSet id) plain = absurd (false≢true plain)
plain_beside set r others plain = tt

pub told_matches : (f : Frame) (s : Seat) (ms : List Emission) (node : NetNode) → MayTell s.node ms →
    ((set receiver : ℕ) → CanLeave s.node set receiver → receiver ≢ s.node.id)
    × (CanEnd s.node f.set_id → IsRowed f s.node node → ⊥) → s.node.id ≢ f.leader.id →
    FitsNode f s.node node → FitsNode f (with_deeds (commit_of s ms).deeds s.node) node
told_matches f s ms node (Alone m same plain) leave apart old =
    subst (λ ms. FitsNode f (with_deeds (commit_of s ms).deeds s.node) node) (sym same)
    (tell_beside f s.place s.node (next_event s) m node (record {
      apart = apart;
      emitted = plain_emitted m.body plain;
      beside = λ rowed. plain_beside f.set_id s.node.id m.body plain;
    }) old)
told_matches f s ms node (Feeds k same can new) leave apart old =
    subst (λ ms. FitsNode f (with_deeds (commit_of s ms).deeds s.node) node) (sym same)
    (tell_beside f s.place two (next_event s + 1 + 1)
    (tells (EnableSubscription k.set_id k.provider k.receiver k.forward (era_of k.set_id (knowledge s.node).config)))
    node (record { apart = apart; emitted = refl; beside = λ rowed id is. can.apart is })
    (tell_beside f s.place one (next_event s + 1) (tells (SubscribeSet k.set_id k.provider k.receiver k.forward)) node
    (record { apart = apart; emitted = refl; beside = λ rowed id is. can.apart is })
    (tell_beside f s.place s.node (next_event s) (tells Sync) node
    (record { apart = apart; emitted = refl; beside = λ rowed. tt }) old)))
  where
    one : Node
    one = telling s.place s.node (next_event s) (tells Sync)

    two : Node
    two = telling s.place one (next_event s + 1) (tells (SubscribeSet k.set_id k.provider k.receiver k.forward))
told_matches f s ms node (Changes k same can had) leave apart old =
    subst (λ ms. FitsNode f (with_deeds (commit_of s ms).deeds s.node) node) (sym same)
    (tell_beside f s.place (telling s.place s.node (next_event s) (tells Sync)) (next_event s + 1)
    (tells (SubscribeSet k.set_id k.provider k.receiver k.forward)) node
    (record { apart = apart; emitted = refl; beside = λ rowed id is. can.apart is })
    (tell_beside f s.place s.node (next_event s) (tells Sync) node
    (record { apart = apart; emitted = refl; beside = λ rowed. tt }) old))
told_matches f s ms node (Leaves set receiver same can) leave apart old =
    subst (λ ms. FitsNode f (with_deeds (commit_of s ms).deeds s.node) node) (sym same)
    (tell_beside f s.place s.node (next_event s) (tells (UnsubscribeSet set receiver)) node
    (record { apart = apart; emitted = refl; beside = λ rowed id is. leave.0 set receiver can is }) old)
told_matches f s ms node (EndsSet set same can) leave apart old =
    subst (λ ms. FitsNode f (with_deeds (commit_of s ms).deeds s.node) node) (sym same)
    (tell_beside f s.place s.node (next_event s) (tells (DropSet set)) node (record {
      apart = apart;
      emitted = refl;
      beside = λ rowed id. leave.1 (subst (CanEnd s.node) id can) rowed;
    }) old)
