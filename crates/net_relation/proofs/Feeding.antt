-- What is known of the events of subscriptions: the node that emits them is that which stored the set, it knows the
-- receiver, which is another node, and the set is in its first era.
use Rattle.stream_laws.proofs.Lists.{all_mapped}
use Rattle.std.proofs.Common.{◌≡◌, ◌≢◌, inl, inr, ℕ, Bool, true, false, cond, List, [], ◌∷◌, Option, Some, None, refl}
use Rattle.std.proofs.Common.{sym, ap, subst, ◌∙◌, length, suc}
use Rattle.std.specs.Prelude.{◌+◌, ◌&&◌, ◌||◌, option_map, unwrap_or, ◌==◌}
use Rattle.std.specs.List.{AllByRecursion}
use Rattle.std.proofs.lemmas.Bool.{false≢true, eq-eqb, eqb-true}
use Rattle.node_rows.specs.declared.rows.SetRow.{SetRow}
use Rattle.node_rows.specs.declared.body.Body.{Body}
use Rattle.node_rows.specs.declared.body.Body.TheVariants.{Sync, StoreSet, SubscribeSet, EnableSubscription, DropSet}
use Rattle.node_rows.specs.declared.body.Body.TheVariants.{MoveSet}
use Rattle.node_rows.specs.declared.body.Body.TheVariants.{FailoverSet, StoreNode, UnsubscribeSet}
use Rattle.slon_model.specs.Maps.{entry_at}
use Rattle.slon_model.specs.Events.{Event}
use Rattle.slon_model.specs.Config.{Config, change, change_by, era_of, is_origin, leads_row, live_set}
use Rattle.slon_model.specs.Deeds.{Node, knowledge, stream, with_deeds}
use Rattle.slon_model.specs.Place.{Place, taken}
use Rattle.slon_model.specs.Moves.{with_commit}
use Rattle.slon_model.specs.Sessions.{Commit, Emission, Seat, committing, next_event, tells}
use Rattle.slon_model.specs.Reaching.{commit_of}
use Rattle.slon_model.proofs.Names.{all_map, one_found}
use Rattle.stream_laws.specs.Nodes.{IsKnown, nodes_in}
use Rattle.stream_laws.specs.Making.{HasStored, is_emitted}
use Rattle.stream_laws.proofs.Emits.{known_changed}
use Rattle.stream_laws.proofs.Lists.{all_among, all_entry, all_with}
use Rattle.stream_laws.proofs.Seats.{IsSeat, seat_node}
use Rattle.stream_laws.proofs.Statements.{has_stored}
use Rattle.view_laws.specs.Past.{Past}
use Rattle.view_laws.specs.Known.{is_on_feed}
use Rattle.view_laws.proofs.Lasting.{both_same}
use Rattle.view_laws.proofs.Living.{event_of}
use Rattle.view_laws.proofs.Moments.{regular_now}
use Rattle.view_laws.proofs.Saying.{may_emitted}
use Rattle.net_relation.proofs.Behind.{begun_node, heard_node, holds_now, taken_node, told_node}
use Rattle.net_relation.proofs.Links.{Alone, Begins, CanLeave, Changes, Feeds, HearsSome, Leaves, Linked, MayTell}
use Rattle.net_relation.proofs.Links.{EndsSet, TakesOne, Tells, ending, leaving}
use Rattle.net_relation.proofs.Links.{changing, giver, feeding}
use Rattle.net_relation.proofs.Rowed.{AreRowed, IsRowed, has_row, tells_of}
use Rattle.net_relation.proofs.Links.{is_plain, joined, joins, stores}
use Rattle.net_relation.proofs.Places.{NodeWent}
use Rattle.net_relation.proofs.Stepping.{Does, Goes, Gone, Here, IsPut, Joins, Looks, Makes, Shuts, Stays, There}
use Rattle.net_relation.proofs.Stepping.{is_put, look}
use Rattle.net_relation.proofs.Stepping.{with_look}
use Rattle.net_laws.specs.Subscriptions.{Event as Said, Subscribe, Enable, Unsubscribe, Unrelated}
use Rattle.net_laws.specs.Subscriptions.{Subscription as Row}
use Rattle.net_laws.specs.Subscriptions.{enabled, last_moment, readied, row, subscribed}
use Rattle.slon_model.specs.Snapshots.{Snapshot}
use Rattle.net_laws.specs.Subscriptions.{DropSet as Ends}
use Rattle.view_laws.proofs.Told.{ended_first}
use Rattle.slon_model.specs.Subscribing.{NewFeed}
use Rattle.net_relation.specs.Reading.{read, said_by, unfed}

-- ---- one event

-- a node of this id that has emitted these events, and knows this, may feed the receiver
abbrev pub FeedOf : ℕ → List Event → Config → ℕ → ℕ → Type 0
FeedOf own es c set receiver = HasStored set es × IsKnown receiver c × (receiver ≢ own)

abbrev pub IsFeed : ℕ → List Event → Config → Body → Type 0
IsFeed own es c (SubscribeSet set provider receiver forward) = FeedOf own es c set receiver
IsFeed own es c (EnableSubscription set provider receiver forward era) = FeedOf own es c set receiver × (era ≡ 1)
IsFeed own es c (UnsubscribeSet set receiver) = FeedOf own es c set receiver
IsFeed own es c (DropSet set) = HasStored set es
IsFeed own es c others = Unit {0}

-- all events are such, and each set is in its first era
record AreFeeds (own : ℕ) (es : List Event) (c : Config) : Type 0 where
  feeds : AllByRecursion (λ e. IsFeed own es c e.body) es
  eras : AllByRecursion (λ e. e.1.era ≡ 1) c.sets
  rows : AreRowed es

-- each receiver that subscribes was told to copy the set
abbrev pub AreReady : List Event → Type 0
AreReady es = (set receiver : ℕ) (u : Row) → row unfed receiver (read set es) ≡ Some u → u.ready ≡ true

-- So it is of the events of a node behind each of its commits.
pub record NodeFeeds (n : Node) : Type 0 where
  pub feeds : AllByRecursion (λ e. IsFeed n.id (stream n) (knowledge n).config e.body) (stream n)
  pub eras : AllByRecursion (λ e. e.1.era ≡ 1) (knowledge n).config.sets
  pub rows : AreRowed (stream n)
  pub ready : AreReady (stream n)

are_feeds : (n : Node) → NodeFeeds n → AreFeeds n.id (stream n) (knowledge n).config
are_feeds n f = record { feeds = f.feeds; eras = f.eras; rows = f.rows }

node_feeds : (n : Node) → AreFeeds n.id (stream n) (knowledge n).config → AreReady (stream n) → NodeFeeds n
node_feeds n f ready = record { feeds = f.feeds; eras = f.eras; rows = f.rows; ready = ready }

-- ---- one more event

still_stored : (set : ℕ) (e : Event) (es : List Event) → HasStored set es → HasStored set (e ∷ es)
still_stored set e es s = (s.0, inr s.1, s.2)

still_feed : (own : ℕ) (e : Event) (es : List Event) (c : Config) (body : Body) → IsFeed own es c body →
    IsFeed own (e ∷ es) (change e c) body
still_feed own e es c (SubscribeSet set provider receiver forward) is =
    (still_stored set e es is.0, known_changed receiver e.origin e.number e.body c is.1, is.2)
still_feed own e es c (EnableSubscription set provider receiver forward era) is = (
  (still_stored set e es is.0.0, known_changed receiver e.origin e.number e.body c is.0.1, is.0.2),
  is.1,
)
still_feed own e es c (UnsubscribeSet set receiver) is =
    (still_stored set e es is.0, known_changed receiver e.origin e.number e.body c is.1, is.2)
still_feed own e es c (DropSet set) is = still_stored set e es is
still_feed own e es c others is = tt

still_known : (own : ℕ) (e : Event) (es : List Event) (c : Config) (body : Body) → IsFeed own es c body →
    IsFeed own es (change e c) body
still_known own e es c (SubscribeSet set provider receiver forward) is =
    (is.0, known_changed receiver e.origin e.number e.body c is.1, is.2)
still_known own e es c (EnableSubscription set provider receiver forward era) is =
    ((is.0.0, known_changed receiver e.origin e.number e.body c is.0.1, is.0.2), is.1)
still_known own e es c (UnsubscribeSet set receiver) is =
    (is.0, known_changed receiver e.origin e.number e.body c is.1, is.2)
still_known own e es c (DropSet set) is = is
still_known own e es c others is = tt

eras_changed : (origin number : ℕ) (body : Body) (c : Config) → is_emitted body ≡ true →
    AllByRecursion (λ e. e.1.era ≡ 1) c.sets → AllByRecursion (λ e. e.1.era ≡ 1) (change_by origin number body c).sets
eras_changed origin number (StoreSet set by comment) c may all = all_with (λ e. e.1.era ≡ 1) set _ c.sets refl all
eras_changed origin number (DropSet set) c may all =
    all_mapped (λ e. e.1.era ≡ 1) (λ e. e.1.era ≡ 1) _ (ended_first set) c.sets all
eras_changed origin number (MoveSet set old new era feeds) c may all = absurd (false≢true may)
eras_changed origin number (FailoverSet failed limit sets) c may all = absurd (false≢true may)
eras_changed origin number others c may all = all

-- an event of its own
feeds_more : (own : ℕ) (e : Event) (es : List Event) (c : Config) → is_emitted e.body ≡ true →
    IsFeed own (e ∷ es) (change e c) e.body → IsRowed es e.body → AreFeeds own es c →
    AreFeeds own (e ∷ es) (change e c)
feeds_more own e es c may new rowed old = record {
  feeds = (
    new,
    all_map (λ f. IsFeed own es c f.body) (λ f. IsFeed own (e ∷ es) (change e c) f.body)
        (λ f is. still_feed own e es c f.body is) es old.feeds,
  );
  eras = eras_changed e.origin e.number e.body c may old.eras;
  rows = (rowed, old.rows);
}

-- one of another node
feeds_applied : (own : ℕ) (e : Event) (es : List Event) (c : Config) → is_emitted e.body ≡ true →
    AreFeeds own es c → AreFeeds own es (change e c)
feeds_applied own e es c may old = record {
  feeds = all_map (λ f. IsFeed own es c f.body) (λ f. IsFeed own es (change e c) f.body)
      (λ f is. still_known own e es c f.body is) es old.feeds;
  eras = eras_changed e.origin e.number e.body c may old.eras;
  rows = old.rows;
}

-- ---- what a node emits

pub plain_emitted : (body : Body) → is_plain body ≡ true → is_emitted body ≡ true
plain_emitted (SubscribeSet set provider receiver forward) is = refl
plain_emitted (EnableSubscription set provider receiver forward era) is = refl
plain_emitted (UnsubscribeSet set receiver) is = refl
plain_emitted (DropSet set) is = refl
plain_emitted others is = is

plain_feed : (own : ℕ) (es : List Event) (c : Config) (body : Body) → is_plain body ≡ true → IsFeed own es c body
plain_feed own es c (SubscribeSet set provider receiver forward) is = absurd (false≢true is)
plain_feed own es c (EnableSubscription set provider receiver forward era) is = absurd (false≢true is)
plain_feed own es c (UnsubscribeSet set receiver) is = absurd (false≢true is)
plain_feed own es c (DropSet set) is = absurd (false≢true is)
plain_feed own es c others is = tt

-- the era of a set that has an origin
pub era_one : (own set : ℕ) (c : Config) → AllByRecursion (λ e. e.1.era ≡ 1) c.sets → is_origin own set c ≡ true →
    era_of set c ≡ 1
era_one own set c all leads = by (entry_at set c.sets) refl leads
  where
    live : (row : SetRow) → row.era ≡ 1 → (b : Bool) → leads_row own (cond b (Some row) None) ≡ true →
        unwrap_or (option_map (λ row. row.era) (cond b (Some row) None)) 0 ≡ 1
    live row one true is = one
    live row one false is = absurd (false≢true is)

    by : (o : Option SetRow) → entry_at set c.sets ≡ o → leads_row own (live_set o) ≡ true →
        unwrap_or (option_map (λ row. row.era) (live_set o)) 0 ≡ 1
    by None found is = absurd (false≢true is)
    by (Some row) found is = live row (all_entry (λ e. e.1.era ≡ 1) set row c.sets all found) row.live is

plain_rowed : (es : List Event) (body : Body) → is_plain body ≡ true → IsRowed es body
plain_rowed es (EnableSubscription set provider receiver forward era) is = absurd (false≢true is)
plain_rowed es others is = tt

-- ---- subscriptions

provider_is : (k c p : ℕ) (f : Bool) (o : Option Row) → (subscribed k c p f o).provider ≡ p
provider_is k c p f None = refl
provider_is k c p f (Some u) = refl

-- the subscription behind the event that makes it
rowed_feed : (f : NewFeed) (k : Snapshot) (z : List Said) →
    (u : Row) × (row unfed f.receiver (said_by f.set_id k (SubscribeSet f.set_id f.provider f.receiver f.forward) ∷ z)
    ≡ Some u) × (u.provider ≡ f.provider)
rowed_feed f k z = (
  made,
  ap (λ b. row unfed f.receiver (cond b (Subscribe f.receiver f.provider f.forward) Unrelated ∷ z))
      (eq-eqb f.set_id f.set_id refl)
      ∙ ap (λ b. cond b (Some made) (row unfed f.receiver z)) (eq-eqb f.receiver f.receiver refl),
  provider_is (length z + 1) (last_moment z) f.provider f.forward (row unfed f.receiver z),
)
  where
    made : Row
    made = subscribed (length z + 1) (last_moment z) f.provider f.forward (row unfed f.receiver z)

plain_row : (set : ℕ) (k : Snapshot) (body : Body) → is_plain body ≡ true → (r : ℕ) (z : List Said) →
    row unfed r (said_by set k body ∷ z) ≡ row unfed r z
plain_row set k (SubscribeSet id provider receiver forward) is r z = absurd (false≢true is)
plain_row set k (EnableSubscription id provider receiver forward era) is r z = absurd (false≢true is)
plain_row set k (UnsubscribeSet id receiver) is r z = absurd (false≢true is)
plain_row set k (DropSet id) is r z = absurd (false≢true is)
plain_row set k Sync is r z = refl
plain_row set k others is r z = refl

ready_feed : (b : Bool) (f : NewFeed) (z : List Said) (r : ℕ) →
    ((u : Row) → row unfed r z ≡ Some u → u.ready ≡ true) → (u : Row) →
    row unfed r (cond b (Enable f.receiver) Unrelated
    ∷ cond b (Subscribe f.receiver f.provider f.forward) Unrelated ∷ z) ≡ Some u → u.ready ≡ true
ready_feed false f z r old u is = old u is
ready_feed true f z r old u is = by (r == f.receiver) is
  where
    made : Row
    made = subscribed (length z + 1) (last_moment z) f.provider f.forward (row unfed r z)

    k : ℕ
    k = suc (length z) + 1

    by : (c : Bool) → cond c (enabled k (cond c (Some made) (row unfed r z))) (cond c (Some made) (row unfed r z))
        ≡ Some u → u.ready ≡ true
    by true is = ap (λ (v : Row). v.ready) (sym (one_found (readied k made) u is))
    by false is = old u is

-- what is changed was ready
ready_changed : (b : Bool) (f : NewFeed) (z : List Said) → (old : Row) × (row unfed f.receiver z ≡ Some old) →
    (r : ℕ) → ((u : Row) → row unfed r z ≡ Some u → u.ready ≡ true) → (u : Row) →
    row unfed r (cond b (Subscribe f.receiver f.provider f.forward) Unrelated ∷ z) ≡ Some u → u.ready ≡ true
ready_changed false f z (old, had) r was u is = was u is
ready_changed true f z (old, had) r was u is = by (r == f.receiver) refl is
  where
    made : Option Row → Row
    made o = subscribed (length z + 1) (last_moment z) f.provider f.forward o

    by : (c : Bool) → (r == f.receiver) ≡ c → cond c (Some (made (row unfed r z))) (row unfed r z) ≡ Some u →
        u.ready ≡ true
    by true same is =
        let here : row unfed r z ≡ Some old = ap (λ i. row unfed i z) (eqb-true r f.receiver same) ∙ had in
        ap (λ (v : Row). v.ready) (sym (one_found (made (row unfed r z)) u is))
        ∙ ap (λ o. (made o).ready) here ∙ was old here
    by false other is = was u is

-- where a receiver gives the set up, the others were ready
ready_left : (b : Bool) (receiver : ℕ) (z : List Said) (r : ℕ) →
    ((u : Row) → row unfed r z ≡ Some u → u.ready ≡ true) → (u : Row) →
    row unfed r (cond b (Unsubscribe receiver) Unrelated ∷ z) ≡ Some u → u.ready ≡ true
ready_left false receiver z r old u is = old u is
ready_left true receiver z r old u is = by (r == receiver) is
  where
    by : (c : Bool) → cond c None (row unfed r z) ≡ Some u → u.ready ≡ true
    by true none = absurd cc
    by false is = old u is

-- of a set that ends there is none
ready_ended : (b : Bool) (z : List Said) (r : ℕ) → ((u : Row) → row unfed r z ≡ Some u → u.ready ≡ true) → (u : Row) →
    row unfed r (cond b Ends Unrelated ∷ z) ≡ Some u → u.ready ≡ true
ready_ended false z r old u is = old u is
ready_ended true z r old u is = absurd cc

-- A node emits, which was ready.
record Tell (t : Past) : Type 0 where
  seat : Seat
  is : IsSeat t.world.places seat
  rows : AreRowed (stream seat.node)
  ready : AreReady (stream seat.node)

told_ready : (t : Past) (d : Tell t) (ms : List Emission) → MayTell d.seat.node ms →
    AreReady (stream (with_deeds (commit_of d.seat ms).deeds d.seat.node))
told_ready t d ms may = by may
  where
    s : Seat
    s = d.seat

    Ready : List Emission → Type 0
    Ready ms = AreReady (stream (with_deeds (commit_of s ms).deeds s.node))

    by : MayTell s.node ms → Ready ms
    by (Alone m same may) =
        subst Ready (sym same)
        (λ set r u is. d.ready set r u
        (sym (plain_row set (taken s.place) m.body may r (read set (stream s.node))) ∙ is))
    by (Feeds f same can new) =
        subst Ready (sym same)
        (λ set r u is. ready_feed (f.set_id == set) f
        (read set (event_of s (next_event s) Sync ∷ stream s.node)) r (d.ready set r) u is)
    by (Leaves id receiver same can) =
        subst Ready (sym same)
        (λ set r u is. ready_left (id == set) receiver (read set (stream s.node)) r (d.ready set r) u is)
    by (EndsSet id same can) =
        subst Ready (sym same)
        (λ set r u is. ready_ended (id == set) (read set (stream s.node)) r (d.ready set r) u is)
    by (Changes f same can had) =
        subst Ready (sym same) (λ set r u is. at set r u is (f.set_id == set) refl)
      where
        old : (v : Row) × (row unfed f.receiver (read f.set_id (stream s.node)) ≡ Some v)
        old = has_row t s d.is f.set_id f.receiver can.leads d.rows had

        at : (set r : ℕ) (u : Row) →
            row unfed r (read set (stream (with_deeds (commit_of s (changing f)).deeds s.node))) ≡ Some u →
            (b : Bool) → (f.set_id == set) ≡ b → u.ready ≡ true
        at set r u is true same =
            ready_changed true f (read set (event_of s (next_event s) Sync ∷ stream s.node)) (
              old.0,
              ap (λ i. row unfed f.receiver (read i (stream s.node))) (sym (eqb-true f.set_id set same)) ∙ old.1,
            ) r (d.ready set r) u
            (sym (ap (λ b. row unfed r (cond b (Subscribe f.receiver f.provider f.forward) Unrelated
            ∷ read set (event_of s (next_event s) Sync ∷ stream s.node))) same) ∙ is)
        at set r u is false other =
            d.ready set r u
            (sym (ap (λ b. row unfed r (cond b (Subscribe f.receiver f.provider f.forward) Unrelated
            ∷ read set (event_of s (next_event s) Sync ∷ stream s.node))) other) ∙ is)

-- an event on a subscription says so of its receiver
on_feed : (own : ℕ) (es : List Event) (c : Config) (set r : ℕ) (body : Body) → IsFeed own es c body →
    is_on_feed set r body ≡ true → FeedOf own es c set r
on_feed own es c set r (SubscribeSet id provider receiver forward) is on =
    let same = both_same id set receiver r (left (id == set && receiver == r) on) in
    subst (λ i. FeedOf own es c i r) same.0 (subst (λ n. FeedOf own es c id n) same.1 is)
  where
    left : (b : Bool) → (b || false) ≡ true → b ≡ true
    left true is = refl
    left false is = is
on_feed own es c set r (EnableSubscription id provider receiver forward era) is on =
    let same = both_same id set receiver r on in
    subst (λ i. FeedOf own es c i r) same.0 (subst (λ n. FeedOf own es c id n) same.1 is.0)
on_feed own es c set r others is on = absurd (false≢true on)

-- so it is of a receiver that is to give the set up
pub left_feed : (t : Past) (s : Seat) → IsSeat t.world.places s → NodeFeeds s.node → (set receiver : ℕ) →
    CanLeave s.node set receiver → FeedOf s.node.id (stream s.node) (knowledge s.node).config set receiver
left_feed t s is was set receiver can =
    let told = tells_of t s is set receiver can.leads can.had in
    on_feed s.node.id (stream s.node) (knowledge s.node).config set receiver told.event.body
    (all_among (λ e. IsFeed s.node.id (stream s.node) (knowledge s.node).config e.body) told.event (stream s.node)
    was.feeds told.among) told.on

told_feeds : (t : Past) (s : Seat) → IsSeat t.world.places s → (ms : List Emission) → MayTell s.node ms →
    NodeFeeds s.node → NodeFeeds (with_deeds (commit_of s ms).deeds s.node)
told_feeds t s is ms (Alone m same may) was =
    subst (λ ms. NodeFeeds (with_deeds (commit_of s ms).deeds s.node)) (sym same)
    (node_feeds behind (feeds_more s.node.id e (stream s.node) (knowledge s.node).config (plain_emitted m.body may)
    (plain_feed s.node.id (e ∷ stream s.node) (change_by s.node.id (next_event s) m.body (knowledge s.node).config)
    m.body may) (plain_rowed (stream s.node) m.body may) (are_feeds s.node was))
    (told_ready t (record { seat = s; is = is; rows = was.rows; ready = was.ready }) (m ∷ []) (Alone m refl may)))
  where
    behind : Node
    behind = with_deeds (commit_of s (m ∷ [])).deeds s.node

    e : Event
    e = event_of s (next_event s) m.body
told_feeds t s is ms (Feeds f same can new) was =
    subst (λ ms. NodeFeeds (with_deeds (commit_of s ms).deeds s.node)) (sym same)
    (node_feeds behind (feeds_more own three (two ∷ one ∷ stream s.node) behind_two refl (
      (still_stored f.set_id three (two ∷ one ∷ stream s.node) stored_two, knows_three, can.apart),
      era_one own f.set_id (knowledge s.node).config was.eras can.leads,
    ) (rowed_feed f (taken s.place) (read f.set_id (one ∷ stream s.node)))
    (feeds_more own two (one ∷ stream s.node) (knowledge s.node).config refl
    (stored_two, knows_two, can.apart) tt
    (feeds_more own one (stream s.node) (knowledge s.node).config refl tt tt (are_feeds s.node was))))
    (told_ready t (record { seat = s; is = is; rows = was.rows; ready = was.ready }) (feeding s.node f)
    (Feeds f refl can new)))
  where
    behind : Node
    behind = with_deeds (commit_of s (feeding s.node f)).deeds s.node

    own : ℕ
    own = s.node.id

    number : ℕ
    number = next_event s

    one : Event
    one = event_of s number Sync

    two : Event
    two = event_of s (number + 1) (SubscribeSet f.set_id f.provider f.receiver f.forward)

    three : Event
    three = event_of s (number + 1 + 1)
        (EnableSubscription f.set_id f.provider f.receiver f.forward (era_of f.set_id (knowledge s.node).config))

    behind_two : Config
    behind_two = change_by own (number + 1) two.body (knowledge s.node).config

    stored : HasStored f.set_id (one ∷ stream s.node)
    stored = still_stored f.set_id one (stream s.node)
        (has_stored (nodes_in t.world.places) (regular_now t).nodes s.name s.node (seat_node t.world.places s is)
        f.set_id can.leads)

    stored_two : HasStored f.set_id (two ∷ one ∷ stream s.node)
    stored_two = still_stored f.set_id two (one ∷ stream s.node) stored

    knows_two : IsKnown f.receiver behind_two
    knows_two = known_changed f.receiver own (number + 1) two.body (knowledge s.node).config can.knows

    knows_three : IsKnown f.receiver (change_by own (number + 1 + 1) three.body behind_two)
    knows_three = known_changed f.receiver own (number + 1 + 1) three.body behind_two knows_two
told_feeds t s is ms (Changes f same can had) was =
    subst (λ ms. NodeFeeds (with_deeds (commit_of s ms).deeds s.node)) (sym same)
    (node_feeds behind
    (feeds_more own two (one ∷ stream s.node) (knowledge s.node).config refl
    (still_stored f.set_id two (one ∷ stream s.node) stored, knows, can.apart) tt
    (feeds_more own one (stream s.node) (knowledge s.node).config refl tt tt (are_feeds s.node was)))
    (told_ready t (record { seat = s; is = is; rows = was.rows; ready = was.ready }) (changing f)
    (Changes f refl can had)))
  where
    behind : Node
    behind = with_deeds (commit_of s (changing f)).deeds s.node

    own : ℕ
    own = s.node.id

    number : ℕ
    number = next_event s

    one : Event
    one = event_of s number Sync

    two : Event
    two = event_of s (number + 1) (SubscribeSet f.set_id f.provider f.receiver f.forward)

    stored : HasStored f.set_id (one ∷ stream s.node)
    stored = still_stored f.set_id one (stream s.node)
        (has_stored (nodes_in t.world.places) (regular_now t).nodes s.name s.node (seat_node t.world.places s is)
        f.set_id can.leads)

    knows : IsKnown f.receiver (change_by own (number + 1) two.body (knowledge s.node).config)
    knows = known_changed f.receiver own (number + 1) two.body (knowledge s.node).config can.knows
told_feeds t s is ms (Leaves set receiver same can) was =
    subst (λ ms. NodeFeeds (with_deeds (commit_of s ms).deeds s.node)) (sym same)
    (node_feeds (with_deeds (commit_of s (leaving set receiver)).deeds s.node)
    (feeds_more s.node.id e (stream s.node) (knowledge s.node).config refl (
      still_stored set e (stream s.node) feed.0,
      known_changed receiver s.node.id (next_event s) e.body (knowledge s.node).config feed.1,
      feed.2,
    ) tt (are_feeds s.node was))
    (told_ready t (record { seat = s; is = is; rows = was.rows; ready = was.ready }) (leaving set receiver)
    (Leaves set receiver refl can)))
  where
    e : Event
    e = event_of s (next_event s) (UnsubscribeSet set receiver)

    feed : FeedOf s.node.id (stream s.node) (knowledge s.node).config set receiver
    feed = left_feed t s is was set receiver can
told_feeds t s is ms (EndsSet set same can) was =
    subst (λ ms. NodeFeeds (with_deeds (commit_of s ms).deeds s.node)) (sym same)
    (node_feeds (with_deeds (commit_of s (ending set)).deeds s.node)
    (feeds_more s.node.id e (stream s.node) (knowledge s.node).config refl
    (still_stored set e (stream s.node)
    (has_stored (nodes_in t.world.places) (regular_now t).nodes s.name s.node (seat_node t.world.places s is) set
    can.leads)) tt (are_feeds s.node was))
    (told_ready t (record { seat = s; is = is; rows = was.rows; ready = was.ready }) (ending set)
    (EndsSet set refl can)))
  where
    e : Event
    e = event_of s (next_event s) (DropSet set)

-- ---- every session

abbrev AllFeed : Looks → Type 0
AllFeed f = (name : List ℕ) (p : Place) (n : Node) → f name ≡ Some p → p.node ≡ Some n → NodeFeeds n

put_feeds : (name : List ℕ) (q : Place) (f : Looks) → AllFeed f → ((n : Node) → q.node ≡ Some n → NodeFeeds n) →
    AllFeed (with_look name q f)
put_feeds name q f was new k p n found is = by (is_put name q f k p found)
  where
    by : IsPut name q f k p → NodeFeeds n
    by (Here at same) = new n (ap (λ (r : Place). r.node) (sym same) ∙ is)
    by (There other there) = was k p n there is

none_feeds : (q : Place) → q.node ≡ None → (n : Node) → q.node ≡ Some n → NodeFeeds n
none_feeds q none n is = let never : None ≡ Some n = sym none ∙ is in absurd cc

-- the node is this one
one_feeds : (q : Place) (m : Node) → q.node ≡ Some m → NodeFeeds m → (n : Node) → q.node ≡ Some n → NodeFeeds n
one_feeds q m at was n is = subst NodeFeeds (one_found m n (sym at ∙ is)) was

went_feeds : (p q : Place) → NodeWent p q.node → ((n : Node) → p.node ≡ Some n → NodeFeeds n) →
    (n : Node) → q.node ≡ Some n → NodeFeeds n
went_feeds p q (inl same) was n is = was n (sym same ∙ is)
went_feeds p q (inr (xid, log, runs)) was n is = by p.node refl (sym log ∙ is)
  where
    by : (o : Option Node) → p.node ≡ o → option_map (with_commit xid p) o ≡ Some n → NodeFeeds n
    by None at none = absurd cc
    by (Some m) at some =
        let before = was m at in
        subst NodeFeeds (one_found (with_commit xid p m) n some)
        (record { feeds = before.feeds; eras = before.eras; rows = before.rows; ready = before.ready })

-- who has emitted nothing has no receivers
none_ready : AreReady []
none_ready set r u is = absurd cc

linked_feeds : (t : Past) → AllFeed (look t.world) → (c : Commit) (p : Place) → Linked t c p → (n : Node) →
    (committing c p).node ≡ Some n → NodeFeeds n
linked_feeds t was c p (Tells d) =
    one_feeds (committing c p) _ (told_node d)
    (told_feeds t d.seat d.is d.emits d.may (was d.seat.name d.seat.place d.seat.node d.is.found d.is.node))
linked_feeds t was c p (TakesOne d) =
    let s = d.carried.seat in
    let e = d.carried.event in
    let before = was s.name s.place s.node d.is.work.seat.found d.is.work.seat.node in
    let after = feeds_applied s.node.id e (stream s.node) (knowledge s.node).config
    (may_emitted e.origin e.body (knowledge s.node).config d.is.work.may) (are_feeds s.node before) in
    one_feeds (committing c p) _ (taken_node d)
    (record { feeds = after.feeds; eras = after.eras; rows = after.rows; ready = before.ready })
linked_feeds t was c p (HearsSome d) =
    let before = was d.seat.name d.seat.place d.seat.node d.is.found d.is.node in
    one_feeds (committing c p) _ (heard_node d)
    (record { feeds = before.feeds; eras = before.eras; rows = before.rows; ready = before.ready })
linked_feeds t was c p (Begins d) =
    one_feeds (committing c p) _ (begun_node d) (record { feeds = tt; eras = tt; rows = tt; ready = none_ready })

feeds_step : (t : Past) → AllFeed (look t.world) → (f : Looks) → Gone t f → AllFeed f
feeds_step t was f Stays = was
feeds_step t was f (Makes name q none born) = put_feeds name q (look t.world) was (none_feeds q born.node)
feeds_step t was f (Goes name p q found went) =
    put_feeds name q (look t.world) was (went_feeds p q went.node (λ n is. was name p n found is))
feeds_step t was f (Does c p found does) =
    put_feeds c.name (committing c p) (look t.world) was (linked_feeds t was c p does)
feeds_step t was f (Joins j) =
    put_feeds j.new.name (committing (joins j) j.new.place) _
    (put_feeds j.seat.name (committing (stores j) j.seat.place) (look t.world) was
    (one_feeds (committing (stores j) j.seat.place) (giver j) (ap (option_map (with_deeds (stores j).deeds)) j.is.node)
    given))
    (one_feeds (committing (joins j) j.new.place) (joined j) refl
    (record { feeds = tt; eras = given.eras; rows = tt; ready = none_ready }))
  where
    given : NodeFeeds (giver j)
    given = told_feeds t j.seat j.is (tells (StoreNode j.new.id j.comment) ∷ [])
        (Alone (tells (StoreNode j.new.id j.comment)) refl refl)
        (was j.seat.name j.seat.place j.seat.node j.is.found j.is.node)
feeds_step t was f (Shuts g gone name p q found shut) =
    put_feeds name q g (feeds_step t was g gone)
    (λ n is. feeds_step t was g gone name p n found (sym shut.node ∙ is))

-- what is known of each node of a session
pub feeds_now : (t : Past) → AllFeed (look t.world)
feeds_now = holds_now AllFeed (λ name p n found is. absurd cc) feeds_step
