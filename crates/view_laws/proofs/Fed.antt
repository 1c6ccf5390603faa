-- A node that has told of a subscription has it exactly where its events say so.
use Rattle.std.proofs.Common.{◌≡◌, ◌⊎◌, inl, inr, ℕ, Bool, true, false, cond, List, [], ◌∷◌, Option, Some, None, refl}
use Rattle.std.proofs.Common.{sym, ap, subst, ◌∙◌, is_some, not}
use Rattle.std.specs.Prelude.{◌==◌, ◌&&◌, ◌||◌, unwrap_or}
use Rattle.std.proofs.lemmas.Bool.{and_from, and_parts, eq-eqb, eqb-true, false≢true, false_from_ne_true, true≢false}
use Rattle.node_rows.specs.declared.body.Body.{Body}
use Rattle.node_rows.specs.declared.body.Body.TheVariants.{SubscribeSet, EnableSubscription, DropSet, UnsubscribeSet}
use Rattle.node_rows.specs.declared.body.Body.TheVariants.{MoveSet, FailoverSet}
use Rattle.node_rows.specs.declared.rows.Subscription.{Subscription}
use Rattle.slon_model.specs.Maps.{Map2, entry_at, pair_at, row_at, with_entry, with_pair, without_entry, without_pair}
use Rattle.slon_model.specs.Events.{Event}
use Rattle.slon_model.specs.Config.{Config, change_by, enabled}
use Rattle.slon_model.specs.Deeds.{Node, knowledge, stream}
use Rattle.slon_model.specs.Sessions.{World, Seat}
use Rattle.slon_model.specs.Working.{Carried}
use Rattle.stream_laws.specs.Nodes.{IsAmong, nodes_in, IsEvent}
use Rattle.stream_laws.specs.Making.{is_emitted}
use Rattle.stream_laws.proofs.Lists.{entry-with}
use Rattle.stream_laws.proofs.Seats.{IsSeat, seat_node}
use Rattle.stream_laws.proofs.Streams.{among_found}
use Rattle.view_laws.specs.Known.{HasFeeds, enables, feeds, is_fed, is_on_feed, leaves, subscribes}
use Rattle.view_laws.specs.Past.{Past, WasBefore, WasUpTo}
use Rattle.view_laws.proofs.Copied.{enables_feeds, feeder_is, feeder_leads}
use Rattle.view_laws.proofs.Doing.{IsTaken}
use Rattle.view_laws.proofs.Lasting.{both_same, lasts_from}
use Rattle.view_laws.proofs.Living.{HasSubscribed, IsOfFeed, NodeLives, event_of, knew, node_lives}
use Rattle.view_laws.proofs.Moments.{regular_now}
use Rattle.view_laws.proofs.Rising.{entry-without}
use Rattle.view_laws.proofs.Saying.{is_single, may_emitted, says_emitted, says_single}
use Rattle.view_laws.proofs.Walking.{lives_in}

-- ---- pairs

pub pair-with : {X : Type 0} (q r a b : ℕ) (x : X) (m : Map2 X) →
    pair_at q r (with_pair a b x m) ≡ cond (q == a && r == b) (Some x) (pair_at q r m)
pair-with {X} q r a b x m =
    ap (λ o. entry_at r (unwrap_or o [])) (entry-with q a (with_entry b x (row_at a m)) m) ∙ by (q == a) refl
  where
    here : (c : Bool) → q ≡ a → cond c (Some x) (entry_at r (row_at a m)) ≡ cond c (Some x) (pair_at q r m)
    here true is = refl
    here false is = ap (λ i. pair_at i r m) (sym is)

    by : (c : Bool) → (q == a) ≡ c →
        entry_at r (unwrap_or (cond c (Some (with_entry b x (row_at a m))) (entry_at q m)) [])
        ≡ cond (c && r == b) (Some x) (pair_at q r m)
    by true same = entry-with r b x (row_at a m) ∙ here (r == b) (eqb-true q a same)
    by false other = refl

pub pair-without : {X : Type 0} (q r a b : ℕ) (m : Map2 X) →
    pair_at q r (without_pair a b m) ≡ cond (q == a && r == b) None (pair_at q r m)
pair-without {X} q r a b m =
    ap (λ o. entry_at r (unwrap_or o [])) (entry-with q a (without_entry b (row_at a m)) m) ∙ by (q == a) refl
  where
    here : (c : Bool) → q ≡ a → cond c None (entry_at r (row_at a m)) ≡ cond c None (pair_at q r m)
    here true is = refl
    here false is = ap (λ i. pair_at i r m) (sym is)

    by : (c : Bool) → (q == a) ≡ c →
        entry_at r (unwrap_or (cond c (Some (without_entry b (row_at a m))) (entry_at q m)) [])
        ≡ cond (c && r == b) None (pair_at q r m)
    by true same = entry-without r b (row_at a m) ∙ here (r == b) (eqb-true q a same)
    by false other = refl

-- all of one row
pub row-without : {X : Type 0} (q r a : ℕ) (m : Map2 X) →
    pair_at q r (without_entry a m) ≡ cond (q == a) None (pair_at q r m)
row-without q r a m = ap (λ o. entry_at r (unwrap_or o [])) (entry-without q a m) ∙ by (q == a)
  where
    by : (c : Bool) → entry_at r (unwrap_or (cond c None (entry_at q m)) []) ≡ cond c None (pair_at q r m)
    by true = refl
    by false = refl

-- ---- one event

-- either way round
turned_test : (q r a b : ℕ) → (q == a && r == b) ≡ (a == q && b == r)
turned_test q r a b = by (q == a && r == b) (a == q && b == r) refl refl
  where
    turned : (q r a b : ℕ) → (q == a && r == b) ≡ true → (a == q && b == r) ≡ true
    turned q r a b is =
        let same = both_same q a r b is in
        and_from (a == q) (b == r) (eq-eqb a q (sym same.0)) (eq-eqb b r (sym same.1))

    by : (c d : Bool) → (q == a && r == b) ≡ c → (a == q && b == r) ≡ d → c ≡ d
    by true d one other = sym (turned q r a b one) ∙ other
    by false true one other = sym one ∙ turned a b q r other
    by false false one other = refl

there_put : (q r a b : ℕ) (x : Subscription) (m : Map2 Subscription) →
    is_some (pair_at q r (with_pair a b x m)) ≡ (q == a && r == b || is_some (pair_at q r m))
there_put q r a b x m = ap is_some (pair-with q r a b x m) ∙ by (q == a && r == b)
  where
    by : (c : Bool) → is_some (cond c (Some x) (pair_at q r m)) ≡ (c || is_some (pair_at q r m))
    by true = refl
    by false = refl

-- a subscription that is enabled is there or not, as before
there_enabled : (q r a b k : ℕ) (m : Map2 Subscription) (o : Option Subscription) → pair_at a b m ≡ o →
    is_some (pair_at q r (enabled a b k m o)) ≡ is_some (pair_at q r m)
there_enabled q r a b k m None is = refl
there_enabled q r a b k m (Some s) is = there_put q r a b _ m ∙ by (q == a && r == b) refl
  where
    by : (c : Bool) → (q == a && r == b) ≡ c → (c || is_some (pair_at q r m)) ≡ is_some (pair_at q r m)
    by true same =
        let ids = both_same q a r b same in
        sym (ap is_some (ap (λ i. pair_at i r m) ids.0 ∙ ap (λ j. pair_at a j m) ids.1 ∙ is))
    by false other = refl

there_gone : (q r a b : ℕ) (m : Map2 Subscription) →
    is_some (pair_at q r (without_pair a b m)) ≡ (not (q == a && r == b) && is_some (pair_at q r m))
there_gone q r a b m = ap is_some (pair-without q r a b m) ∙ by (q == a && r == b)
  where
    by : (c : Bool) → is_some (cond c None (pair_at q r m)) ≡ (not c && is_some (pair_at q r m))
    by true = refl
    by false = refl

either_way : (q a : ℕ) → (q == a) ≡ (a == q)
either_way q a = by (q == a) (a == q) refl refl
  where
    by : (c d : Bool) → (q == a) ≡ c → (a == q) ≡ d → c ≡ d
    by true d one other = sym (eq-eqb a q (sym (eqb-true q a one))) ∙ other
    by false true one other = sym one ∙ eq-eqb q a (sym (eqb-true a q other))
    by false false one other = refl

all_gone : (q r a : ℕ) (m : Map2 Subscription) →
    is_some (pair_at q r (without_entry a m)) ≡ (not (q == a) && is_some (pair_at q r m))
all_gone q r a m = ap is_some (row-without q r a m) ∙ by (q == a)
  where
    by : (c : Bool) → is_some (cond c None (pair_at q r m)) ≡ (not c && is_some (pair_at q r m))
    by true = refl
    by false = refl

-- whether a subscription is there behind an event
pub feed-changed : (set receiver origin number : ℕ) (body : Body) (c : Config) → is_emitted body ≡ true →
    is_some (pair_at set receiver (change_by origin number body c).subscriptions)
    ≡ (subscribes set receiver body
    || (not (leaves set receiver body) && is_some (pair_at set receiver c.subscriptions)))
feed-changed set receiver origin number (SubscribeSet id provider node forward) c may =
    there_put set receiver id node _ c.subscriptions
    ∙ ap (λ b. b || is_some (pair_at set receiver c.subscriptions)) (turned_test set receiver id node)
feed-changed set receiver origin number (EnableSubscription id provider node forward era) c may =
    there_enabled set receiver id node number c.subscriptions (pair_at id node c.subscriptions) refl
feed-changed set receiver origin number (UnsubscribeSet id node) c may =
    there_gone set receiver id node c.subscriptions
    ∙ ap (λ b. not b && is_some (pair_at set receiver c.subscriptions)) (turned_test set receiver id node)
feed-changed set receiver origin number (DropSet id) c may =
    all_gone set receiver id c.subscriptions
    ∙ ap (λ b. not b && is_some (pair_at set receiver c.subscriptions)) (either_way set id)
feed-changed set receiver origin number (MoveSet id old new era feeds) c may = absurd (false≢true may)
feed-changed set receiver origin number (FailoverSet failed limit sets) c may = absurd (false≢true may)
feed-changed set receiver origin number others c may = refl

-- ---- what an event is

pub left_feeds : (set receiver : ℕ) (body : Body) → leaves set receiver body ≡ true → feeds set body ≡ true
left_feeds set receiver (UnsubscribeSet id node) is = (and_parts (id == set) (node == receiver) is).0
left_feeds set receiver (DropSet id) is = is
left_feeds set receiver others is = absurd (false≢true is)

pub on_feeds : (set receiver : ℕ) (body : Body) → is_on_feed set receiver body ≡ true → feeds set body ≡ true
on_feeds set receiver (SubscribeSet id provider node forward) on =
    (and_parts (id == set) (node == receiver) (left (id == set && node == receiver) on)).0
  where
    left : (b : Bool) → (b || false) ≡ true → b ≡ true
    left true is = refl
    left false is = is
on_feeds set receiver (EnableSubscription id provider node forward era) on =
    enables_feeds set receiver (EnableSubscription id provider node forward era) on
on_feeds set receiver others on = absurd (false≢true on)

-- an event of the node that is a subscription of a set has the node as the one that leads the set
abbrev told_feed : (t : Past) (s : Seat) → IsSeat t.world.places s → (e : Event) → IsAmong e (stream s.node) →
    IsEvent (nodes_in t.world.places) e
told_feed t s is e among =
    let own = seat_node t.world.places s is in
    let found = among_found s.node.id (stream s.node) e ((regular_now t).nodes.each s.name s.node own).emitted among in
    record { name = s.name; node = s.node; is = own; own = sym found.are.0; among = among }

-- an event that the node applies is of no subscription to a set of the node
beside_feed : (t : Past) (x : Carried) (origin : ℕ) → IsTaken t origin x → (set : ℕ) (e : Event) →
    IsAmong e (stream x.seat.node) → feeds set e.body ≡ true → feeds set x.event.body ≡ false
beside_feed t x origin is set e among feed =
    false_from_ne_true (feeds set x.event.body) (λ other.
    let y = told_feed t x.seat is.work.seat e among in
    is.work.other (sym (feeder_is t x.event is.work.event set other x.seat is.work.seat
    (feeder_leads t e y set feed) ∙ is.work.event.own)))

-- ---- a node

-- what an event that the node emits leaves
told_there : (set receiver origin number : ℕ) (n : Node) (body : Body) → is_emitted body ≡ true →
    (enables set receiver body ≡ true → is_some (pair_at set receiver (knowledge n).config.subscriptions) ≡ true)
    × (is_on_feed set receiver body ≡ false →
    is_some (pair_at set receiver (knowledge n).config.subscriptions) ≡ is_fed set receiver (stream n)) →
    is_some (pair_at set receiver (change_by origin number body (knowledge n).config).subscriptions)
    ≡ (is_on_feed set receiver body || (not (leaves set receiver body) && is_fed set receiver (stream n)))
told_there set receiver origin number n body may (had, same) =
    feed-changed set receiver origin number body (knowledge n).config may
    ∙ by (subscribes set receiver body) (enables set receiver body) refl refl
  where
    old : Bool
    old = is_some (pair_at set receiver (knowledge n).config.subscriptions)

    fed : Bool
    fed = is_fed set receiver (stream n)

    stays : (body : Body) → enables set receiver body ≡ true → leaves set receiver body ≡ false
    stays (EnableSubscription id provider node forward era) is = refl
    stays others is = absurd (false≢true is)

    by : (s e : Bool) → subscribes set receiver body ≡ s → enables set receiver body ≡ e →
        (s || (not (leaves set receiver body) && old)) ≡ (s || e || (not (leaves set receiver body) && fed))
    by true e is_s is_e = refl
    by false true is_s is_e =
        ap (λ b. not b && old) (stays body is_e) ∙ had is_e
    by false false is_s is_e =
        ap (λ b. not (leaves set receiver body) && b)
        (same (ap (λ b. b || enables set receiver body) is_s ∙ is_e))

-- as a node tells a receiver to copy a set, it has the subscription
enabled_there : (s : Seat) (n : Node) (body : Body) → IsOfFeed s n body ⊎ (is_single body ≡ true) →
    HasFeeds (λ u. ⊥) n → (set receiver : ℕ) → enables set receiver body ≡ true →
    is_some (pair_at set receiver (knowledge n).config.subscriptions) ≡ true
enabled_there s n (EnableSubscription id provider node forward era) (inl feed) was set receiver on =
    let same = both_same id set node receiver on in
    subst (λ i. is_some (pair_at i receiver (knowledge n).config.subscriptions) ≡ true) same.0
    (subst (λ r. is_some (pair_at id r (knowledge n).config.subscriptions) ≡ true) same.1
    (was id node h.event (subst (IsAmong h.event) (sym h.all) (inl refl)) on_it
    ∙ ap (is_fed id node) h.all
    ∙ ap (λ b. b || (not (leaves id node h.event.body) && is_fed id node (h.sync ∷ stream s.node))) on_it))
  where
    h : HasSubscribed id node s n
    h = feed.1

    on_it : is_on_feed id node h.event.body ≡ true
    on_it = ap (λ b. b || enables id node h.event.body) h.subscribes
enabled_there s n (EnableSubscription id provider node forward era) (inr single) was set receiver on =
    absurd (false≢true single)
enabled_there s n others says was set receiver on = absurd (false≢true on)

pub feeds_there : NodeLives HasFeeds
feeds_there = record {
  later = λ t n was. was;
  logs = λ t n p xid was. was;
  tells = λ t s is number m n says was set receiver e among on.
      told_there set receiver s.node.id number n m.body (says_emitted s n m says) (
        enabled_there s n m.body (says_single s n m says) was set receiver,
        λ off. was set receiver e (later set receiver (event_of s number m.body) e (stream n) among on off) on,
      );
  takes = λ t knew x origin is was set receiver e among on.
      let beside = beside_feed t x origin is set e among (on_feeds set receiver e.body on) in
      feed-changed set receiver x.event.origin x.event.number x.event.body (knowledge x.seat.node).config
      (may_emitted x.event.origin x.event.body (knowledge x.seat.node).config is.work.may)
      ∙ still set receiver x.event.body beside _ ∙ was set receiver e among on;
  hears = λ t s confirms was. was;
  becomes = λ t knew n deeds views knows.
      subst (λ ds. HasFeeds (WasUpTo t) (record n { deeds = ds })) (sym deeds)
      (λ set receiver e among on. absurd among);
}
  where
    -- it is one of those before
    later : (set receiver : ℕ) (x e : Event) (es : List Event) → IsAmong e (x ∷ es) →
        is_on_feed set receiver e.body ≡ true → is_on_feed set receiver x.body ≡ false → IsAmong e es
    later set receiver x e es (inl same) on off =
        absurd (true≢false (sym on ∙ ap (λ (f : Event). is_on_feed set receiver f.body) same ∙ off))
    later set receiver x e es (inr old) on off = old

    -- an event of another set leaves it
    still : (set receiver : ℕ) (body : Body) → feeds set body ≡ false → (b : Bool) →
        (subscribes set receiver body || (not (leaves set receiver body) && b)) ≡ b
    still set receiver body beside b =
        ap (λ c. c || (not (leaves set receiver body) && b))
        (false_from_ne_true _ (λ is. true≢false (sym (on_feeds set receiver body
        (ap (λ c. c || enables set receiver body) is)) ∙ beside)))
        ∙ ap (λ c. not c && b)
        (false_from_ne_true _ (λ is. true≢false (sym (left_feeds set receiver body is) ∙ beside)))

-- what is known of each node of a session
pub feeds_now : (t : Past) (name : List ℕ) (n : Node) → nodes_in t.world.places name ≡ Some n →
    HasFeeds (WasBefore t) n
feeds_now t = knew HasFeeds t (lives_in (node_lives feeds_there) t)

-- who has no subscription of a receiver has no event by which it stands
pub none_stands : (Was : World → Type 0) (n : Node) → HasFeeds Was n → (set receiver : ℕ) →
    is_some (pair_at set receiver (knowledge n).config.subscriptions) ≡ false → is_fed set receiver (stream n) ≡ false
none_stands Was n has set receiver none =
    false_from_ne_true (is_fed set receiver (stream n)) (λ fed.
    let e = lasts_from (is_on_feed set receiver) (leaves set receiver) (stream n) fed in
    true≢false (sym fed ∙ sym (has set receiver e.0 e.1 e.2) ∙ none))
