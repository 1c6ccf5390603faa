-- A receiver is told to copy a set once until it gives the set up; a table comes into a set while none receives it.
use Rattle.std.proofs.Common.{◌≡◌, ◌⊎◌, inl, inr, ℕ, true, false, List, [], ◌∷◌, ◌++◌, Some, None, refl}
use Rattle.std.proofs.Common.{sym, ap, subst, ◌∙◌, is_some, not}
use Rattle.std.specs.Prelude.{◌&&◌, ◌||◌, find, option_map}
use Rattle.std.specs.List.{AllByRecursion}
use Rattle.std.proofs.lemmas.Bool.{eq-eqb, eqb-true, false≢true, false_from_ne_true, true≢false}
use Rattle.node_rows.specs.declared.body.Body.{Body}
use Rattle.node_rows.specs.declared.body.Body.TheVariants.{DropSet, SubscribeSet, EnableSubscription, SetAddTable}
use Rattle.node_rows.specs.declared.rows.Subscription.{Subscription}
use Rattle.slon_model.specs.Maps.{Map, entry_at}
use Rattle.slon_model.specs.Events.{Event}
use Rattle.slon_model.specs.Config.{is_origin, receivers}
use Rattle.slon_model.specs.Deeds.{Node, knowledge, stream}
use Rattle.slon_model.specs.Sessions.{Seat, Emission}
use Rattle.stream_laws.specs.Nodes.{nodes_in}
use Rattle.stream_laws.specs.Making.{OfEnd, tells_of}
use Rattle.stream_laws.proofs.Lists.{among_all}
use Rattle.stream_laws.proofs.Seats.{IsSeat, seat_node}
use Rattle.stream_laws.proofs.Statements.{live_marked}
use Rattle.stream_laws.proofs.Streams.{own_told}
use Rattle.view_laws.specs.Known.{AreLive, AreOnce, AreUnfed, HasFeeds, IsFedLive, IsFedOnce, IsLive, IsOnce, IsUnfed}
use Rattle.view_laws.specs.Known.{IsUnfedBefore, enables, ends}
use Rattle.view_laws.specs.Known.{is_enabled, is_fed, is_on_feed, leaves, subscribes}
use Rattle.view_laws.specs.Past.{Past, WasUpTo}
use Rattle.view_laws.proofs.Doing.{IsAllowed}
use Rattle.view_laws.proofs.Fed.{feeds_now, none_stands}
use Rattle.view_laws.proofs.Lasting.{both_same, enabled_on, lasts_more}
use Rattle.view_laws.proofs.Living.{HasSubscribed, HasSynced, IsOfFeed, NodeLives, Says, knew, node_lives}
use Rattle.view_laws.proofs.Saying.{is_single, says_single}
use Rattle.view_laws.proofs.Reached.{regular_now}
use Rattle.view_laws.proofs.Walking.{lives_in}

-- ---- a receiver is told once to copy a set

-- who subscribes is not told to copy then, nor to give the set up
subscribes_only : (set receiver : ℕ) (body : Body) → subscribes set receiver body ≡ true →
    (enables set receiver body ≡ false) × (leaves set receiver body ≡ false)
subscribes_only set receiver (SubscribeSet id provider node forward) is = (refl, refl)
subscribes_only set receiver others is = absurd (false≢true is)

-- what does not stand does not stand enabled
none_enabled : (set receiver : ℕ) (es : List Event) → is_fed set receiver es ≡ false →
    is_enabled set receiver es ≡ false
none_enabled set receiver es none =
    false_from_ne_true (is_enabled set receiver es) (λ is.
    true≢false (sym (lasts_more (enables set receiver) (is_on_feed set receiver) (leaves set receiver)
    (enabled_on set receiver) es is) ∙ none))

feed_once : (s : Seat) (n : Node) (body : Body) → IsOfFeed s n body ⊎ (is_single body ≡ true) →
    HasFeeds (λ u. ⊥) s.node → IsOnce (stream n) body
feed_once s n (EnableSubscription set provider receiver forward era) (inl feed) has =
    ap (is_enabled set receiver) h.all
    ∙ ap (λ b. b || (not (leaves set receiver h.event.body) && is_enabled set receiver (h.sync ∷ stream s.node))) only.0
    ∙ ap (λ b. not b && is_enabled set receiver (h.sync ∷ stream s.node)) only.1
    ∙ ap (λ body. enables set receiver body || (not (leaves set receiver body) && is_enabled set receiver
    (stream s.node))) h.body
    ∙ none_enabled set receiver (stream s.node)
    (none_stands (λ u. ⊥) s.node has set receiver (ap is_some h.new))
  where
    h : HasSubscribed set receiver s n
    h = feed.1

    only : (enables set receiver h.event.body ≡ false) × (leaves set receiver h.event.body ≡ false)
    only = subscribes_only set receiver h.event.body h.subscribes
feed_once s n (EnableSubscription set provider receiver forward era) (inr single) has = absurd (false≢true single)
feed_once s n others may has = tt

feeds_once : NodeLives IsFedOnce
feeds_once = record {
  later = λ t n was. was;
  logs = λ t n p xid was. was;
  tells = λ t s is number m n says was. (
    feed_once s n m.body (says_single s n m says) (feeds_now t s.name s.node (seat_node t.world.places s is)),
    was,
  );
  takes = λ t knew x origin is was. was;
  hears = λ t s confirms was. was;
  becomes = λ t knew n deeds views knows.
      subst (λ ds. IsFedOnce (WasUpTo t) (record n { deeds = ds })) (sym deeds) tt;
}

pub once_now : (t : Past) (name : List ℕ) (n : Node) → nodes_in t.world.places name ≡ Some n → AreOnce (stream n)
once_now t = knew IsFedOnce t (lives_in (node_lives feeds_once) t)

-- ---- no node subscribes to a set that has ended, or copies it

ends_tell : (set : ℕ) (body : Body) → ends set body ≡ true → tells_of body (OfEnd set) ≡ true
ends_tell set (DropSet id) is = eq-eqb set id (sym (eqb-true id set is))
ends_tell set others is = absurd (false≢true is)

-- a set that a node leads has not ended by an event of its
pub stream_live : (t : Past) (name : List ℕ) (n : Node) → nodes_in t.world.places name ≡ Some n → (set : ℕ) →
    is_origin n.id set (knowledge n).config ≡ true → AllByRecursion (λ e. ends set e.body ≡ false) (stream n)
stream_live t name n is set leads =
    among_all (λ e. ends set e.body ≡ false) (stream n)
    (λ e among. false_from_ne_true (ends set e.body) (λ ended.
    false≢true (sym (live_marked n.id set (knowledge n).config leads)
    ∙ own_told (nodes_in t.world.places) (regular_now t).nodes name n is e among (OfEnd set)
    (ends_tell set e.body ended))))

subscribes_live : (set id receiver : ℕ) (body : Body) → subscribes id receiver body ≡ true → ends set body ≡ false
subscribes_live set id receiver (SubscribeSet other provider node forward) is = refl
subscribes_live set id receiver others is = absurd (false≢true is)

feed_live : (t : Past) (s : Seat) → IsSeat t.world.places s → (n : Node) (body : Body) →
    IsOfFeed s n body ⊎ (is_single body ≡ true) → IsLive (stream n) body
feed_live t s is n (SubscribeSet set provider receiver forward) (inl feed) =
    let h : HasSynced s n = feed.1 in
    subst (AllByRecursion (λ e. ends set e.body ≡ false)) (sym h.all)
    (ap (ends set) h.body, stream_live t s.name s.node (seat_node t.world.places s is) set feed.0)
feed_live t s is n (SubscribeSet set provider receiver forward) (inr single) = absurd (false≢true single)
feed_live t s is n (EnableSubscription set provider receiver forward era) (inl feed) =
    let h : HasSubscribed set receiver s n = feed.1 in
    subst (AllByRecursion (λ e. ends set e.body ≡ false)) (sym h.all) (
      subscribes_live set set receiver h.event.body h.subscribes,
      (ap (ends set) h.body, stream_live t s.name s.node (seat_node t.world.places s is) set feed.0),
    )
feed_live t s is n (EnableSubscription set provider receiver forward era) (inr single) = absurd (false≢true single)
feed_live t s is n others says = tt

feeds_live : NodeLives IsFedLive
feeds_live = record {
  later = λ t n was. was;
  logs = λ t n p xid was. was;
  tells = λ t s is number m n says was. (feed_live t s is n m.body (says_single s n m says), was);
  takes = λ t knew x origin is was. was;
  hears = λ t s confirms was. was;
  becomes = λ t knew n deeds views knows.
      subst (λ ds. IsFedLive (WasUpTo t) (record n { deeds = ds })) (sym deeds) tt;
}

pub live_now : (t : Past) (name : List ℕ) (n : Node) → nodes_in t.world.places name ≡ Some n → AreLive (stream n)
live_now t = knew IsFedLive t (lives_in (node_lives feeds_live) t)

pub live_at : (later : List Event) (e : Event) (earlier : List Event) → AreLive (later ++ e ∷ earlier) →
    IsLive earlier e.body
live_at [] e earlier live = live.0
live_at (f ∷ later) e earlier live = live_at later e earlier live.1

-- before a receiver is told to copy a set that has not ended
pub ended_body : (set node : ℕ) (earlier : List Event) (body : Body) → enables set node body ≡ true →
    IsLive earlier body → AllByRecursion (λ e. ends set e.body ≡ false) earlier
ended_body set node earlier (EnableSubscription id provider receiver forward era) is live =
    subst (λ i. AllByRecursion (λ e. ends i e.body ≡ false) earlier) (both_same id set receiver node is).0 live
ended_body set node earlier others is live = absurd (false≢true is)

-- ---- tables

-- where no receiver is found none is there
none_received : (es : Map Subscription) (receiver : ℕ) → option_map (λ e. e.0) (find (λ e. true) es) ≡ None →
    is_some (entry_at receiver es) ≡ false
none_received [] receiver none = refl
none_received (e ∷ es) receiver none = absurd cc

allowed_unfed : (s : Seat) (body : Body) → IsAllowed s body → HasFeeds (λ u. ⊥) s.node → IsUnfed (stream s.node) body
allowed_unfed s (SetAddTable set table name comment) may has = λ node.
    none_stands (λ u. ⊥) s.node has set node
    (none_received (receivers set (knowledge s.node).config) node may.0)
allowed_unfed s others may has = tt

feed_unfed : (earlier : List Event) (s : Seat) (n : Node) (body : Body) → IsOfFeed s n body → IsUnfed earlier body
feed_unfed earlier s n (SetAddTable set table name comment) is = absurd is
feed_unfed earlier s n others is = tt

says_unfed : (s : Seat) (n : Node) (m : Emission) → Says s n m → HasFeeds (λ u. ⊥) s.node → IsUnfed (stream n) m.body
says_unfed s n m (inl may) has =
    subst (λ x. IsUnfed (stream x) m.body) (sym may.0) (allowed_unfed s m.body may.1 has)
says_unfed s n m (inr feed) has = feed_unfed (stream n) s n m.body feed

tables_unfed : NodeLives IsUnfedBefore
tables_unfed = record {
  later = λ t n was. was;
  logs = λ t n p xid was. was;
  tells = λ t s is number m n says was.
      (says_unfed s n m says (feeds_now t s.name s.node (seat_node t.world.places s is)), was);
  takes = λ t knew x origin is was. was;
  hears = λ t s confirms was. was;
  becomes = λ t knew n deeds views knows.
      subst (λ ds. IsUnfedBefore (WasUpTo t) (record n { deeds = ds })) (sym deeds) tt;
}

pub unfed_now : (t : Past) (name : List ℕ) (n : Node) → nodes_in t.world.places name ≡ Some n → AreUnfed (stream n)
unfed_now t = knew IsUnfedBefore t (lives_in (node_lives tables_unfed) t)
