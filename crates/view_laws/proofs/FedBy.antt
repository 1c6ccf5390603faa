-- Each subscription that a node knows is known by an event of the origin of the set.
use Rattle.std.proofs.Common.{◌≡◌, ◌⊎◌, inl, inr, ℕ, Bool, true, false, cond, List, [], ◌∷◌, Option, Some, None, refl}
use Rattle.std.proofs.Common.{sym, ap, subst, ◌∙◌, is_some}
use Rattle.std.specs.Prelude.{◌==◌, ◌&&◌, ◌||◌}
use Rattle.std.proofs.lemmas.Bool.{and_from, eq-eqb, false≢true}
use Rattle.node_rows.specs.declared.body.Body.{Body}
use Rattle.node_rows.specs.declared.body.Body.TheVariants.{SubscribeSet, EnableSubscription, DropSet, UnsubscribeSet}
use Rattle.node_rows.specs.declared.body.Body.TheVariants.{MoveSet, FailoverSet}
use Rattle.node_rows.specs.declared.rows.Subscription.{Subscription}
use Rattle.slon_model.specs.Maps.{Map2, pair_at, with_pair}
use Rattle.slon_model.specs.Events.{Event}
use Rattle.slon_model.specs.Config.{Config, change_by, enabled}
use Rattle.slon_model.specs.Deeds.{Node, Deed, Applies, knowledge, with_deeds, Hears as HearsOf}
use Rattle.slon_model.specs.Place.{deed}
use Rattle.slon_model.specs.Sessions.{World}
use Rattle.stream_laws.specs.Nodes.{IsEvent, nodes_in}
use Rattle.stream_laws.specs.Making.{is_emitted}
use Rattle.view_laws.specs.Known.{AreFedBy, HasFeed, IsFedBy, IsHeard, feeds, is_on_feed}
use Rattle.view_laws.specs.Past.{Past, WasBefore, WasUpTo}
use Rattle.view_laws.proofs.Doing.{KnowsFrom, KnowsNone, KnowsGiven}
use Rattle.view_laws.proofs.Living.{Knew, NodeLives, deed_of, event_of, knew, node_lives}
use Rattle.view_laws.proofs.Fed.{on_feeds, pair-with, pair-without, row-without}
use Rattle.view_laws.proofs.Lasting.{both_same}
use Rattle.view_laws.proofs.Reached.{event_now}
use Rattle.view_laws.proofs.Told.{HearsToo, heard_later, heard_was, more_heard}
use Rattle.view_laws.proofs.Saying.{may_emitted, says_emitted}
use Rattle.view_laws.proofs.Walking.{lives_in}
use Rattle.slon_model.specs.Moves.{with_commit}

-- ---- one event

pair_back : (q r a b : ℕ) (x : Subscription) (m : Map2 Subscription) →
    is_some (pair_at q r (with_pair a b x m)) ≡ true → ((q == a && r == b) ≡ true) ⊎ (is_some (pair_at q r m) ≡ true)
pair_back q r a b x m has = by (q == a && r == b) refl (sym (ap is_some (pair-with q r a b x m)) ∙ has)
  where
    by : (c : Bool) → (q == a && r == b) ≡ c → is_some (cond c (Some x) (pair_at q r m)) ≡ true →
        ((q == a && r == b) ≡ true) ⊎ (is_some (pair_at q r m) ≡ true)
    by true same some = inl same
    by false other some = inr some

enabled_back : (q r a b k : ℕ) (m : Map2 Subscription) (o : Option Subscription) →
    is_some (pair_at q r (enabled a b k m o)) ≡ true → ((q == a && r == b) ≡ true) ⊎ (is_some (pair_at q r m) ≡ true)
enabled_back q r a b k m None has = inr has
enabled_back q r a b k m (Some s) has = pair_back q r a b _ m has

turned : (q r a b : ℕ) → (q == a && r == b) ≡ true → (a == q && b == r) ≡ true
turned q r a b is =
    let same = both_same q a r b is in
    and_from (a == q) (b == r) (eq-eqb a q (sym same.0)) (eq-eqb b r (sym same.1))

-- a subscription that is known behind an event is one that the event is on, or was known before
feed_back : (set receiver origin number : ℕ) (body : Body) (c : Config) → is_emitted body ≡ true →
    HasFeed set receiver (change_by origin number body c) →
    (is_on_feed set receiver body ≡ true) ⊎ HasFeed set receiver c
feed_back set receiver origin number (SubscribeSet id provider node forward) c may has =
    elim (pair_back set receiver id node _ c.subscriptions has) [
      | inl same ↦ inl (ap (λ b. b || false) (turned set receiver id node same))
      | inr old ↦ inr old
    ]
feed_back set receiver origin number (EnableSubscription id provider node forward era) c may has =
    elim (enabled_back set receiver id node number c.subscriptions (pair_at id node c.subscriptions) has) [
      | inl same ↦ inl (turned set receiver id node same)
      | inr old ↦ inr old
    ]
feed_back set receiver origin number (DropSet id) c may has =
    inr (by (set == id) (sym (ap is_some (row-without set receiver id c.subscriptions)) ∙ has))
  where
    by : (b : Bool) → is_some (cond b None (pair_at set receiver c.subscriptions)) ≡ true → HasFeed set receiver c
    by true none = absurd (false≢true none)
    by false had = had
feed_back set receiver origin number (UnsubscribeSet id node) c may has =
    inr (by (set == id && receiver == node)
    (sym (ap is_some (pair-without set receiver id node c.subscriptions)) ∙ has))
  where
    by : (b : Bool) → is_some (cond b None (pair_at set receiver c.subscriptions)) ≡ true → HasFeed set receiver c
    by true none = absurd (false≢true none)
    by false had = had
feed_back set receiver origin number (MoveSet id old new era feeds) c may has = absurd (false≢true may)
feed_back set receiver origin number (FailoverSet failed limit sets) c may has = absurd (false≢true may)
feed_back set receiver origin number others c may has = inr has

-- ---- a node

fed_more : (Was Now : World → Type 0) (n m : Node) → HearsToo Was n Now m → (set receiver : ℕ) →
    IsFedBy Was n set receiver → IsFedBy Now m set receiver
fed_more Was Now n m hears set receiver is =
    record { event = is.event; heard = hears is.event is.heard; on = is.on }

-- who meets an event
met_fed : (Was : World → Type 0) (n : Node) (d : Deed) (e : Event) → IsHeard Was (with_deeds (d ∷ []) n) e →
    HearsToo Was n Was (with_deeds (d ∷ []) n) →
    (is_emitted e.body ≡ true)
    × ((knowledge (with_deeds (d ∷ []) n)).config ≡ change_by e.origin e.number e.body (knowledge n).config) →
    AreFedBy Was n → AreFedBy Was (with_deeds (d ∷ []) n)
met_fed Was n d e heard hears is was = λ set receiver has.
    elim (feed_back set receiver e.origin e.number e.body (knowledge n).config is.0
    (subst (HasFeed set receiver) is.1 has)) [
      | inl on ↦ record { event = e; heard = heard; on = on }
      | inr old ↦ fed_more Was Was n (with_deeds (d ∷ []) n) hears set receiver (was set receiver old)
    ]

new_fed : (t : Past) → Knew AreFedBy t → (n m : Node) → KnowsFrom t.world n → (set receiver : ℕ) →
    HasFeed set receiver n.given.config → IsFedBy (WasUpTo t) m set receiver
new_fed t knew n m (KnowsNone none) set receiver has =
    absurd (false≢true (subst (λ s. is_some (pair_at set receiver s) ≡ true) none.2 has))
new_fed t knew n m (KnowsGiven g) set receiver has =
    fed_more (WasBefore t) (WasUpTo t) g.giver m (λ e heard. inr (heard_was t g.name g.giver g.is e heard)) set receiver
    (knew g.name g.giver g.is set receiver (subst (λ s. is_some (pair_at set receiver s) ≡ true) g.subscriptions has))

feeds_known : NodeLives AreFedBy
feeds_known = record {
  later = λ t n was set receiver has.
      fed_more (WasBefore t) (WasUpTo t) n n (heard_later t n) set receiver (was set receiver has);
  logs = λ t n p xid was set receiver has.
      fed_more (WasUpTo t) (WasUpTo t) n (with_commit xid p n) (λ e heard. heard) set receiver (was set receiver has);
  tells = λ t s is number m n says was.
      met_fed (WasUpTo t) n (deed_of s number m) (event_of s number m.body) (inl (inl refl))
      (more_heard (WasUpTo t) n (deed_of s number m) (event_of s number m.body) refl) (says_emitted s n m says, refl)
      was;
  takes = λ t knew x origin is was.
      let d : Deed = deed x.seat.place [] x.brought.logs (Applies x.event x.brought) in
      met_fed (WasUpTo t) x.seat.node d x.event (inl (inl refl))
      (more_heard (WasUpTo t) x.seat.node d x.event refl)
      (may_emitted x.event.origin x.event.body (knowledge x.seat.node).config is.work.may, refl) was;
  hears = λ t s confirms was set receiver has.
      fed_more (WasUpTo t) (WasUpTo t) s.node (with_deeds (deed s.place [] [] (HearsOf confirms) ∷ []) s.node)
      (λ e heard. heard) set receiver (was set receiver has);
  becomes = λ t knew n deeds views knows.
      subst (λ ds. AreFedBy (WasUpTo t) (record n { deeds = ds })) (sym deeds)
      (new_fed t knew n (record n { deeds = [] }) knows);
}

-- ---- every session

-- the event by which a node of the session knows the subscription of a receiver
pub record Fed (t : Past) (set receiver : ℕ) : Type 0 where
  pub event : Event
  pub is : IsEvent (nodes_in t.world.places) event
  pub on : is_on_feed set receiver event.body ≡ true
  pub feeds : feeds set event.body ≡ true

pub fed_now : (t : Past) (name : List ℕ) (n : Node) → nodes_in t.world.places name ≡ Some n → (set receiver : ℕ) →
    HasFeed set receiver (knowledge n).config → Fed t set receiver
fed_now t name n is set receiver has =
    let f = knew AreFedBy t (lives_in (node_lives feeds_known) t) name n is set receiver has in
    record {
      event = f.event;
      is = event_now t f.event (heard_was t name n is f.event f.heard);
      on = f.on;
      feeds = on_feeds set receiver f.event.body f.on;
    }
