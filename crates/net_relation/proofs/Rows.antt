-- Subscriptions of a net, and those of a configuration, behind each event.
use Rattle.std.proofs.Common.{◌≡◌, ℕ, Bool, true, false, cond, List, ◌∷◌, length, Option, Some, None, refl}
use Rattle.std.proofs.Common.{sym, ap, subst, ◌∙◌, eq-eqb}
use Rattle.std.specs.Prelude.{◌+◌, ◌==◌, ◌&&◌, option_map}
use Rattle.std.proofs.lemmas.Bool.{eqb-true, false≢true, false_from_ne_true}
use Rattle.node_rows.specs.declared.body.Body.{Body}
use Rattle.node_rows.specs.declared.body.Body.TheVariants.{SubscribeSet, EnableSubscription, DropSet, UnsubscribeSet}
use Rattle.node_rows.specs.declared.body.Body.TheVariants.{MoveSet, FailoverSet}
use Rattle.node_rows.specs.declared.rows.Subscription.{Subscription}
use Rattle.net_laws.specs.Subscriptions.{Event as Said, Subscribe, Enable, Unsubscribe, Unrelated, Subscription as Row}
use Rattle.net_laws.specs.Subscriptions.{last_moment, DropSet as Ends}
use Rattle.net_laws.specs.Subscriptions.{changed, enabled as enabled_row, readied, row, subscribed}
use Rattle.slon_model.specs.Maps.{Map2, pair_at}
use Rattle.slon_model.specs.Events.{Event}
use Rattle.slon_model.specs.Config.{Config, change, change_by, enabled}
use Rattle.slon_model.proofs.Names.{one_found}
use Rattle.stream_laws.specs.Making.{is_emitted}
use Rattle.net_relation.specs.Reading.{said, said_by, unfed, plain}
use Rattle.net_relation.specs.Matching.{HasRow}
use Rattle.view_laws.proofs.Fed.{row-without, pair-with, pair-without}
use Rattle.view_laws.proofs.Lasting.{both_same}

-- ---- pairs

-- a subscription that is enabled
enabled-pair : (q r a b k : ℕ) (m : Map2 Subscription) (o : Option Subscription) → pair_at a b m ≡ o →
    pair_at q r (enabled a b k m o)
    ≡ cond (q == a && r == b) (option_map (λ (s : Subscription). record s { mark = k }) o) (pair_at q r m)
enabled-pair q r a b k m None is = by (q == a && r == b) refl
  where
    by : (c : Bool) → (q == a && r == b) ≡ c → pair_at q r m ≡ cond c None (pair_at q r m)
    by true same =
        let ids = both_same q a r b same in ap (λ i. pair_at i r m) ids.0 ∙ ap (λ j. pair_at a j m) ids.1 ∙ is
    by false other = refl
enabled-pair q r a b k m (Some s) is = pair-with q r a b (record s { mark = k }) m

-- ---- one event

same_test : (a b : ℕ) (c : Bool) → (a == b) ≡ c → (b == a) ≡ c
same_test a b true is = eq-eqb b a (sym (eqb-true a b is))
same_test a b false is =
    false_from_ne_true (b == a) (λ same. false≢true (sym is ∙ eq-eqb a b (sym (eqb-true b a same))))

-- the subscription of a receiver is there, if the events that were heard say so
abbrev pub HasRows : ℕ → ℕ → List Said → Config → Type 0
HasRows set r z c = (u : Row) → row unfed r z ≡ Some u → HasRow set r u c

-- an event of the stream, which is the next one
pub row_changed : (set r : ℕ) (z : List Said) (e : Event) (c : Config) → is_emitted e.body ≡ true →
    e.number ≡ length z + 1 → HasRows set r z c → HasRows set r (said set e ∷ z) (change e c)
row_changed set r z e c may number old u is =
    subst (λ k. HasRow set r u (change_by e.origin k e.body c)) (sym number) (by e.body may is)
  where
    k : ℕ
    k = length z + 1

    by : (body : Body) → is_emitted body ≡ true → row unfed r (said_by set e.taken body ∷ z) ≡ Some u →
        HasRow set r u (change_by e.origin k body c)
    by (SubscribeSet id p n f) may is =
        pair-with set r id n new c.subscriptions ∙ at (id == set) refl is
      where
        new : Subscription
        new = record { provider = p; forward = f; mark = k }

        made : Row
        made = subscribed k (last_moment z) p f (row unfed r z)

        now : (o : Option Row) → new ≡ plain (subscribed k (last_moment z) p f o)
        now None = refl
        now (Some t) = refl

        here : (b : Bool) → cond b (Some made) (row unfed r z) ≡ Some u →
            cond b (Some new) (pair_at set r c.subscriptions) ≡ Some (plain u)
        here true is = ap Some (now (row unfed r z) ∙ ap plain (one_found made u is))
        here false is = old u is

        at : (a : Bool) → (id == set) ≡ a →
            changed r k (last_moment z) (cond a (Subscribe n p f) Unrelated) (row unfed r z) ≡ Some u →
            cond (set == id && r == n) (Some new) (pair_at set r c.subscriptions) ≡ Some (plain u)
        at true same is =
            ap (λ b. cond (b && r == n) (Some new) (pair_at set r c.subscriptions)) (same_test id set true same)
            ∙ here (r == n) is
        at false other is =
            ap (λ b. cond (b && r == n) (Some new) (pair_at set r c.subscriptions)) (same_test id set false other)
            ∙ old u is
    by (EnableSubscription id p n f era) may is =
        enabled-pair set r id n k c.subscriptions (pair_at id n c.subscriptions) refl ∙ at (id == set) refl is
      where
        marked : Option Subscription → Option Subscription
        marked o = option_map (λ (s : Subscription). record s { mark = k }) o

        readied_is : (o : Option Row) → row unfed r z ≡ o → enabled_row k o ≡ Some u →
            marked (pair_at set r c.subscriptions) ≡ Some (plain u)
        readied_is None at none = absurd cc
        readied_is (Some t) at some = ap marked (old t at) ∙ ap (λ o. Some (plain o)) (one_found (readied k t) u some)

        here : set ≡ id → (b : Bool) → (r == n) ≡ b → cond b (enabled_row k (row unfed r z)) (row unfed r z) ≡ Some u →
            cond b (marked (pair_at id n c.subscriptions)) (pair_at set r c.subscriptions) ≡ Some (plain u)
        here same true at is =
            ap (λ i. marked (pair_at i n c.subscriptions)) (sym same)
            ∙ ap (λ j. marked (pair_at set j c.subscriptions)) (sym (eqb-true r n at))
            ∙ readied_is (row unfed r z) refl is
        here same false at is = old u is

        at : (a : Bool) → (id == set) ≡ a →
            changed r k (last_moment z) (cond a (Enable n) Unrelated) (row unfed r z) ≡ Some u →
            cond (set == id && r == n) (marked (pair_at id n c.subscriptions)) (pair_at set r c.subscriptions)
            ≡ Some (plain u)
        at true same is =
            ap (λ b. cond (b && r == n) (marked (pair_at id n c.subscriptions)) (pair_at set r c.subscriptions))
            (same_test id set true same)
            ∙ here (sym (eqb-true id set same)) (r == n) refl is
        at false other is =
            ap (λ b. cond (b && r == n) (marked (pair_at id n c.subscriptions)) (pair_at set r c.subscriptions))
            (same_test id set false other)
            ∙ old u is
    by (DropSet id) may is = row-without set r id c.subscriptions ∙ at (id == set) refl is
      where
        at : (a : Bool) → (id == set) ≡ a →
            changed r k (last_moment z) (cond a Ends Unrelated) (row unfed r z) ≡ Some u →
            cond (set == id) None (pair_at set r c.subscriptions) ≡ Some (plain u)
        at true same none = absurd cc
        at false other is =
            ap (λ b. cond b None (pair_at set r c.subscriptions)) (same_test id set false other) ∙ old u is
    by (UnsubscribeSet id n) may is = pair-without set r id n c.subscriptions ∙ at (id == set) refl is
      where
        here : (b : Bool) → cond b None (row unfed r z) ≡ Some u →
            cond b None (pair_at set r c.subscriptions) ≡ Some (plain u)
        here true none = absurd cc
        here false is = old u is

        at : (a : Bool) → (id == set) ≡ a →
            changed r k (last_moment z) (cond a (Unsubscribe n) Unrelated) (row unfed r z) ≡ Some u →
            cond (set == id && r == n) None (pair_at set r c.subscriptions) ≡ Some (plain u)
        at true same is =
            ap (λ b. cond (b && r == n) None (pair_at set r c.subscriptions)) (same_test id set true same)
            ∙ here (r == n) is
        at false other is =
            ap (λ b. cond (b && r == n) None (pair_at set r c.subscriptions)) (same_test id set false other)
            ∙ old u is
    by (MoveSet id from to era feeds) may is = absurd (false≢true may)
    by (FailoverSet failed limit sets) may is = absurd (false≢true may)
    by others may is = old u is

-- ---- an event of another stream

-- it is not of this subscription
abbrev pub IsBeside : ℕ → ℕ → Body → Type 0
IsBeside set r (SubscribeSet id p n f) = id ≡ set → n ≡ r → ⊥
IsBeside set r (EnableSubscription id p n f era) = id ≡ set → n ≡ r → ⊥
IsBeside set r (UnsubscribeSet id n) = id ≡ set → n ≡ r → ⊥
IsBeside set r (DropSet id) = id ≡ set → ⊥
IsBeside set r others = Unit {0}

beside_test : (set r id n : ℕ) → (id ≡ set → n ≡ r → ⊥) → (set == id && r == n) ≡ false
beside_test set r id n apart =
    false_from_ne_true (set == id && r == n) (λ is.
    let ids = both_same set id r n is in apart (sym ids.0) (sym ids.1))

pub row_beside : (set r : ℕ) (e : Event) (c : Config) (u : Row) → is_emitted e.body ≡ true →
    IsBeside set r e.body → HasRow set r u c → HasRow set r u (change e c)
row_beside set r e c u may apart is = by e.body may apart
  where
    by : (body : Body) → is_emitted body ≡ true → IsBeside set r body →
        HasRow set r u (change_by e.origin e.number body c)
    by (SubscribeSet id p n f) may apart =
        pair-with set r id n new c.subscriptions
        ∙ ap (λ b. cond b (Some new) (pair_at set r c.subscriptions)) (beside_test set r id n apart) ∙ is
      where
        new : Subscription
        new = record { provider = p; forward = f; mark = e.number }
    by (EnableSubscription id p n f era) may apart =
        enabled-pair set r id n e.number c.subscriptions (pair_at id n c.subscriptions) refl
        ∙ ap (λ b. cond b marked (pair_at set r c.subscriptions)) (beside_test set r id n apart) ∙ is
      where
        marked : Option Subscription
        marked = option_map (λ (s : Subscription). record s { mark = e.number }) (pair_at id n c.subscriptions)
    by (DropSet id) may apart =
        row-without set r id c.subscriptions
        ∙ ap (λ b. cond b None (pair_at set r c.subscriptions))
        (false_from_ne_true (set == id) (λ same. apart (sym (eqb-true set id same)))) ∙ is
    by (UnsubscribeSet id n) may apart =
        pair-without set r id n c.subscriptions
        ∙ ap (λ b. cond b None (pair_at set r c.subscriptions)) (beside_test set r id n apart) ∙ is
    by (MoveSet id from to era feeds) may apart = absurd (false≢true may)
    by (FailoverSet failed limit sets) may apart = absurd (false≢true may)
    by others may apart = is
