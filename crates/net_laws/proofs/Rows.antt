-- Rows, as prefixes of the stream make them.
use Rattle.std.proofs.Common.{◌≡◌, ℕ, ◌+◌, ◌<◌, ◌≤◌, Bool, true, false, cond, List, [], ◌∷◌, length, Option, Some, None}
use Rattle.std.proofs.Common.{refl, sym, ap, subst, ◌∙◌, arith, inl, inr}
use Rattle.std.specs.Prelude.{◌==◌}
use Rattle.std.specs.Option.{IfSome}
use Rattle.std.proofs.lemmas.Bool.{eqb-true, cases_lt, false≢true}
use Rattle.std.proofs.lemmas.Option.{MatchOption-at_some}
use Rattle.net_laws.specs.Subscriptions.{Subscription, Event, Subscribe, Enable, Unsubscribe, DropSet, up_to}
use Rattle.net_laws.specs.Subscriptions.{last_moment, Start, begun, subscribed, enabled, changed, row}
use Rattle.net_laws.specs.Net.{Ends}
use Rattle.net_laws.proofs.Options.{if_some}
use Rattle.net_laws.proofs.Prefixes.{up_to_old, up_to_new, moment_more}

-- ---- what an event does to a row

either : {X : Type 0} (P : X → Type 0) (b : Bool) (x y : X) → (b ≡ true → P x) → P y → P (cond b x y)
either P true x y new old = new refl
either P false x y new old = old

-- P holds of a row however event number k changes it: that stays, goes, is subscribed or is enabled
pub record Ways (P : Option Subscription → Type 0) (n k c : ℕ) (e : Event) (old : Option Subscription) : Type 0 where
  pub stays : (e ≡ DropSet → ⊥) → P old
  pub goes : Ends n e → P None
  pub subscribes : (p : ℕ) (f : Bool) → e ≡ Subscribe n p f → P (Some (subscribed k c p f old))
  pub enables : e ≡ Enable n → P (enabled k old)

pub by_ways : (P : Option Subscription → Type 0) (n k c : ℕ) (e : Event) (old : Option Subscription) →
    Ways P n k c e old → P (changed n k c e old)
by_ways P n k c (Subscribe r p f) old ways = either P (n == r) (Some (subscribed k c p f old)) old
    (λ is. ways.subscribes p f (ap (λ j. Subscribe j p f) (sym (eqb-true n r is)))) (ways.stays (λ is. absurd cc))
by_ways P n k c (Enable r) old ways = either P (n == r) (enabled k old) old
    (λ is. ways.enables (ap (λ j. Enable j) (sym (eqb-true n r is)))) (ways.stays (λ is. absurd cc))
by_ways P n k c (Unsubscribe r) old ways = either P (n == r) None old
    (λ is. ways.goes (sym (eqb-true n r is))) (ways.stays (λ is. absurd cc))
by_ways P n k c DropSet old ways = ways.goes tt
by_ways P n k c others old ways = ways.stays (λ is. absurd cc)

-- ---- numbers in a row

pub record IsNumbered (k : ℕ) (u : Subscription) : Type 0 where
  pub made : u.made ≤ u.mark
  pub turned : u.turned ≤ u.mark
  pub mark : u.mark ≤ k

numbered_more : (k : ℕ) (old : Option Subscription) → IfSome old (IsNumbered k) → IfSome old (IsNumbered (k + 1))
numbered_more k None is = tt
numbered_more k (Some u) is = record { made = is.made; turned = is.turned; mark = omega (arith, is.mark) }

numbered_subscribed : (k c p : ℕ) (f : Bool) (old : Option Subscription) → IfSome old (IsNumbered k) →
    IsNumbered (k + 1) (subscribed (k + 1) c p f old)
numbered_subscribed k c p f None is = record { made = omega arith; turned = omega arith; mark = omega arith }
numbered_subscribed k c p f (Some u) is = record {
  made = omega (arith, is.made, is.mark);
  turned = either (λ turned. turned ≤ k + 1) u.forward u.turned (k + 1) (λ on. omega (arith, is.turned, is.mark))
      (omega arith);
  mark = omega arith;
}

numbered_enabled : (k : ℕ) (old : Option Subscription) → IfSome (enabled (k + 1) old) (IsNumbered (k + 1))
numbered_enabled k None = tt
numbered_enabled k (Some u) = record { made = omega arith; turned = omega arith; mark = omega arith }

numbered_changed : (n k c : ℕ) (e : Event) (old : Option Subscription) → IfSome old (IsNumbered k) →
    IfSome (changed n (k + 1) c e old) (IsNumbered (k + 1))
numbered_changed n k c e old is = by_ways (λ o. IfSome o (IsNumbered (k + 1))) n (k + 1) c e old (record {
  stays = λ not. numbered_more k old is;
  goes = λ ends. tt;
  subscribes = λ p f same. numbered_subscribed k c p f old is;
  enables = λ same. numbered_enabled k old;
})

numbered_begun : (o : Option (ℕ × Bool)) → IfSome (begun o) (IsNumbered 0)
numbered_begun None = tt
numbered_begun (Some r) = record { made = omega arith; turned = omega arith; mark = omega arith }

numbered_row : (start : Start) (n : ℕ) (z : List Event) → IfSome (row start n z) (IsNumbered (length z))
numbered_row start n [] = numbered_begun (start.rows n)
numbered_row start n (e ∷ z) = subst (λ k. IfSome (row start n (e ∷ z)) (IsNumbered k)) (omega arith)
    (numbered_changed n (length z) (last_moment z) e (row start n z) (numbered_row start n z))

pub numbered : (start : Start) (n : ℕ) (z : List Event) (u : Subscription) → row start n z ≡ Some u →
    IsNumbered (length z) u
numbered start n z u is = MatchOption-at_some _ (IsNumbered (length z)) u is (numbered_row start n z)

-- ---- a row that has a property since an event had it already there

-- the option has a row with the property, and with the number of u
pub record Found (stamp : Subscription → ℕ) (Q : Subscription → Type 0) (o : Option Subscription) (u : Subscription)
    : Type 0 where
  pub row : Subscription
  pub is : o ≡ Some row
  pub holds : Q row
  pub same : stamp row ≡ stamp u

found_again : (stamp : Subscription → ℕ) (Q : Subscription → Type 0) (o p : Option Subscription) (u : Subscription)
    (found : Found stamp Q o u) → Found stamp Q p found.row → Found stamp Q p u
found_again stamp Q o p u found again =
    record { row = again.row; is = again.is; holds = again.holds; same = again.same ∙ found.same }

-- a new row with the property, and with a number before k, was so before
abbrev Earlier : (Subscription → ℕ) → (Subscription → Type 0) → ℕ → Option Subscription → Option Subscription → Type 0
Earlier stamp Q k old new = IfSome new (λ u. Q u → stamp u < k → Found stamp Q old u)

record IsLasting (stamp : Subscription → ℕ) (Q : Subscription → Type 0) : Type 0 where
  subscribes : (k c p : ℕ) (f : Bool) (old : Option Subscription) →
      Earlier stamp Q k old (Some (subscribed k c p f old))
  enables : (k : ℕ) (old : Option Subscription) → Earlier stamp Q k old (enabled k old)

earlier_changed : (stamp : Subscription → ℕ) (Q : Subscription → Type 0) → IsLasting stamp Q → (n k c : ℕ) (e : Event)
    (old : Option Subscription) → Earlier stamp Q k old (changed n k c e old)
earlier_changed stamp Q lasting n k c e old = by_ways (Earlier stamp Q k old) n k c e old (record {
  stays = λ not. if_some (λ u. Q u → stamp u < k → Found stamp Q old u) old
      (λ u is holds less. record { row = u; is = is; holds = holds; same = refl });
  goes = λ ends. tt;
  subscribes = λ p f same. lasting.subscribes k c p f old;
  enables = λ same. lasting.enables k old;
})

-- the row has the property since event number k, or longer
record HasSince (stamp : Subscription → ℕ) (Q : Subscription → Type 0) (k : ℕ) (o : Option Subscription) : Type 0 where
  row : Subscription
  is : o ≡ Some row
  holds : Q row
  since : stamp row ≤ k

earlier : (stamp : Subscription → ℕ) (Q : Subscription → Type 0) → IsLasting stamp Q → (start : Start) (n k : ℕ)
    (z : List Event) (has : HasSince stamp Q k (row start n z)) → Found stamp Q (row start n (up_to k z)) has.row
earlier stamp Q lasting start n k [] has = record { row = has.row; is = has.is; holds = has.holds; same = refl }
earlier stamp Q lasting start n k (e ∷ z) has = elim (cases_lt (length z) k) [
  | inl more ↦ record {
    row = has.row;
    is = ap (row start n) (up_to_new k e z more) ∙ has.is;
    holds = has.holds;
    same = refl;
  }
  | inr old ↦
      let since = has.since in
      let before = MatchOption-at_some _ (λ u. Q u → stamp u < length z + 1 → Found stamp Q (row start n z) u)
      has.row has.is (earlier_changed stamp Q lasting n (length z + 1) (last_moment z) e (row start n z))
      has.holds (omega (arith, since, old)) in
      let same = before.same in
      subst (λ o. Found stamp Q o has.row) (ap (row start n) (sym (up_to_old k e z old)))
      (found_again stamp Q (row start n z) (row start n (up_to k z)) has.row before
      (earlier stamp Q lasting start n k z (record {
        row = before.row;
        is = before.is;
        holds = before.holds;
        since = omega (arith, since, same);
      })))
]

-- since it was made
made_lasts : IsLasting (λ u. u.made) (λ u. u.ready ≡ true)
made_lasts = record { subscribes = by_subscribe; enables = by_enable }
  where
    by_subscribe : (k c p : ℕ) (f : Bool) (old : Option Subscription) →
        Earlier (λ u. u.made) (λ u. u.ready ≡ true) k old (Some (subscribed k c p f old))
    by_subscribe k c p f None = λ ready less. absurd (omega (arith, less))
    by_subscribe k c p f (Some u) = λ ready less. record { row = u; is = refl; holds = ready; same = refl }

    by_enable : (k : ℕ) (old : Option Subscription) →
        Earlier (λ u. u.made) (λ u. u.ready ≡ true) k old (enabled k old)
    by_enable k None = tt
    by_enable k (Some u) = λ ready less. absurd (omega (arith, less))

pub since_made : (start : Start) (n k : ℕ) (z : List Event) (u : Subscription) → row start n z ≡ Some u →
    u.ready ≡ true → u.made ≤ k → Found (λ t. t.made) (λ t. t.ready ≡ true) (row start n (up_to k z)) u
since_made start n k z u is ready made = earlier (λ t. t.made) (λ t. t.ready ≡ true) made_lasts start n k z
    (record { row = u; is = is; holds = ready; since = made })

-- since it forwards
abbrev pub ForwardsReady : Subscription → Type 0
ForwardsReady u = (u.forward ≡ true) × (u.ready ≡ true)

turned_lasts : IsLasting (λ u. u.turned) ForwardsReady
turned_lasts = record { subscribes = by_subscribe; enables = by_enable }
  where
    by_subscribe : (k c p : ℕ) (f : Bool) (old : Option Subscription) →
        Earlier (λ u. u.turned) ForwardsReady k old (Some (subscribed k c p f old))
    by_subscribe k c p f None = λ both less. absurd (omega (arith, less))
    by_subscribe k c p f (Some u) = λ both. elim u.forward as (λ b. u.forward ≡ b → cond b u.turned k < k →
        Found (λ t. t.turned) ForwardsReady (Some u)
        (record (subscribed k c p f (Some u)) { turned = cond b u.turned k })) [
          | true ↦ λ on less. record { row = u; is = refl; holds = (on, both.1); same = refl }
          | false ↦ λ off less. absurd (omega (arith, less))
        ] refl

    by_enable : (k : ℕ) (old : Option Subscription) → Earlier (λ u. u.turned) ForwardsReady k old (enabled k old)
    by_enable k None = tt
    by_enable k (Some u) = λ both less. absurd (omega (arith, less))

pub since_turned : (start : Start) (n k : ℕ) (z : List Event) (u : Subscription) → row start n z ≡ Some u →
    ForwardsReady u → u.turned ≤ k → Found (λ t. t.turned) ForwardsReady (row start n (up_to k z)) u
since_turned start n k z u is both since = earlier (λ t. t.turned) ForwardsReady turned_lasts start n k z
    (record { row = u; is = is; holds = both; since = since })

-- since its last event it is the same
mark_lasts : (u : Subscription) → IsLasting (λ t. t.mark) (λ t. t ≡ u)
mark_lasts u = record { subscribes = by_subscribe; enables = by_enable }
  where
    by_subscribe : (k c p : ℕ) (f : Bool) (old : Option Subscription) →
        Earlier (λ t. t.mark) (λ t. t ≡ u) k old (Some (subscribed k c p f old))
    by_subscribe k c p f None = λ same less. absurd (omega (arith, less))
    by_subscribe k c p f (Some t) = λ same less. absurd (omega (arith, less))

    by_enable : (k : ℕ) (old : Option Subscription) → Earlier (λ t. t.mark) (λ t. t ≡ u) k old (enabled k old)
    by_enable k None = tt
    by_enable k (Some t) = λ same less. absurd (omega (arith, less))

pub since_mark : (start : Start) (n k : ℕ) (z : List Event) (u : Subscription) → row start n z ≡ Some u → u.mark ≤ k →
    row start n (up_to k z) ≡ Some u
since_mark start n k z u is since =
    let found = earlier (λ t. t.mark) (λ t. t ≡ u) (mark_lasts u) start n k z
    (record { row = u; is = is; holds = refl; since = since }) in
    found.is ∙ ap (λ t. Some t) found.holds

-- ---- a row that is ready since the last event was made by an ENABLE_SUBSCRIPTION

abbrev MadeBy : ℕ → ℕ → Event → Option Subscription → Type 0
MadeBy n k e o = IfSome o (λ u. u.ready ≡ true → u.made ≡ k → e ≡ Enable n)

made_by : (n k c : ℕ) (e : Event) (old : Option Subscription) → IfSome old (IsNumbered k) →
    MadeBy n (k + 1) e (changed n (k + 1) c e old)
made_by n k c e old is = by_ways (MadeBy n (k + 1) e) n (k + 1) c e old (record {
  stays = λ not. long_ago old is;
  goes = λ ends. tt;
  subscribes = λ p f same. again p f old is;
  enables = λ same. now same old;
})
  where
    long_ago : (o : Option Subscription) → IfSome o (IsNumbered k) → MadeBy n (k + 1) e o
    long_ago None is = tt
    long_ago (Some u) is = λ ready now. absurd (omega (arith, now, is.made, is.mark))

    again : (p : ℕ) (f : Bool) (o : Option Subscription) → IfSome o (IsNumbered k) →
        MadeBy n (k + 1) e (Some (subscribed (k + 1) c p f o))
    again p f None is = λ ready now. absurd (false≢true ready)
    again p f (Some u) is = λ ready now. absurd (omega (arith, now, is.made, is.mark))

    now : e ≡ Enable n → (o : Option Subscription) → MadeBy n (k + 1) e (enabled (k + 1) o)
    now same None = tt
    now same (Some u) = λ ready now. same

pub is_enable : (start : Start) (n : ℕ) (e : Event) (z : List Event) (u : Subscription) →
    row start n (e ∷ z) ≡ Some u → u.ready ≡ true → u.made ≡ length z + 1 → e ≡ Enable n
is_enable start n e z u is =
    MatchOption-at_some _ (λ t. t.ready ≡ true → t.made ≡ length z + 1 → e ≡ Enable n) u is
    (made_by n (length z) (last_moment z) e (row start n z) (numbered_row start n z))

-- ---- the last SUBSCRIBE_SET came before now

abbrev IsCutBelow : ℕ → Option Subscription → Type 0
IsCutBelow moment o = IfSome o (λ u. u.cut ≤ moment)

cut_row : (start : Start) (n : ℕ) (z : List Event) → IsCutBelow (last_moment z) (row start n z)
cut_row start n [] = first (start.rows n)
  where
    first : (o : Option (ℕ × Bool)) → IsCutBelow 0 (begun o)
    first None = tt
    first (Some r) = omega arith
cut_row start n (e ∷ z) =
    by_ways (IsCutBelow (last_moment (e ∷ z))) n (length z + 1) (last_moment z) e (row start n z) (record {
      stays = λ not. old (row start n z) (cut_row start n z);
      goes = λ ends. tt;
      subscribes = λ p f is. now p f (row start n z);
      enables = λ is. same (row start n z) (cut_row start n z);
    })
  where
    more : last_moment z ≤ last_moment (e ∷ z)
    more = moment_more e (last_moment z)

    old : (o : Option Subscription) → IsCutBelow (last_moment z) o → IsCutBelow (last_moment (e ∷ z)) o
    old None below = tt
    old (Some u) below = omega (arith, below, more)

    now : (p : ℕ) (f : Bool) (o : Option Subscription) →
        (subscribed (length z + 1) (last_moment z) p f o).cut ≤ last_moment (e ∷ z)
    now p f None = more
    now p f (Some u) = more

    same : (o : Option Subscription) → IsCutBelow (last_moment z) o →
        IsCutBelow (last_moment (e ∷ z)) (enabled (length z + 1) o)
    same None below = tt
    same (Some u) below = omega (arith, below, more)

pub cut_below : (start : Start) (n : ℕ) (z : List Event) (u : Subscription) → row start n z ≡ Some u →
    u.cut ≤ last_moment z
cut_below start n z u is = MatchOption-at_some _ (λ t. t.cut ≤ last_moment z) u is (cut_row start n z)
