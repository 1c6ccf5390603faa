-- A subscription that is enabled stays ready until the receiver gives the set up; and it was ready since then.
use Rattle.std.proofs.Common.{◌≡◌, ◌⊎◌, inl, inr, ℕ, suc, ◌<◌, ◌≤◌, Bool, true, false, cond, List, [], ◌∷◌, ◌++◌}
use Rattle.std.proofs.Common.{length, Option, Some, None, refl, sym, ap, subst, ◌∙◌, arith}
use Rattle.std.specs.Prelude.{◌+◌, ◌==◌, ◌&&◌}
use Rattle.std.proofs.lemmas.Bool.{eqb-true, eq-eqb, false_from_ne_true, true≢false, cases_eq}
use Rattle.std.proofs.lemmas.List.{length-append}
use Rattle.node_rows.specs.declared.body.Body.{Body}
use Rattle.node_rows.specs.declared.body.Body.TheVariants.{EnableSubscription, SubscribeSet, UnsubscribeSet}
use Rattle.node_rows.specs.declared.body.Body.TheVariants.{DropSet as EndsSet}
use Rattle.net_laws.specs.Subscriptions.{DropSet, Enable, Event as Said, Subscribe, Subscription as Row, Unrelated}
use Rattle.net_laws.specs.Subscriptions.{Unsubscribe, enabled, last_moment, readied, row, subscribed, up_to}
use Rattle.net_laws.specs.Sound.{IsExpected}
use Rattle.net_laws.proofs.Prefixes.{up_to_new, up_to_old}
use Rattle.slon_model.specs.Snapshots.{Snapshot}
use Rattle.slon_model.specs.Events.{Event}
use Rattle.slon_model.proofs.Names.{one_found}
use Rattle.stream_laws.specs.Nodes.{IsAmong}
use Rattle.stream_laws.specs.Making.{AreEmitted as AreNumbered}
use Rattle.view_laws.specs.Known.{leaves}
use Rattle.net_relation.specs.Reading.{read, said, said_by, unfed}

-- the receiver has a subscription that was enabled by the event of this number
abbrev pub IsReady : ℕ → List Said → ℕ → Type 0
IsReady r z number = (u : Row) × (row unfed r z ≡ Some u) × (u.ready ≡ true) × (u.made ≡ number)

-- whether it has one
pub ready_or_not : (r : ℕ) (z : List Said) (number : ℕ) → IsReady r z number ⊎ (IsReady r z number → ⊥)
ready_or_not r z number = by (row unfed r z) refl
  where
    at : (u : Row) → row unfed r z ≡ Some u → (b : Bool) → u.ready ≡ b → (u.made ≡ number) ⊎ (u.made ≡ number → ⊥) →
        IsReady r z number ⊎ (IsReady r z number → ⊥)
    at u has true ready (inl made) = inl (u, has, ready, made)
    at u has true ready (inr other) =
        inr (λ is. other (ap (λ (v : Row). v.made) (one_found u is.0 (sym has ∙ is.1)) ∙ is.3))
    at u has false not_ready made =
        inr (λ is. true≢false (sym is.2 ∙ ap (λ (v : Row). v.ready) (one_found is.0 u (sym is.1 ∙ has)) ∙ not_ready))

    by : (o : Option Row) → row unfed r z ≡ o → IsReady r z number ⊎ (IsReady r z number → ⊥)
    by None none = inr (λ is. let never : None ≡ Some is.0 = sym none ∙ is.1 in absurd cc)
    by (Some u) has = at u has u.ready refl (cases_eq u.made number)

-- ---- it was ready before

before_one : (r number : ℕ) (e : Said) (z : List Said) → number ≤ length z → IsReady r (e ∷ z) number →
    IsReady r z number
before_one r number (Subscribe n p f) z less (u, has, ready, made) = by (r == n) (row unfed r z) refl has
  where
    made_of : Option Row → Row
    made_of o = subscribed (length z + 1) (last_moment z) p f o

    by : (b : Bool) (o : Option Row) → row unfed r z ≡ o → cond b (Some (made_of o)) o ≡ Some u → IsReady r z number
    by true None none is =
        absurd (true≢false (sym ready ∙ ap (λ (v : Row). v.ready) (sym (one_found (made_of None) u is))))
    by true (Some v) some is =
        let one = one_found (made_of (Some v)) u is in
        (v, some, ap (λ (w : Row). w.ready) one ∙ ready, ap (λ (w : Row). w.made) one ∙ made)
    by false o same is = (u, same ∙ is, ready, made)
before_one r number (Enable n) z less (u, has, ready, made) = by (r == n) (row unfed r z) refl has
  where
    by : (b : Bool) (o : Option Row) → row unfed r z ≡ o → cond b (enabled (length z + 1) o) o ≡ Some u →
        IsReady r z number
    by true None none is = absurd cc
    by true (Some v) some is =
        let one = ap (λ (w : Row). w.made) (one_found (readied (length z + 1) v) u is) in
        absurd (omega (arith, one, made, less))
    by false o same is = (u, same ∙ is, ready, made)
before_one r number (Unsubscribe n) z less (u, has, ready, made) = by (r == n) has
  where
    by : (b : Bool) → cond b None (row unfed r z) ≡ Some u → IsReady r z number
    by true is = absurd cc
    by false is = (u, is, ready, made)
before_one r number DropSet z less (u, has, ready, made) = absurd cc
before_one r number others z less ready = ready

-- as soon as the event that enabled it was there
pub ready_before : (r number : ℕ) (more z : List Said) → number ≤ length z → IsReady r (more ++ z) number →
    IsReady r z number
ready_before r number [] z less ready = ready
ready_before r number (e ∷ more) z less ready =
    ready_before r number more z less
    (before_one r number e (more ++ z) (let long = length-append more z in omega (arith, less, long)) ready)

-- ---- it stays ready

abbrev pub AllExpected : List Said → Type 0
AllExpected [] = Unit {0}
AllExpected (e ∷ z) = IsExpected unfed (e ∷ z) × AllExpected z

pub all_expected : (z : List Said) → ((a : ℕ) → a ≤ length z → IsExpected unfed (up_to a z)) → AllExpected z
all_expected [] each = tt
all_expected (e ∷ z) each = (
  subst (IsExpected unfed) (up_to_new (suc (length z)) e z (omega arith)) (each (suc (length z)) (omega arith)),
  all_expected z (λ a less. subst (IsExpected unfed) (up_to_old a e z less) (each a (omega (arith, less)))),
)

-- the receiver does not give the set up by it, nor does the set go
abbrev pub Tame : ℕ → Said → Type 0
Tame r (Unsubscribe n) = (r == n) ≡ false
Tame r DropSet = ⊥
Tame r others = Unit {0}

said_tame : (set r : ℕ) (k : Snapshot) (body : Body) → leaves set r body ≡ false → Tame r (said_by set k body)
said_tame set r k (SubscribeSet id provider receiver forward) stays =
    elim (id == set) as (λ b. Tame r (cond b (Subscribe receiver provider forward) Unrelated)) [
      | true ↦ tt
      | false ↦ tt
    ]
said_tame set r k (EnableSubscription id provider receiver forward era) stays =
    elim (id == set) as (λ b. Tame r (cond b (Enable receiver) Unrelated)) [
      | true ↦ tt
      | false ↦ tt
    ]
said_tame set r k (UnsubscribeSet id receiver) stays = by (id == set) stays
  where
    by : (b : Bool) → (b && receiver == r) ≡ false → Tame r (cond b (Unsubscribe receiver) Unrelated)
    by true other =
        false_from_ne_true (r == receiver) (λ same. true≢false (sym (eq-eqb receiver r
        (sym (eqb-true r receiver same))) ∙ other))
    by false other = tt
said_tame set r k (EndsSet id) stays = by (id == set) stays
  where
    by : (b : Bool) → b ≡ false → Tame r (cond b DropSet Unrelated)
    by true never = absurd (true≢false never)
    by false other = tt
said_tame set r k others stays = tt

ready_first : (r : ℕ) (before : List Said) → IsExpected unfed (Enable r ∷ before) →
    IsReady r (Enable r ∷ before) (length before + 1)
ready_first r before expected =
    let u = expected r before refl in (
      readied (length before + 1) u.0,
      ap (λ b. cond b (enabled (length before + 1) (row unfed r before)) (row unfed r before)) (eq-eqb r r refl)
          ∙ ap (enabled (length before + 1)) u.1.0,
      refl,
      refl,
    )

ready_more : (r number : ℕ) (e : Said) (z : List Said) → IsExpected unfed (e ∷ z) × Tame r e →
    IsReady r z number → IsReady r (e ∷ z) number
ready_more r number (Subscribe n p f) z is (u, has, ready, made) = by (r == n) refl
  where
    by : (b : Bool) → (r == n) ≡ b → (v : Row)
        × (cond b (Some (subscribed (length z + 1) (last_moment z) p f (row unfed r z))) (row unfed r z) ≡ Some v)
        × (v.ready ≡ true) × (v.made ≡ number)
    by true same = (
      subscribed (length z + 1) (last_moment z) p f (Some u),
      ap (λ o. Some (subscribed (length z + 1) (last_moment z) p f o)) has,
      ready,
      made,
    )
    by false other = (u, has, ready, made)
ready_more r number (Enable n) z is (u, has, ready, made) = by (r == n) refl
  where
    by : (b : Bool) → (r == n) ≡ b → (v : Row)
        × (cond b (enabled (length z + 1) (row unfed r z)) (row unfed r z) ≡ Some v)
        × (v.ready ≡ true) × (v.made ≡ number)
    by true same =
        let waits = is.0 n z refl in
        let one = one_found u waits.0 (sym has ∙ ap (λ i. row unfed i z) (eqb-true r n same) ∙ waits.1.0) in
        absurd (true≢false (sym ready ∙ ap (λ (v : Row). v.ready) one ∙ waits.1.1))
    by false other = (u, has, ready, made)
ready_more r number (Unsubscribe n) z is (u, has, ready, made) =
    (u, ap (λ b. cond b None (row unfed r z)) is.1 ∙ has, ready, made)
ready_more r number DropSet z is ready = absurd is.1
ready_more r number others z is ready = ready

-- An event by which the receiver gives the set up, behind the event of this number.
pub record LeftLater (set r number : ℕ) (es : List Event) : Type 0 where
  pub event : Event
  pub among : IsAmong event es
  pub leaves : leaves set r event.body ≡ true
  pub later : number < event.number

left_more : (set r number : ℕ) (f : Event) (es : List Event) → LeftLater set r number es →
    LeftLater set r number (f ∷ es)
left_more set r number f es l =
    record { event = l.event; among = inr l.among; leaves = l.leaves; later = l.later }

-- behind the event that enables it
pub ready_or_left : (set r own : ℕ) (later : List Event) (e : Event) (earlier : List Event) →
    AllExpected (read set (later ++ e ∷ earlier)) × AreNumbered own (later ++ e ∷ earlier) → said set e ≡ Enable r →
    IsReady r (read set (later ++ e ∷ earlier)) (length (read set earlier) + 1)
    ⊎ LeftLater set r e.number (later ++ e ∷ earlier)
ready_or_left set r own [] e earlier (expected, are) on =
    inl (subst (λ s. IsReady r (s ∷ read set earlier) (length (read set earlier) + 1)) (sym on)
    (ready_first r (read set earlier) (subst (λ s. IsExpected unfed (s ∷ read set earlier)) on expected.0)))
ready_or_left set r own (f ∷ later) e earlier (expected, are) on =
    by (ready_or_left set r own later e earlier (expected.1, are.3) on) (leaves set r f.body) refl
  where
    es : List Event
    es = later ++ e ∷ earlier

    number : ℕ
    number = length (read set earlier) + 1

    behind : (later : List Event) → AreNumbered own (later ++ e ∷ earlier) → e.number ≤ length (later ++ e ∷ earlier)
    behind [] are = let is = are.1 in omega (arith, is)
    behind (g ∷ later) are = let rest = behind later are.3 in omega (arith, rest)

    by : IsReady r (read set es) number ⊎ LeftLater set r e.number es → (b : Bool) → leaves set r f.body ≡ b →
        IsReady r (said set f ∷ read set es) number ⊎ LeftLater set r e.number (f ∷ es)
    by (inr left) b is = inr (left_more set r e.number f es left)
    by (inl ready) true left =
        inr (record {
          event = f;
          among = inl refl;
          leaves = left;
          later = let far = behind later are.3 in let is = are.1 in omega (arith, far, is);
        })
    by (inl ready) false stays =
        inl (ready_more r number (said set f) (read set es)
        (expected.0, said_tame set r f.taken f.body stays) ready)
