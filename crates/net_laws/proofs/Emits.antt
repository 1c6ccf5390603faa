-- The origin commits a transaction, or emits an event.
use Rattle.std.proofs.Common.{◌≡◌, ℕ, ◌+◌, ◌<◌, ◌≤◌, Bool, true, false, cond, ◌∷◌, length, Option, Some, None, refl}
use Rattle.std.proofs.Common.{sym, ap, subst, ◌∙◌, arith, inl, inr}
use Rattle.std.specs.Prelude.{◌==◌}
use Rattle.std.specs.Option.{IfSome}
use Rattle.std.proofs.lemmas.Bool.{ne_eqb, cases_lt, false≢true, cond-false}
use Rattle.std.proofs.lemmas.Option.{same_Some, MatchOption-at_some}
use Rattle.net_laws.specs.Subscriptions.{Subscription, Event, Sync, Subscribe, Enable, Unsubscribe, DropSet, MoveSet}
use Rattle.net_laws.specs.Subscriptions.{last_moment, moment_with, is_moved, is_over, subscribed, enabled, row}
use Rattle.net_laws.specs.Net.{Node, IsViewed, Net, owned, IsReady, MaySubscribe, MayEmit, emitted, Ends}
use Rattle.net_laws.specs.Sound.{Sound, Holds, Provides, IsForwarder, IsBased, AllProvided, IsLast, IsFrozen}
use Rattle.net_laws.specs.Sound.{IsExpected, IsSpared}
use Rattle.net_laws.proofs.Options.{if_some}
use Rattle.net_laws.proofs.Prefixes.{up_to_old, up_to_new, up_to_whole, grown, moment_more, moved_up_to}
use Rattle.net_laws.proofs.Prefixes.{moved_over}
use Rattle.net_laws.proofs.Rows.{Ways, by_ways, IsNumbered, numbered}

-- ---- a transaction ends

sound_timed : (w : Net) (full : ℕ) → full ≤ w.now + 1 → (is_moved w.stream ≡ true → full ≡ w.full) → Sound w →
    Sound (record w { now = w.now + 1; full = full })
sound_timed w full most same s = record {
  bound = omega (arith, s.bound);
  filled = most;
  closed = λ is. let old = s.closed is in let one = same is in omega (arith, old, one);
  behind = s.behind;
  holds = λ n. record {
    covers = (s.holds n).covers;
    within = λ v is. let old = (s.holds n).within v is in omega (arith, old);
    based = (s.holds n).based;
    came = (s.holds n).came;
    rowed = (s.holds n).rowed;
    cut = (s.holds n).cut;
    logged = (s.holds n).logged;
    fresh = (s.holds n).fresh;
  };
  active = s.active;
  marked = s.marked;
  provided = s.provided;
  moved = λ a less before is.
      let old : w.full ≤ last_moment before = s.moved a less before is in
      let one = same (moved_up_to a w.stream (ap is_moved is)) in
      omega (arith, old, one);
  frozen = s.frozen;
  expected = s.expected;
  swept = s.swept;
  spared = s.spared;
}

pub sound_committed : (w : Net) → is_over w.stream ≡ false → Sound w →
    Sound (record w { now = w.now + 1; full = w.now + 1 })
sound_committed w here s = sound_timed w (w.now + 1) (omega arith)
    (λ is. absurd (false≢true (sym here ∙ moved_over w.stream is))) s

pub sound_ticked : (w : Net) → Sound w → Sound (record w { now = w.now + 1 })
sound_ticked w s = sound_timed w w.full (omega (arith, s.filled)) (λ is. refl) s

-- ---- moments

bound_with : (w : Net) (e : Event) → MayEmit w e → last_moment w.stream ≤ w.now →
    moment_with e (last_moment w.stream) ≤ w.now
bound_with w (Sync m) may old = omega (arith, may, old)
bound_with w others may old = old

closed_with : (w : Net) (e : Event) → MayEmit w e → w.full ≤ w.now →
    (is_moved w.stream ≡ true → w.full ≤ last_moment w.stream) → is_moved (e ∷ w.stream) ≡ true →
    w.full ≤ moment_with e (last_moment w.stream)
closed_with w (Sync m) may filled old is = let before = old is in omega (arith, before)
closed_with w MoveSet may filled old is = omega (arith, may.1, filled)
closed_with w others may filled old is = old is

-- ---- rows

-- the row of n after the event
abbrev next_row : Net → Event → ℕ → Option Subscription
next_row w e n = row w.start n (e ∷ w.stream)

by_event : (P : Option Subscription → Type 0) (w : Net) (e : Event) (n : ℕ) →
    Ways P n (length w.stream + 1) (last_moment w.stream) e (owned w n) → P (next_row w e n)
by_event P w e n ways = by_ways P n (length w.stream + 1) (last_moment w.stream) e (owned w n) ways

-- a row after SUBSCRIBE_SET as the next event
abbrev resubscribed : Net → ℕ → Bool → Option Subscription → Subscription
resubscribed w p f o = subscribed (length w.stream + 1) (last_moment w.stream) p f o

abbrev IsActive : Node → Subscription → Type 0
IsActive node u = u.ready ≡ true → u.made ≤ node.progress → IsViewed node

active_with : (w : Net) (e : Event) → Sound w → (n : ℕ) → (w.nodes n).gave_up ≡ false →
    IfSome (next_row w e n) (IsActive (w.nodes n))
active_with w e s n kept = by_event (λ o. IfSome o (IsActive (w.nodes n))) w e n (record {
  stays = λ not. old;
  goes = λ ends. tt;
  subscribes = λ p f is. again p f (owned w n) old;
  enables = λ is. late (owned w n);
})
  where
    old : IfSome (owned w n) (IsActive (w.nodes n))
    old = if_some (IsActive (w.nodes n)) (owned w n) (λ u is. s.active n u kept is)

    again : (p : ℕ) (f : Bool) (o : Option Subscription) → IfSome o (IsActive (w.nodes n)) →
        IsActive (w.nodes n) (resubscribed w p f o)
    again p f None is = λ ready made. absurd (false≢true ready)
    again p f (Some u) is = is

    late : (o : Option Subscription) → IfSome (enabled (length w.stream + 1) o) (IsActive (w.nodes n))
    late None = tt
    late (Some u) = λ ready made. absurd (omega (arith, made, s.behind n))

abbrev IsMarked : Node → Subscription → Type 0
IsMarked node u = u.made < u.mark → u.made ≤ node.progress

marked_with : (w : Net) (e : Event) → MayEmit w e → Sound w → (n : ℕ) →
    IfSome (next_row w e n) (IsMarked (w.nodes n))
marked_with w e may s n = by_event (λ o. IfSome o (IsMarked (w.nodes n))) w e n (record {
  stays = λ not. if_some (IsMarked (w.nodes n)) (owned w n) (λ u is. s.marked n u is);
  goes = λ ends. tt;
  subscribes = λ p f is. again p f (subst (MayEmit w) is may) (owned w n) refl;
  enables = λ is. new (owned w n);
})
  where
    again : (p : ℕ) (f : Bool) → MaySubscribe w n p f → (o : Option Subscription) → owned w n ≡ o →
        IsMarked (w.nodes n) (resubscribed w p f o)
    again p f can None is = λ less. absurd (omega (arith, less))
    again p f can (Some u) is = λ less.
        let settled = can.settled u is in
        let order = (numbered w.start n w.stream u is).made in
        omega (arith, settled, order)

    new : (o : Option Subscription) → IfSome (enabled (length w.stream + 1) o) (IsMarked (w.nodes n))
    new None = tt
    new (Some u) = λ less. absurd (omega (arith, less))

-- ---- providers

-- one that provides still forwards
abbrev Forwards : Net → ℕ → Option Subscription → Type 0
Forwards w p o = (t : Subscription) × ((o ≡ Some t) × IsForwarder t (w.nodes p))

-- a row at the origin has p as its provider
record IsProviderNow (w : Net) (p : ℕ) : Type 0 where
  receiver : ℕ
  own : Subscription
  has : owned w receiver ≡ Some own
  provider : own.provider ≡ p

still_forwards : (w : Net) (e : Event) → MayEmit w e → (e ≡ DropSet → ⊥) → (p : ℕ) → IsProviderNow w p →
    Forwards w p (owned w p) → Forwards w p (next_row w e p)
still_forwards w e may not p x old = by_event (Forwards w p) w e p (record {
  stays = λ n. old;
  goes = λ ends. absurd (goes e may not ends);
  subscribes = λ g f is. again g f (subst (MayEmit w) is may);
  enables = λ is. absurd (pending (subst (MayEmit w) is may));
})
  where
    t : Subscription
    t = old.0

    goes : (d : Event) → MayEmit w d → (d ≡ DropSet → ⊥) → Ends p d → ⊥
    goes (Unsubscribe q) can other ends = can.1 x.receiver x.own x.has (x.provider ∙ sym ends)
    goes DropSet can other ends = other refl
    goes others can other ends = ends

    again : (g : ℕ) (f : Bool) → MaySubscribe w p g f → Forwards w p (Some (resubscribed w g f (owned w p)))
    again g f can = subst (λ o. Forwards w p (Some (resubscribed w g f o))) (sym old.1.0) (
      resubscribed w g f (Some t),
      (
        refl,
        record {
          forward = elim (can.keeps t old.1.0) [
            | inl on ↦ on
            | inr none ↦ absurd (none x.receiver x.own x.has x.provider)
          ];
          ready = old.1.1.ready;
          turned = subst (λ b. cond b t.turned (length w.stream + 1) ≤ (w.nodes p).progress) (sym old.1.1.forward)
              old.1.1.turned;
        },
      ),
    )

    pending : MayEmit w (Enable p) → ⊥
    pending can =
        let rows = same_Some can.1.0 t (sym can.1.1.row ∙ old.1.0) in
        false≢true (sym can.1.1.pending ∙ (ap (λ (y : Subscription). y.ready) rows ∙ old.1.1.ready))

-- what a provider owes by all events, with one more
provides_with : (w : Net) (e : Event) → Sound w → (p cut : ℕ) → Forwards w p (next_row w e p) →
    ((w.nodes p).gave_up ≡ false → IsBased (w.nodes p) cut) → Provides w.start (e ∷ w.stream) p cut (w.nodes p)
provides_with w e s p cut forwards based = record {
  forwards = forwards;
  serves = λ kept before. based kept;
  served = λ kept past m before is. absurd (let behind = s.behind p in omega (arith, past, behind));
}

again_provides : (w : Net) (e : Event) → MayEmit w e → (e ≡ DropSet → ⊥) → Sound w → (p : ℕ) (x : IsProviderNow w p) →
    (p ≡ w.origin → ⊥) → Provides w.start (e ∷ w.stream) p x.own.cut (w.nodes p)
again_provides w e may not s p x other = provides_with w e s p x.own.cut (still_forwards w e may not p x now.forwards)
    (λ kept. now.serves kept (s.behind p))
  where
    now : Provides w.start w.stream p x.own.cut (w.nodes p)
    now =
        let all = subst (λ z. AllProvided w.start w.origin w.nodes z) (up_to_whole w.stream)
        (s.provided (length w.stream) (omega arith)) in
        subst (λ j. Provides w.start w.stream j x.own.cut (w.nodes j)) x.provider
        (all x.receiver x.own x.has (λ is. other (sym x.provider ∙ is)))

-- a new provider
new_provides : (w : Net) (r p : ℕ) (f : Bool) → MaySubscribe w r p f → Sound w → (p ≡ w.origin → ⊥) →
    Provides w.start (Subscribe r p f ∷ w.stream) p (last_moment w.stream) (w.nodes p)
new_provides w r p f may s other = elim may.provider [
  | inl is ↦ absurd (other is)
  | inr ready ↦ from ready.0 ready.1
]
  where
    from : (u : Subscription) → IsReady w p u →
        Provides w.start (Subscribe r p f ∷ w.stream) p (last_moment w.stream) (w.nodes p)
    from u is = provides_with w (Subscribe r p f) s p (last_moment w.stream) (u, (same, forwarder)) based
      where
        order : IsNumbered (length w.stream) u
        order = numbered w.start p w.stream u is.row

        same : next_row w (Subscribe r p f) p ≡ Some u
        same =
            cond-false (p == r) (Some (resubscribed w p f (owned w p))) (owned w p) (ne_eqb p r may.apart) ∙ is.row

        forwarder : IsForwarder u (w.nodes p)
        forwarder = record {
          forward = is.forward;
          ready = is.ready;
          turned = omega (arith, order.turned, is.confirmed);
        }

        based : (w.nodes p).gave_up ≡ false → IsBased (w.nodes p) (last_moment w.stream)
        based kept =
            let seen = s.active p u kept is.row is.ready (omega (arith, order.made, is.confirmed)) in
            let base = (s.holds p).based seen.0 seen.1 in
            let now = (s.holds p).within seen.0 seen.1 in
            record { view = seen.0; is = seen.1; base = omega (arith, base, now, may.synced) }

provided_with : (w : Net) (e : Event) → MayEmit w e → Sound w → AllProvided w.start w.origin w.nodes (e ∷ w.stream)
provided_with w e may s r u is = MatchOption-at_some _ IsProvided u is
    (by_event (λ o. IfSome o IsProvided) w e r (record {
      stays = λ not. if_some IsProvided (owned w r) (λ t has other. again t not has other);
      goes = λ ends. tt;
      subscribes = λ p f same. first p f same (owned w r);
      enables = λ same. enables same (owned w r) refl;
    }))
  where
    IsProvided : Subscription → Type 0
    IsProvided t =
        (t.provider ≡ w.origin → ⊥) → Provides w.start (e ∷ w.stream) t.provider t.cut (w.nodes t.provider)

    again : (t : Subscription) → (e ≡ DropSet → ⊥) → owned w r ≡ Some t → IsProvided t
    again t not has other = again_provides w e may not s t.provider
        (record { receiver = r; own = t; has = has; provider = refl }) other

    first : (p : ℕ) (f : Bool) → e ≡ Subscribe r p f → (o : Option Subscription) → IsProvided (resubscribed w p f o)
    first p f same None other = subst (λ d. Provides w.start (d ∷ w.stream) p (last_moment w.stream) (w.nodes p))
        (sym same) (new_provides w r p f (subst (MayEmit w) same may) s other)
    first p f same (Some t) other = subst (λ d. Provides w.start (d ∷ w.stream) p (last_moment w.stream) (w.nodes p))
        (sym same) (new_provides w r p f (subst (MayEmit w) same may) s other)

    enables : e ≡ Enable r → (o : Option Subscription) → owned w r ≡ o →
        IfSome (enabled (length w.stream + 1) o) IsProvided
    enables same None has = tt
    enables same (Some t) has = again t (λ drop. absurd cc) has

-- ---- the rest

last_with : (w : Net) (e : Event) → MayEmit w e → w.full ≤ w.now → IsLast w.full (e ∷ w.stream)
last_with w e may filled before is =
    let one : e ≡ MoveSet = cc in
    let rest : w.stream ≡ before = cc in
    let can = subst (MayEmit w) one may in
    subst (λ z. w.full ≤ last_moment z) rest (omega (arith, can.1, filled))

-- once the set has gone no event changes a row
same_over : (w : Net) (e : Event) (n : ℕ) → MayEmit w e → is_over w.stream ≡ true → next_row w e n ≡ owned w n
same_over w (Subscribe r p f) n may over = absurd (false≢true (sym may.here ∙ over))
same_over w (Enable r) n may over = absurd (false≢true (sym may.0 ∙ over))
same_over w (Unsubscribe r) n may over = absurd (false≢true (sym may.0 ∙ over))
same_over w DropSet n may over = absurd (false≢true (sym may ∙ over))
same_over w others n may over = refl

frozen_with : (w : Net) (e : Event) → MayEmit w e → Sound w → IsFrozen w.start (e ∷ w.stream)
frozen_with w e may s n a before is = elim (cases_lt (length w.stream) a) [
  | inl new ↦ ap (row w.start n) (sym (up_to_new a e w.stream new))
  | inr old ↦
      let there = sym (up_to_old a e w.stream old) ∙ is in
      let now = subst (λ z. IsFrozen w.start z) (up_to_whole w.stream) (s.frozen (length w.stream) (omega arith)) in
      same_over w e n may (moved_over w.stream (moved_up_to a w.stream (ap is_moved there))) ∙
      (now n a before there ∙ ap (row w.start n) (sym (up_to_old a e w.stream old)))
]

expected_with : (w : Net) (e : Event) → MayEmit w e → IsExpected w.start (e ∷ w.stream)
expected_with w e may r before is =
    let one : e ≡ Enable r = cc in
    let rest : w.stream ≡ before = cc in
    let can = subst (MayEmit w) one may in
    (can.1.0, (ap (row w.start r) (sym rest) ∙ can.1.1.row, can.1.1.pending))

spared_with : (w : Net) (e : Event) (moment r : ℕ) → moment ≤ last_moment w.stream →
    (w.nodes r).progress ≤ length w.stream → IsSpared w.start w.stream moment r (w.nodes r) →
    IsSpared w.start (e ∷ w.stream) moment r (w.nodes r)
spared_with w e moment r all behind (inl low) =
    inl (subst (λ z. moment ≤ last_moment z) (sym (up_to_old (w.nodes r).progress e w.stream behind)) low)
spared_with w e moment r all behind (inr later) = inr (
  later.0,
  λ a u past within is.
      elim (cases_lt (length w.stream) a) [
        | inl new ↦
            let more = moment_more e (last_moment w.stream) in
            subst (λ z. moment ≤ last_moment z) (sym (up_to_new a e w.stream new)) (omega (arith, all, more))
        | inr old ↦
            let here = ap (row w.start r) (sym (up_to_old a e w.stream old)) ∙ is in
            subst (λ z. moment ≤ last_moment z) (sym (up_to_old a e w.stream old)) (later.1 a u past old here)
      ],
)

pub sound_emitted : (w : Net) (e : Event) → MayEmit w e → Sound w → Sound (emitted e w)
sound_emitted w e may s = record {
  bound = bound_with w e may s.bound;
  filled = s.filled;
  closed = closed_with w e may s.filled s.closed;
  behind = λ n. let old = s.behind n in omega (arith, old);
  holds = λ n. subst (λ z. Holds w.start w.now z n (w.nodes n))
      (sym (up_to_old (w.nodes n).progress e w.stream (s.behind n))) (s.holds n);
  active = λ n u kept is. MatchOption-at_some _ (IsActive (w.nodes n)) u is (active_with w e s n kept);
  marked = λ n u is. MatchOption-at_some _ (IsMarked (w.nodes n)) u is (marked_with w e may s n);
  provided = λ a less. grown (AllProvided w.start w.origin w.nodes) e w.stream s.provided (provided_with w e may s) a
      (omega (arith, less));
  moved = λ a less. grown (IsLast w.full) e w.stream s.moved (last_with w e may s.filled) a (omega (arith, less));
  frozen = λ a less. grown (IsFrozen w.start) e w.stream s.frozen (frozen_with w e may s) a (omega (arith, less));
  expected = λ a less. grown (IsExpected w.start) e w.stream s.expected (expected_with w e may) a (omega (arith, less));
  swept = λ p.
      let old = s.swept p in
      let more = moment_more e (last_moment w.stream) in
      omega (arith, old, more);
  spared = λ p r other known.
      spared_with w e (w.nodes p).cleaned r (s.swept p) (s.behind r) (s.spared p r other known);
}
