-- What becomes of moments as more transactions end.
use Rattle.std.proofs.Common.{◌≡◌, ℕ, ◌<◌, ◌≤◌, Bool, true, false, cond, List, [], ◌∷◌, ◌++◌, length, Some, None}
use Rattle.std.proofs.Common.{refl, sym, ap, ◌∙◌, arith, Option, inl, inr}
use Rattle.std.specs.Prelude.{◌==◌}
use Rattle.std.proofs.lemmas.Bool.{le-ltb, eqb-true, or_parts, false≢true, true≢false, cases_lt, ltb-true, lt-ltb}
use Rattle.std.proofs.lemmas.List.{length-append}
use Rattle.slon_model.specs.Rows.{member}
use Rattle.slon_model.specs.Snapshots.{Snapshot, sees}
use Rattle.slon_model.specs.Place.{Place, taken}
use Rattle.slon_laws.specs.Sound.{Sound}
use Rattle.image_laws.specs.Moments.{count_of, is_ended, IsTaken}
use Rattle.image_laws.proofs.Orders.{AreApart, order_in, order_before}
use Rattle.image_laws.proofs.Ticking.{ClockAt, seen_now}

-- a moment that is before as many transactions had ended is that of one of these
pub order_old : (more es : List ℕ) (x m : ℕ) → order_in (more ++ es) x ≡ Some m → m < length es →
    order_in es x ≡ Some m
order_old [] es x m is less = is
order_old (e ∷ more) es x m is less = by (x == e) is (λ later. order_old more es x m later less)
  where
    by : (b : Bool) → cond b (Some (length (more ++ es))) (order_in (more ++ es) x) ≡ Some m →
        (order_in (more ++ es) x ≡ Some m → order_in es x ≡ Some m) → order_in es x ≡ Some m
    by true here on =
        let last : length (more ++ es) ≡ m = cc in
        let long = length-append more es in
        absurd (omega (arith, last, long, less))
    by false later on = on later

-- what has not ended has no moment
pub none_ended : (es : List ℕ) (x : ℕ) → member x es ≡ false → order_in es x ≡ None
none_ended [] x none = refl
none_ended (e ∷ es) x none =
    let parts = or_parts (x == e) (member x es) none in
    ap (λ b. cond b (Some (length es)) (order_in es x)) parts.0 ∙ none_ended es x parts.1

behind_none : (more es : List ℕ) (x : ℕ) → member x (more ++ es) ≡ false → member x es ≡ false
behind_none [] es x none = none
behind_none (e ∷ more) es x none = behind_none more es x (or_parts (x == e) (member x (more ++ es)) none).1

-- those that end later change nothing for who sees fewer
ended_same : (more es : List ℕ) (x c : ℕ) → c ≤ length es → AreApart (more ++ es) →
    is_ended (order_in (more ++ es) x) c ≡ is_ended (order_in es x) c
ended_same [] es x c most apart = refl
ended_same (e ∷ more) es x c most apart = by (x == e) refl (ended_same more es x c most apart.1)
  where
    by : (b : Bool) → (x == e) ≡ b → is_ended (order_in (more ++ es) x) c ≡ is_ended (order_in es x) c →
        is_ended (cond b (Some (length (more ++ es))) (order_in (more ++ es) x)) c ≡ is_ended (order_in es x) c
    by true same rest =
        let long = length-append more es in
        le-ltb (length (more ++ es)) c (omega (arith, most, long))
        ∙ sym (ap (λ o. is_ended o c) (none_ended es x (behind_none more es x
        (ap (λ y. member y (more ++ es)) (eqb-true x e same) ∙ apart.0))))
    by false other rest = rest

-- so a snapshot was taken in the longer order too
pub taken_more : (more es : List ℕ) (k : Snapshot) → AreApart (more ++ es) →
    IsTaken (order_in es) (length es) k → IsTaken (order_in (more ++ es)) (length (more ++ es)) k
taken_more more es k apart is = record {
  past = let past = is.past in let long = length-append more es in omega (arith, past, long);
  sees = λ x. is.sees x ∙ sym (ended_same more es x (count_of k) is.past apart);
}

-- the snapshot of now sees all that have ended
pub count_is : (p : Place) (ended : List ℕ) → ClockAt p ended → count_of (taken p) ≡ length ended
count_is p ended c = let count = c.count in omega (arith, count)

pub taken_now : (p : Place) (ended : List ℕ) → Sound p → ClockAt p ended →
    IsTaken (order_in ended) (length ended) (taken p)
taken_now p ended s c = record {
  past = let count = count_is p ended c in omega (arith, count);
  sees = λ x.
      seen_now p s x ∙ sym (c.each x) ∙ sym (order_before [] ended x c.apart)
      ∙ ap (is_ended (order_in ended x)) (sym (count_is p ended c));
}

-- ---- moments of entries

-- what a snapshot sees has a moment, before as many as it sees had ended
pub seen_moment : (order : ℕ → Option ℕ) (now : ℕ) (k : Snapshot) (xid : ℕ) → IsTaken order now k → sees k xid ≡ true →
    (m : ℕ) × (order xid ≡ Some m) × (m < count_of k)
seen_moment order now k xid taken is = by (order xid) refl
  where
    by : (o : Option ℕ) → order xid ≡ o → (m : ℕ) × (order xid ≡ Some m) × (m < count_of k)
    by None none = absurd (false≢true (sym (ap (λ o. is_ended o (count_of k)) none) ∙ sym (taken.sees xid) ∙ is))
    by (Some m) some =
        (m, some, ltb-true m (count_of k) (sym (ap (λ o. is_ended o (count_of k)) some) ∙ sym (taken.sees xid) ∙ is))

pub unseen_moment : (order : ℕ → Option ℕ) (now : ℕ) (k : Snapshot) (xid m : ℕ) → IsTaken order now k →
    (order xid ≡ Some m) × (sees k xid ≡ false) → count_of k ≤ m
unseen_moment order now k xid m taken is = elim (cases_lt m (count_of k)) [
  | inl less ↦ absurd (true≢false (sym (taken.sees xid ∙ ap (λ o. is_ended o (count_of k)) is.0
      ∙ lt-ltb m (count_of k) less) ∙ is.1))
  | inr most ↦ most
]
