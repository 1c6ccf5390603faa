-- When one snapshot sees all that another sees.
use Rattle.std.proofs.Common.{◌≡◌, ℕ, ◌+◌, ◌<◌, ◌≤◌, Bool, true, false, cond, not, ◌==◌, ◌||◌, ◌&&◌, ◌⊎◌, inl, inr, max}
use Rattle.std.proofs.Common.{nat_lt, IsTrue, ◌↔◌, List, [], ◌∷◌, drop, get_or, length, refl, sym, ap, ◌∙◌, subst}
use Rattle.std.proofs.Common.{arith, zero, suc, Result, Ok, Err}
use Rattle.std.specs.Ordering.{nat_cmp}
use Rattle.std.specs.Result.{is_ok}
use Rattle.std.specs.List.Sorted.{IsBinarySearchResult}
use Rattle.std.proofs.lemmas.List.Sorted.{searched}
use Rattle.std.proofs.lemmas.Bool.{false≢true, eq-eqb}
use Rattle.std.proofs.lemmas.List.{drop_all}
use Rattle.std.specs.List.{AllByRecursion}
use borrow.Author.Tests.{eqb-true, ltb-true, ltb-false}
use Rattle.slon_model.specs.Rows.{member}
use Rattle.slon_model.specs.Snapshots.{Snapshot, Rising, sees, Covers, covers, covers_below}

not_below : (x y : ℕ) → y ≤ x → nat_lt x y ≡ false
not_below x y h = by (nat_lt x y) refl
  where
    by : (b : Bool) → nat_lt x y ≡ b → b ≡ false
    by true e = let at = ltb-true x y e in absurd (omega (arith, at, h))
    by false e = refl

-- no id from xmin and xmax on is seen
pub past : (s : Snapshot) (x : ℕ) → s.xmin ≤ x → s.xmax ≤ x → sees s x ≡ false
past s x low high =
    ap (λ b. cond b true (cond (nat_lt x s.xmax) (not (member x s.running)) false)) (not_below x s.xmin low)
    ∙ ap (λ b. cond b (not (member x s.running)) false) (not_below x s.xmax high)

-- ---- a search in a list that rises

all_at : (x : ℕ) (xs : List ℕ) (j : ℕ) → AllByRecursion (λ z. x < z) xs → j < length xs → x < get_or xs j 0
all_at x [] j a h = absurd (omega (arith, h))
all_at x (y ∷ ys) zero a h = a.0
all_at x (y ∷ ys) (suc j) a h = all_at x ys j a.1 (omega (arith, h))

rising_at : (xs : List ℕ) (i j : ℕ) → Rising xs → i ≤ j → j < length xs → get_or xs i 0 ≤ get_or xs j 0
rising_at [] i j r le h = absurd (omega (arith, h))
rising_at (x ∷ xs) zero zero r le h = omega arith
rising_at (x ∷ xs) zero (suc j) r le h = let at = all_at x xs j r.0 (omega (arith, h)) in omega (arith, at)
rising_at (x ∷ xs) (suc i) zero r le h = absurd (omega (arith, le))
rising_at (x ∷ xs) (suc i) (suc j) r le h = rising_at xs i j r.1 (omega (arith, le)) (omega (arith, h))

or_true : (b : Bool) → (b || true) ≡ true
or_true true = refl
or_true false = refl

pub member_at : (x : ℕ) (xs : List ℕ) (i : ℕ) → i < length xs → get_or xs i 0 ≡ x → member x xs ≡ true
member_at x [] i h e = absurd (omega (arith, h))
member_at x (y ∷ ys) zero h e = ap (λ b. b || member x ys) (eq-eqb x y (sym e))
member_at x (y ∷ ys) (suc i) h e = ap (λ b. (x == y) || b) (member_at x ys i (omega (arith, h)) e) ∙ or_true (x == y)

-- the index of a member
place_of : (x : ℕ) (xs : List ℕ) → member x xs ≡ true → (i : ℕ) × (i < length xs) × (get_or xs i 0 ≡ x)
place_of x [] m = absurd (false≢true m)
place_of x (y ∷ ys) m = by (x == y) refl m (place_of x ys)
  where
    by : (b : Bool) → (x == y) ≡ b → (b || member x ys) ≡ true → (member x ys ≡ true → (i : ℕ) × (i < length ys)
        × (get_or ys i 0 ≡ x)) → (i : ℕ) × (i < length (y ∷ ys)) × (get_or (y ∷ ys) i 0 ≡ x)
    by true e m rest = (0, omega arith, sym (eqb-true x y e))
    by false e m rest = let p = rest m in let at = p.1 in (suc p.0, omega (arith, at), p.2)

pub found_by_search : (xs : List ℕ) (x : ℕ) (r : Result ℕ ℕ) → Rising xs →
    IsBinarySearchResult (λ y. nat_cmp y x) xs r → is_ok r ≡ member x xs
found_by_search xs x (Ok i) rising h = let p = searched xs x (Ok i) h (λ i j le w. rising_at xs i j rising le w) in
    sym (member_at x xs i p.0 p.1)
found_by_search xs x (Err i) rising h =
    let p = searched xs x (Err i) h (λ i j le w. rising_at xs i j rising le w) in
    by (member x xs) refl p.1 p.2
  where
    no_place : (k : ℕ) → k < length xs → get_or xs k 0 ≡ x → ((k : ℕ) → k < i → get_or xs k 0 < x) →
        ((k : ℕ) → i ≤ k → k < length xs → x < get_or xs k 0) → (b : Bool) → nat_lt k i ≡ b → ⊥
    no_place k w e low high true t = let at = low k (ltb-true k i t) in omega (arith, at, e)
    no_place k w e low high false t = let at = high k (ltb-false k i t) w in omega (arith, at, e)

    by : (b : Bool) → member x xs ≡ b → ((k : ℕ) → k < i → get_or xs k 0 < x) → ((k : ℕ) → i ≤ k → k < length xs →
        x < get_or xs k 0) → false ≡ b
    by false e low high = refl
    by true e low high = let q = place_of x xs e in absurd (no_place q.0 q.1 q.2 low high (nat_lt q.0 i) refl)

-- ---- the two searches for an id that only the other sees

pub not_covered : (a b : Snapshot) (x : ℕ) → sees b x ≡ true → sees a x ≡ false → IsTrue false ↔ Covers a b
not_covered a b x seen unseen = (λ e. absurd (false≢true e), λ covers. absurd (false≢true (sym unseen ∙ covers x seen)))

-- the other sees an id that this one does not see
abbrev pub tells : Snapshot → Snapshot → ℕ → Bool
tells a b x = not (sees a x) && sees b x

pub told : (a b : Snapshot) (x : ℕ) → tells a b x ≡ true → IsTrue false ↔ Covers a b
told a b x is = by (sees a x) refl is
  where
    by : (t : Bool) → sees a x ≡ t → (not t && sees b x) ≡ true → IsTrue false ↔ Covers a b
    by true seen is = absurd (false≢true is)
    by false unseen is = not_covered a b x is unseen

-- the running ids that tell the two apart are still to come
abbrev pub Ahead : Snapshot → Snapshot → List ℕ → Type 0
Ahead a b rest = (x : ℕ) → member x a.running ≡ true → tells a b x ≡ true → member x rest ≡ true

-- no running id tells the two apart
abbrev pub TellsNone : Snapshot → Snapshot → Type 0
TellsNone a b = (x : ℕ) → member x a.running ≡ true → tells a b x ≡ true → ⊥

pub none_ahead : (a b : Snapshot) (xs : List ℕ) (i : ℕ) → length xs ≤ i → Ahead a b (drop i xs) → TellsNone a b
none_ahead a b xs i end ahead x m s = false≢true (sym (ap (member x) (drop_all i xs end)) ∙ ahead x m s)

-- from the first on, up to the last, the other sees none
abbrev pub Unseen : Snapshot → ℕ → ℕ → Type 0
Unseen b first last = (x : ℕ) → first ≤ x → x < last → sees b x ≡ false

pub covered : (a b : Snapshot) (first last : ℕ) → first ≡ max a.xmin a.xmax → last ≡ max b.xmin b.xmax →
    TellsNone a b → Unseen b first last → Covers a b
covered a b first last first_is last_is running later x s = by (sees a x) refl
  where
    outside : (u v : Bool) → nat_lt x a.xmin ≡ u → nat_lt x a.xmax ≡ v → sees a x ≡ false → member x a.running ≡ true
        ⊎ (first ≤ x)
    outside true v low high unseen =
        absurd (false≢true (sym unseen ∙ ap (λ t. cond t true (cond (nat_lt x a.xmax) (not (member x a.running)) false))
        low))
    outside false true low high unseen = inl (listed (member x a.running) refl
        (sym (ap (λ t. cond t true (cond (nat_lt x a.xmax) (not (member x a.running)) false)) low
        ∙ ap (λ t. cond t (not (member x a.running)) false) high) ∙ unseen))
      where
        listed : (t : Bool) → member x a.running ≡ t → not t ≡ false → member x a.running ≡ true
        listed true is e = is
        listed false is e = absurd (false≢true (sym e))
    outside false false low high unseen = inr (omega (arith, first_is, ltb-false x a.xmin low, ltb-false x a.xmax high))

    seen_later : (t : Bool) → nat_lt x last ≡ t → first ≤ x → ⊥
    seen_later true e le = false≢true (sym (later x le (ltb-true x last e)) ∙ s)
    seen_later false e le =
        let at = ltb-false x last e in
        false≢true (sym (past b x (omega (arith, at, last_is)) (omega (arith, at, last_is))) ∙ s)

    by : (t : Bool) → sees a x ≡ t → t ≡ true
    by true is = refl
    by false unseen = absurd (elim (outside (nat_lt x a.xmin) (nat_lt x a.xmax) refl refl unseen) [
      | inl m ↦ running x m (ap (λ t. not t && sees b x) unseen ∙ s)
      | inr le ↦ seen_later (nat_lt x last) refl le
    ])

-- ---- the same as a test

below_sound : (a b : Snapshot) (n : ℕ) → covers_below a b n ≡ true → (x : ℕ) → x < n → sees b x ≡ true →
    sees a x ≡ true
below_sound a b zero is x less s = absurd (omega (arith, less))
below_sound a b (suc n) is x less s = by (below_sound a b n) (x == n) refl
  where
    both : (u v : Bool) → (u && v) ≡ true → (u ≡ true) × (v ≡ true)
    both true v is = (refl, is)
    both false v is = absurd (false≢true is)

    here : (u : Bool) → sees a n ≡ u → (not (sees b n) || u) ≡ true → sees b n ≡ true → u ≡ true
    here true at is seen = refl
    here false at is seen = absurd (false≢true (sym (ap (λ t. not t || false) seen) ∙ is))

    by : (covers_below a b n ≡ true → (x : ℕ) → x < n → sees b x ≡ true → sees a x ≡ true) → (t : Bool) →
        (x == n) ≡ t → sees a x ≡ true
    by more true same =
        let one = eqb-true x n same in
        subst (λ y. sees a y ≡ true) (sym one)
        (here (sees a n) refl (both _ _ is).0 (subst (λ y. sees b y ≡ true) one s))
    by more false other =
        more (both _ _ is).1 x (let apart : x ≡ n → ⊥ = λ same. false≢true (sym other ∙ eq-eqb x n same) in
        omega (arith, less, apart)) s

below_whole : (a b : Snapshot) (n : ℕ) → Covers a b → covers_below a b n ≡ true
below_whole a b zero all = refl
below_whole a b (suc n) all = by (sees b n) refl ∙ below_whole a b n all
  where
    by : (t : Bool) → sees b n ≡ t → ((not (sees b n) || sees a n) && covers_below a b n) ≡ covers_below a b n
    by true s =
        ap (λ u. (not (sees b n) || u) && covers_below a b n) (all n s)
        ∙ ap (λ u. (not u || true) && covers_below a b n) s
    by false s = ap (λ u. (not u || sees a n) && covers_below a b n) s

-- what is found of two snapshots is the test of the model
pub covers_is : (a b : Snapshot) (r : Bool) → IsTrue r ↔ Covers a b → r ≡ covers a b
covers_is a b true is = sym (below_whole a b (b.xmin + b.xmax) (is.0 refl))
covers_is a b false is = by (covers a b) refl
  where
    within : (x : ℕ) → sees b x ≡ true → (t : Bool) → nat_lt x (b.xmin + b.xmax) ≡ t → x < b.xmin + b.xmax
    within x s true less = ltb-true x (b.xmin + b.xmax) less
    within x s false over =
        let at = ltb-false x (b.xmin + b.xmax) over in
        absurd (false≢true (sym (past b x (omega (arith, at)) (omega (arith, at))) ∙ s))

    by : (t : Bool) → covers a b ≡ t → false ≡ t
    by false none = refl
    by true all = is.1 (λ x s. below_sound a b (b.xmin + b.xmax) all x (within x s (nat_lt x (b.xmin + b.xmax)) refl) s)
