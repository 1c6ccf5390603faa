-- What is found in lists and in maps from ids that grow.
use Rattle.std.proofs.Common.{◌≡◌, ◌⊎◌, inl, inr, ℕ, Bool, true, false, cond, List, [], ◌∷◌, map, Some, None}
use Rattle.std.proofs.Common.{refl, ap, subst, ◌∙◌, is_some}
use Rattle.std.specs.Prelude.{◌==◌, ◌||◌, nat_lt, find, option_map}
use Rattle.std.specs.List.{AllByRecursion, list_any}
use Rattle.std.proofs.lemmas.Bool.{false≢true, true≢false, or_cases, or_right}
use Rattle.slon_model.specs.Maps.{Map, entry_at, with_entry}

-- ---- lists

pub find_agrees : {X : Type 0} (p r : X → Bool) (xs : List X) → AllByRecursion (λ x. p x ≡ r x) xs →
    find p xs ≡ find r xs
find_agrees p r [] agree = refl
find_agrees p r (x ∷ xs) agree =
    ap (λ b. cond b (Some x) (find p xs)) agree.0 ∙ ap (cond (r x) (Some x)) (find_agrees p r xs agree.1)

-- a change of each that the test does not tell
pub find_mapped : {X : Type 0} (test : X → Bool) (f : X → X) → ((x : X) → test (f x) ≡ test x) → (xs : List X) →
    find test (map f xs) ≡ option_map f (find test xs)
find_mapped test f same [] = refl
find_mapped test f same (x ∷ xs) =
    ap (λ b. cond b (Some (f x)) (find test (map f xs))) (same x) ∙ by (find_mapped test f same xs) (test x)
  where
    by : find test (map f xs) ≡ option_map f (find test xs) → (b : Bool) →
        cond b (Some (f x)) (find test (map f xs)) ≡ option_map f (cond b (Some x) (find test xs))
    by later true = refl
    by later false = later

-- what is found passes the test, and has what all have
pub find_has : {X : Type 0} (P : X → Type 0) (test : X → Bool) (x : X) (xs : List X) → AllByRecursion P xs →
    find test xs ≡ Some x → P x × (test x ≡ true)
find_has P test x [] all found = absurd cc
find_has P test x (y ∷ ys) all found = by (λ later. find_has P test x ys all.1 later) (test y) refl found
  where
    by : (find test ys ≡ Some x → P x × (test x ≡ true)) → (b : Bool) → test y ≡ b →
        cond b (Some y) (find test ys) ≡ Some x → P x × (test x ≡ true)
    by on true passes here = let is : y ≡ x = cc in subst (λ z. P z × (test z ≡ true)) is (all.0, passes)
    by on false other later = on later

-- one that is found passes another test, if each does that passes the first
pub find_any : {X : Type 0} (test other : X → Bool) → ((x : X) → test x ≡ true → other x ≡ true) → (x : X)
    (xs : List X) → find test xs ≡ Some x → list_any other xs ≡ true
find_any test other on x [] found = absurd cc
find_any test other on x (y ∷ ys) found = by (λ later. find_any test other on x ys later) (test y) refl found
  where
    by : (find test ys ≡ Some x → list_any other ys ≡ true) → (b : Bool) → test y ≡ b →
        cond b (Some y) (find test ys) ≡ Some x → (other y || list_any other ys) ≡ true
    by more true passes here = ap (λ b. b || list_any other ys) (on y passes)
    by more false fails later = or_right (other y) (list_any other ys) (more later)

pub find_none : {X : Type 0} (test : X → Bool) (xs : List X) → find test xs ≡ None →
    AllByRecursion (λ x. test x ≡ false) xs
find_none test [] none = tt
find_none test (x ∷ xs) none = by (λ later. find_none test xs later) (test x) refl none
  where
    by : (find test xs ≡ None → AllByRecursion (λ x. test x ≡ false) xs) → (b : Bool) → test x ≡ b →
        cond b (Some x) (find test xs) ≡ None → AllByRecursion (λ x. test x ≡ false) (x ∷ xs)
    by on true passes some = absurd cc
    by on false other later = (other, on later)

pub any_none : {X : Type 0} (test : X → Bool) (xs : List X) → list_any test xs ≡ false →
    AllByRecursion (λ x. test x ≡ false) xs
any_none test [] none = tt
any_none test (x ∷ xs) none = by (λ later. any_none test xs later) (test x) refl none
  where
    by : (list_any test xs ≡ false → AllByRecursion (λ x. test x ≡ false) xs) → (b : Bool) → test x ≡ b →
        (b || list_any test xs) ≡ false → AllByRecursion (λ x. test x ≡ false) (x ∷ xs)
    by on true passes some = absurd (true≢false some)
    by on false other later = (other, on later)

-- ---- maps

-- an id that is not there
abbrev pub IsNew : {X : Type 0} → ℕ → Map X → Type 0
IsNew id es = is_some (entry_at id es) ≡ false

pub new_parts : {X : Type 0} (id : ℕ) (e : ℕ × X) (es : Map X) → IsNew id (e ∷ es) → ((id == e.0) ≡ false) × IsNew id es
new_parts id e es new = by (id == e.0) refl new
  where
    by : (b : Bool) → (id == e.0) ≡ b → is_some (cond b (Some e.1) (entry_at id es)) ≡ false →
        ((id == e.0) ≡ false) × IsNew id es
    by true same some = absurd (true≢false some)
    by false other later = (other, later)

-- a new entry is put before the first one, or behind it
abbrev pub IsPut : {X : Type 0} → ℕ → X → ℕ × X → Map X → Type 0
IsPut id x e es =
    (with_entry id x (e ∷ es) ≡ (id, x) ∷ e ∷ es) ⊎ (with_entry id x (e ∷ es) ≡ e ∷ with_entry id x es)

pub with_new : {X : Type 0} (id : ℕ) (x : X) (e : ℕ × X) (es : Map X) → IsNew id (e ∷ es) →
    IsPut id x e es
with_new id x e es new = by (nat_lt id e.0)
  where
    by : (b : Bool) → (cond b ((id, x) ∷ e ∷ es) (cond (id == e.0) ((id, x) ∷ es) (e ∷ with_entry id x es))
        ≡ (id, x) ∷ e ∷ es) ⊎ (cond b ((id, x) ∷ e ∷ es) (cond (id == e.0) ((id, x) ∷ es) (e ∷ with_entry id x es))
        ≡ e ∷ with_entry id x es)
    by true = inl refl
    by false = inr (ap (λ b. cond b ((id, x) ∷ es) (e ∷ with_entry id x es)) (new_parts id e es new).0)

-- a new entry that does not pass the test
pub find_past : {X : Type 0} (test : ℕ × X → Bool) (id : ℕ) (x : X) (es : Map X) → IsNew id es → test (id, x) ≡ false →
    find test (with_entry id x es) ≡ find test es
find_past test id x [] new other = ap (λ b. cond b (Some (id, x)) None) other
find_past test id x (e ∷ es) new other =
    by (find_past test id x es (new_parts id e es new).1 other) (with_new id x e es new)
  where
    by : find test (with_entry id x es) ≡ find test es → IsPut id x e es →
        find test (with_entry id x (e ∷ es)) ≡ find test (e ∷ es)
    by later (inl is) = ap (find test) is ∙ ap (λ b. cond b (Some (id, x)) (find test (e ∷ es))) other
    by later (inr is) = ap (find test) is ∙ ap (cond (test e) (Some e)) later

-- a new entry that alone passes the test
pub find_alone : {X : Type 0} (test : ℕ × X → Bool) (id : ℕ) (x : X) (es : Map X) → IsNew id es →
    test (id, x) ≡ true → AllByRecursion (λ e. test e ≡ false) es → find test (with_entry id x es) ≡ Some (id, x)
find_alone test id x [] new passes none = ap (λ b. cond b (Some (id, x)) None) passes
find_alone test id x (e ∷ es) new passes none =
    by (find_alone test id x es (new_parts id e es new).1 passes none.1) (with_new id x e es new)
  where
    by : find test (with_entry id x es) ≡ Some (id, x) → IsPut id x e es →
        find test (with_entry id x (e ∷ es)) ≡ Some (id, x)
    by later (inl is) = ap (find test) is ∙ ap (λ b. cond b (Some (id, x)) (find test (e ∷ es))) passes
    by later (inr is) = ap (find test) is ∙ ap (λ b. cond b (Some e) (find test (with_entry id x es))) none.0 ∙ later

-- what passed the test is there still
pub any_with : {X : Type 0} (test : ℕ × X → Bool) (id : ℕ) (x : X) (es : Map X) → IsNew id es →
    list_any test es ≡ true → list_any test (with_entry id x es) ≡ true
any_with test id x [] new any = absurd (false≢true any)
any_with test id x (e ∷ es) new any =
    by (behind (λ there. any_with test id x es (new_parts id e es new).1 there)
    (or_cases (test e) (list_any test es) any)) (with_new id x e es new)
  where
    behind : (list_any test es ≡ true → list_any test (with_entry id x es) ≡ true) →
        (test e ≡ true) ⊎ (list_any test es ≡ true) → (test e || list_any test (with_entry id x es)) ≡ true
    behind on (inl here) = ap (λ b. b || list_any test (with_entry id x es)) here
    behind on (inr there) = or_right (test e) _ (on there)

    by : (test e || list_any test (with_entry id x es)) ≡ true →
        IsPut id x e es →
        list_any test (with_entry id x (e ∷ es)) ≡ true
    by later (inl is) = ap (list_any test) is ∙ or_right (test (id, x)) (list_any test (e ∷ es)) any
    by later (inr is) = ap (list_any test) is ∙ later

pub any_here : {X : Type 0} (test : ℕ × X → Bool) (id : ℕ) (x : X) (es : Map X) → IsNew id es →
    test (id, x) ≡ true → list_any test (with_entry id x es) ≡ true
any_here test id x [] new passes = ap (λ b. b || false) passes
any_here test id x (e ∷ es) new passes =
    by (any_here test id x es (new_parts id e es new).1 passes) (with_new id x e es new)
  where
    by : list_any test (with_entry id x es) ≡ true → IsPut id x e es →
        list_any test (with_entry id x (e ∷ es)) ≡ true
    by later (inl is) = ap (list_any test) is ∙ ap (λ b. b || list_any test (e ∷ es)) passes
    by later (inr is) = ap (list_any test) is ∙ or_right (test e) _ later
