-- The order of ended transactions as a list, the newest first.
use Rattle.std.proofs.Common.{◌≡◌, ℕ, suc, ◌<◌, ◌≤◌, Bool, true, false, cond, List, [], ◌∷◌, ◌++◌, length, Option}
use Rattle.std.proofs.Common.{Some, None, refl, sym, ap, ◌∙◌, arith}
use Rattle.std.specs.Prelude.{◌==◌, ◌||◌, nat_lt}
use Rattle.std.proofs.lemmas.Bool.{true≢false, false_from_ne_true, eqb-true, eq-eqb, lt-ltb, le-ltb, ltb-true}
use Rattle.std.proofs.lemmas.Bool.{ltb-false}
use Rattle.slon_model.specs.Rows.{member}
use Rattle.image_laws.specs.Moments.{is_ended, IsOrder}

-- how many ended before it, of these
abbrev pub order_in : List ℕ → ℕ → Option ℕ
order_in [] x = None
order_in (e ∷ es) x = cond (x == e) (Some (length es)) (order_in es x)

-- none stands twice
abbrev pub AreApart : List ℕ → Type 0
AreApart [] = Unit {0}
AreApart (e ∷ es) = (member e es ≡ false) × AreApart es

-- ---- lists

pub member_append : (x : ℕ) (xs ys : List ℕ) → member x (xs ++ ys) ≡ (member x xs || member x ys)
member_append x [] ys = refl
member_append x (y ∷ xs) ys = by (x == y) (member_append x xs ys)
  where
    by : (b : Bool) → member x (xs ++ ys) ≡ (member x xs || member x ys) →
        (b || member x (xs ++ ys)) ≡ ((b || member x xs) || member x ys)
    by true later = refl
    by false later = later

pub apart_append : (xs ys : List ℕ) → AreApart xs → AreApart ys →
    ((x : ℕ) → member x xs ≡ true → member x ys ≡ true → ⊥) → AreApart (xs ++ ys)
apart_append [] ys one two none = two
apart_append (x ∷ xs) ys one two none = (
  member_append x xs ys ∙ ap (λ b. b || member x ys) one.0
      ∙ false_from_ne_true (member x ys) (none x (ap (λ b. b || member x xs) (eq-eqb x x refl))),
  apart_append xs ys one.1 two (λ y in_xs in_ys. none y (or_later (y == x) (member y xs) in_xs) in_ys),
)
  where
    or_later : (b c : Bool) → c ≡ true → (b || c) ≡ true
    or_later true c is = refl
    or_later false c is = is

-- ---- the order

pub order_below : (es : List ℕ) (x m : ℕ) → order_in es x ≡ Some m → m < length es
order_below [] x m is = absurd cc
order_below (e ∷ es) x m is = by (x == e) (order_below es x m) is
  where
    by : (b : Bool) → (order_in es x ≡ Some m → m < length es) → cond b (Some (length es)) (order_in es x) ≡ Some m →
        m < suc (length es)
    by true later here = let same : length es ≡ m = cc in omega (arith, same)
    by false later there = let less = later there in omega (arith, less)

-- an id is in the list exactly where it has a moment, which is below the length
order_member : (es : List ℕ) (x k : ℕ) → length es ≤ k → is_ended (order_in es x) k ≡ member x es
order_member [] x k long = refl
order_member (e ∷ es) x k long = by (x == e) (order_member es x k (omega (arith, long)))
  where
    by : (b : Bool) → is_ended (order_in es x) k ≡ member x es →
        is_ended (cond b (Some (length es)) (order_in es x)) k ≡ (b || member x es)
    by true later = lt-ltb (length es) k long
    by false later = later

-- those that had ended by then, with what ended later in front
pub order_before : (later es : List ℕ) (x : ℕ) → AreApart (later ++ es) →
    is_ended (order_in (later ++ es) x) (length es) ≡ member x es
order_before [] es x apart = order_member es x (length es) (omega arith)
order_before (e ∷ later) es x apart = by (x == e) refl (order_before later es x apart.1)
  where
    longer : (ls : List ℕ) → length es ≤ length (ls ++ es)
    longer [] = omega arith
    longer (l ∷ ls) = let more = longer ls in omega (arith, more)

    either : (a b : Bool) → (a || b) ≡ false → b ≡ false
    either true b is = absurd (true≢false is)
    either false b is = is

    by : (b : Bool) → (x == e) ≡ b → is_ended (order_in (later ++ es) x) (length es) ≡ member x es →
        is_ended (cond b (Some (length (later ++ es))) (order_in (later ++ es) x)) (length es) ≡ member x es
    by true same rest =
        le-ltb (length (later ++ es)) (length es) (longer later)
        ∙ sym (either (member x later) (member x es)
        (sym (member_append x later es) ∙ ap (λ y. member y (later ++ es)) (eqb-true x e same) ∙ apart.0))
    by false other rest = rest

pub order_is : (es : List ℕ) → AreApart es → IsOrder (order_in es) (length es)
order_is es apart = record {
  bounded = order_below es;
  onto = λ m less. onto es apart m less;
  apart = λ x y m one two. same es x y m one two;
}
  where
    found : (xs : List ℕ) (x m : ℕ) → order_in xs x ≡ Some m → member x xs ≡ true
    found xs x m is =
        sym (order_member xs x (length xs) (omega arith)) ∙ ap (λ o. is_ended o (length xs)) is
        ∙ lt-ltb m (length xs) (order_below xs x m is)

    behind : (e : ℕ) (xs : List ℕ) (m x : ℕ) → member e xs ≡ false → order_in xs x ≡ Some m →
        order_in (e ∷ xs) x ≡ Some m
    behind e xs m x none is =
        ap (λ b. cond b (Some (length xs)) (order_in xs x))
        (false_from_ne_true (x == e) (λ here. true≢false (sym (found xs x m is)
        ∙ ap (λ y. member y xs) (eqb-true x e here) ∙ none))) ∙ is

    last : (e : ℕ) (xs : List ℕ) (m : ℕ) → length xs ≡ m → order_in (e ∷ xs) e ≡ Some m
    last e xs m is =
        ap (λ b. cond b (Some (length xs)) (order_in xs e)) (eq-eqb e e refl) ∙ ap Some is

    onto : (xs : List ℕ) → AreApart xs → (m : ℕ) → m < length xs → (x : ℕ) × (order_in xs x ≡ Some m)
    onto [] apart m less = absurd (omega (arith, less))
    onto (e ∷ xs) apart m less = by (nat_lt m (length xs)) refl (onto xs apart.1 m)
      where
        by : (b : Bool) → nat_lt m (length xs) ≡ b → (m < length xs → (x : ℕ) × (order_in xs x ≡ Some m)) →
            (x : ℕ) × (order_in (e ∷ xs) x ≡ Some m)
        by true below rest =
            let there = rest (ltb-true m (length xs) below) in (there.0, behind e xs m there.0 apart.0 there.1)
        by false above rest =
            let most = ltb-false m (length xs) above in (e, last e xs m (omega (arith, most, less)))

    same : (xs : List ℕ) (x y m : ℕ) → order_in xs x ≡ Some m → order_in xs y ≡ Some m → x ≡ y
    same [] x y m one two = absurd cc
    same (e ∷ xs) x y m one two = by (x == e) (y == e) refl refl (same xs x y m) one two
      where
        never : (z : ℕ) → order_in xs z ≡ Some m → length xs ≡ m → ⊥
        never z is long = let less = order_below xs z m is in omega (arith, less, long)

        by : (b c : Bool) → (x == e) ≡ b → (y == e) ≡ c → (order_in xs x ≡ Some m → order_in xs y ≡ Some m → x ≡ y) →
            cond b (Some (length xs)) (order_in xs x) ≡ Some m → cond c (Some (length xs)) (order_in xs y) ≡ Some m →
            x ≡ y
        by true true first second rest one two = eqb-true x e first ∙ sym (eqb-true y e second)
        by true false first second rest one two = let long : length xs ≡ m = cc in absurd (never y two long)
        by false true first second rest one two = let long : length xs ≡ m = cc in absurd (never x one long)
        by false false first second rest one two = rest one two
