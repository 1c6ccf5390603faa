-- A list that is cut in two, of which an element of the front and the first one behind it change.
use Rattle.std.proofs.Common.{◌≡◌, ◌∙◌, ℕ, zero, suc, ◌<◌, ◌≤◌, List, [], ◌∷◌, ◌++◌, take, drop, length, get_or, set}
use Rattle.std.proofs.Common.{refl, ap, arith}

-- The two halves, an index in the front, and where they were cut.
pub record Halves {X : Type 0} (all front back : List X) (i n : ℕ) : Type 0 where
  pub front_is : front ≡ take n all
  pub back_is : back ≡ drop n all
  pub less : i < n
  pub inside : n < length all

get_front : {X : Type 0} (xs : List X) (i n : ℕ) (d : X) → i < n → get_or (take n xs) i d ≡ get_or xs i d
get_front [] i zero d less = refl
get_front [] i (suc n) d less = refl
get_front (x ∷ xs) i zero d less = absurd (omega (arith, less))
get_front (x ∷ xs) zero (suc n) d less = refl
get_front (x ∷ xs) (suc i) (suc n) d less = get_front xs i n d (omega (arith, less))

get_back : {X : Type 0} (xs : List X) (n : ℕ) (d : X) → get_or (drop n xs) 0 d ≡ get_or xs n d
get_back [] zero d = refl
get_back [] (suc n) d = refl
get_back (x ∷ xs) zero d = refl
get_back (x ∷ xs) (suc n) d = get_back xs n d

set_back : {X : Type 0} (xs : List X) (n : ℕ) (y : X) → n < length xs → take n xs ++ set (drop n xs) 0 y ≡ set xs n y
set_back [] n y less = absurd (omega (arith, less))
set_back (x ∷ xs) zero y less = refl
set_back (x ∷ xs) (suc n) y less = ap (λ l. x ∷ l) (set_back xs n y (omega (arith, less)))

set_both : {X : Type 0} (xs : List X) (i n : ℕ) (x y : X) → i < n → n < length xs →
    set (take n xs) i x ++ set (drop n xs) 0 y ≡ set (set xs i x) n y
set_both [] i n x y less inside = absurd (omega (arith, inside))
set_both (e ∷ es) i zero x y less inside = absurd (omega (arith, less))
set_both (e ∷ es) zero (suc n) x y less inside = ap (λ l. x ∷ l) (set_back es n y (omega (arith, inside)))
set_both (e ∷ es) (suc i) (suc n) x y less inside =
    ap (λ l. e ∷ l) (set_both es i n x y (omega (arith, less)) (omega (arith, inside)))

-- two elements are set in any order
pub set_turned : {X : Type 0} (xs : List X) (i n : ℕ) (x y : X) → i < n →
    set (set xs i x) n y ≡ set (set xs n y) i x
set_turned [] i n x y less = refl
set_turned (e ∷ es) i zero x y less = absurd (omega (arith, less))
set_turned (e ∷ es) zero (suc n) x y less = refl
set_turned (e ∷ es) (suc i) (suc n) x y less = ap (λ l. e ∷ l) (set_turned es i n x y (omega (arith, less)))

pub halves_set : {X : Type 0} (all front back : List X) (i n : ℕ) (x y : X) → Halves all front back i n →
    set front i x ++ set back 0 y ≡ set (set all i x) n y
halves_set all front back i n x y h =
    ap (λ l. set l i x ++ set back 0 y) h.front_is ∙ ap (λ l. set (take n all) i x ++ set l 0 y) h.back_is
    ∙ set_both all i n x y h.less h.inside

pub held_front : {X : Type 0} (all front back : List X) (i n : ℕ) (x : X) → Halves all front back i n →
    x ≡ get_or front i x → x ≡ get_or all i x
held_front all front back i n x h held =
    held ∙ ap (λ l. get_or l i x) h.front_is ∙ get_front all i n x h.less

pub held_back : {X : Type 0} (all front back : List X) (i n : ℕ) (y : X) → Halves all front back i n →
    y ≡ get_or back 0 y → y ≡ get_or all n y
held_back all front back i n y h held = held ∙ ap (λ l. get_or l 0 y) h.back_is ∙ get_back all n y

-- of two numbers that are not the same, where the one is not less
pub other_less : (a b : ℕ) → b ≤ a → (a ≡ b → ⊥) → b < a
other_less zero zero some apart = absurd (apart refl)
other_less zero (suc b) some apart = absurd (omega (arith, some))
other_less (suc a) zero some apart = omega arith
other_less (suc a) (suc b) some apart =
    let less = other_less a b (omega (arith, some)) (λ same. apart (ap suc same)) in
    omega (arith, less)
