-- Lists by their first two values, and by their last two.
use Rattle.std.proofs.Common.{◌≡◌, ◌+◌, ◌-◌, ◌≤◌, List, [], ◌∷◌, ◌++◌, length, get_or, take, drop, refl, sym, ap}
use Rattle.std.proofs.Common.{◌∙◌, arith, length-append}
use Rattle.std.proofs.lemmas.List.{take_rest, drop_more, take-append-drop}
use Rattle.std.proofs.Math.ListN.{drop_of_length-le}

-- a list by its first two
pub front_two : {X : Type 0} (xs : List X) (a b : X) → 2 ≤ length xs → a ≡ get_or xs 0 a → b ≡ get_or xs 1 b →
    xs ≡ a ∷ b ∷ take (length xs - 2) (drop 2 xs)
front_two [] a b long first second = absurd (omega arith)
front_two (x ∷ []) a b long first second = absurd (omega arith)
front_two (x ∷ y ∷ xs) a b long first second =
    (λ i. sym first i ∷ sym second i ∷ xs) ∙ ap (λ l. a ∷ b ∷ l) (sym (take_rest (x ∷ y ∷ xs) 2))

-- a list by its last two
pub back_two : {X : Type 0} (xs : List X) (a b : X) → 2 ≤ length xs → a ≡ get_or xs (length xs - 2) a →
    b ≡ get_or xs (length xs - 1) b → xs ≡ take (length xs - 2) xs ++ a ∷ b ∷ []
back_two xs a b long first second =
    let n = length xs - 2 in
    let next : length xs - 1 ≡ n + 1 = omega arith in
    let last : b ≡ get_or xs (n + 1) b = second ∙ ap (λ k. get_or xs k b) next in
    let end : drop (n + 1 + 1) xs ≡ [] = drop_of_length-le xs (omega arith) in
    let one = drop_more xs n a (omega arith) in
    let two = drop_more xs (n + 1) b (omega arith) in
    sym (take-append-drop n xs)
    ∙ ap (λ l. take n xs ++ l)
    (one ∙ (λ i. sym first i ∷ two i) ∙ (λ i. a ∷ sym last i ∷ end i))

-- the last two of lists are the same, and so is what stands in front
pub record SameBack {X : Type 0} (front other : List X) (a b x y : X) : Type 0 where
  pub front_is : front ≡ other
  pub first : a ≡ x
  pub second : b ≡ y

pub same_back : {X : Type 0} (front other : List X) (a b x y : X) → front ++ a ∷ b ∷ [] ≡ other ++ x ∷ y ∷ [] →
    SameBack front other a b x y
same_back [] [] a b x y e = record { front_is = refl; first = cc; second = cc }
same_back [] (o ∷ other) a b x y e =
    absurd (omega (arith, ap length e, length-append other (x ∷ y ∷ [])))
same_back (f ∷ front) [] a b x y e =
    absurd (omega (arith, ap length e, length-append front (a ∷ b ∷ [])))
same_back (f ∷ front) (o ∷ other) a b x y e =
    let rest = same_back front other a b x y cc in
    let same : f ≡ o = cc in
    record { front_is = λ i. same i ∷ rest.front_is i; first = rest.first; second = rest.second }
