-- Keys with zeros behind them.
use Rattle.std.proofs.Common.{◌≡◌, ◌++◌, ℕ, suc, zero, ◌+◌, ◌<◌, List, [], ◌∷◌, length, take, drop, refl, sym, ap, ◌∙◌}
use Rattle.std.proofs.Common.{arith, length-append, ◌-◌}
use Rattle.std.proofs.lemmas.List.{length-replicate, take-append-drop, drop-replicate}
use Rattle.std.proofs.Math.Seq.{drop-append_seam}
use Rattle.std.proofs.Common.{subst, true, false, not}
use Rattle.std.specs.Prelude.{replicate, ◌==◌}
use Rattle.std.specs.Cmp.{nat_cmp_total, tied_itself, nat_cmp_is}
use Rattle.std.specs.Cmp.Lexicographic.{nat_list_cmp_total}
use Rattle.std.specs.Ordering.{nat_cmp, ordering_index, ordering_then}
use Rattle.std.specs.declared.cmp.Ordering.{Ordering}
use Rattle.std.specs.declared.cmp.Ordering.TheVariants.{Less, Equal, Greater}
use Rattle.slon_base.specs.declared.compact.Compact.{Compact}
use Rattle.slon_base.specs.declared.compact.Compact.TheVariants.{Inline}
use Rattle.slon_base.specs.Compact.{bytes_at, IsPadded}
use Rattle.slon_base.specs.Keeper.{key_cmp}
use Rattle.slon_base.proofs.Compared.{shifted}

-- a number before another one
less_is : (m n : ℕ) → m < n → nat_cmp m n ≡ Less
less_is m n less = sym (nat_cmp_is m n Less less)

more_is : (m n : ℕ) → n < m → nat_cmp m n ≡ Greater
more_is m n more = sym (nat_cmp_is m n Greater more)

-- zeros are not behind as many bytes
zeros_first : (m : ℕ) (zs : List ℕ) → length zs ≡ m → ordering_then (key_cmp (replicate m 0) zs) Less ≡ Less
zeros_first zero [] is = refl
zeros_first zero (z ∷ zs) is = absurd (omega (arith, is))
zeros_first (suc m) [] is = absurd (omega (arith, is))
zeros_first (suc m) (zero ∷ zs) is =
    ap (λ o. ordering_then (ordering_then o (key_cmp (replicate m 0) zs)) Less) (tied_itself nat_cmp_total 0)
    ∙ zeros_first m zs (omega (arith, is))
zeros_first (suc m) (suc z ∷ zs) is =
    ap (λ o. ordering_then (ordering_then o (key_cmp (replicate m 0) zs)) Less) (less_is 0 (suc z) (omega arith))

zeros_last : (m : ℕ) (zs : List ℕ) → length zs ≡ m → ordering_then (key_cmp zs (replicate m 0)) Greater ≡ Greater
zeros_last zero [] is = refl
zeros_last zero (z ∷ zs) is = absurd (omega (arith, is))
zeros_last (suc m) [] is = absurd (omega (arith, is))
zeros_last (suc m) (zero ∷ zs) is =
    ap (λ o. ordering_then (ordering_then o (key_cmp zs (replicate m 0))) Greater) (tied_itself nat_cmp_total 0)
    ∙ zeros_last m zs (omega (arith, is))
zeros_last (suc m) (suc z ∷ zs) is =
    ap (λ o. ordering_then (ordering_then o (key_cmp zs (replicate m 0))) Greater) (more_is (suc z) 0 (omega arith))

-- one after another
then_then : (a b c : Ordering) → ordering_then a (ordering_then b c) ≡ ordering_then (ordering_then a b) c
then_then Less b c = refl
then_then Equal b c = refl
then_then Greater b c = refl

-- Lists with zeros behind them are ordered as the lists are, but that the shorter one comes first where all is alike.
pub padded : (xs ys : List ℕ) (m n : ℕ) → length xs + m ≡ length ys + n →
    ordering_then (key_cmp (xs ++ replicate m 0) (ys ++ replicate n 0)) (nat_cmp (length xs) (length ys))
    ≡ key_cmp xs ys
padded [] [] m n is =
    let same : n ≡ m = omega (arith, is) in
    ap (λ k. ordering_then (key_cmp (replicate m 0) (replicate k 0)) (nat_cmp 0 0)) same
    ∙ ap (λ o. ordering_then o (nat_cmp 0 0)) (tied_itself nat_list_cmp_total (replicate m 0))
    ∙ tied_itself nat_cmp_total 0
padded [] (y ∷ ys) m n is =
    ap (λ o. ordering_then (key_cmp (replicate m 0) (y ∷ ys ++ replicate n 0)) o)
    (less_is 0 (suc (length ys)) (omega arith))
    ∙ zeros_first m (y ∷ ys ++ replicate n 0)
    (omega (arith, is, length-append ys (replicate n 0), length-replicate {A = ℕ} n 0))
padded (x ∷ xs) [] m n is =
    ap (λ o. ordering_then (key_cmp (x ∷ xs ++ replicate m 0) (replicate n 0)) o)
    (more_is (suc (length xs)) 0 (omega arith))
    ∙ zeros_last n (x ∷ xs ++ replicate m 0)
    (omega (arith, is, length-append xs (replicate m 0), length-replicate {A = ℕ} m 0))
padded (x ∷ xs) (y ∷ ys) m n is =
    ap (λ o. ordering_then (ordering_then (nat_cmp x y) (key_cmp (xs ++ replicate m 0) (ys ++ replicate n 0))) o)
    (shifted (length xs) (length ys))
    ∙ sym (then_then (nat_cmp x y) (key_cmp (xs ++ replicate m 0) (ys ++ replicate n 0))
    (nat_cmp (length xs) (length ys)))
    ∙ ap (λ o. ordering_then (nat_cmp x y) o) (padded xs ys m n (omega (arith, is)))

-- as long lists, of which the bytes behind the first ones are zero
padded_are : (few many : ℕ) (xs ys : List ℕ) → length xs ≡ length ys →
    drop few xs ≡ replicate (length (drop few xs)) 0 → drop many ys ≡ replicate (length (drop many ys)) 0 →
    ordering_then (key_cmp xs ys) (nat_cmp (length (take few xs)) (length (take many ys)))
    ≡ key_cmp (take few xs) (take many ys)
padded_are few many xs ys long left right =
    ap (λ o. ordering_then o (nat_cmp (length (take few xs)) (length (take many ys))))
    (λ i. key_cmp (whole few xs left i) (whole many ys right i))
    ∙ padded (take few xs) (take many ys) (length (drop few xs)) (length (drop many ys))
    (parts few xs ∙ long ∙ sym (parts many ys))
  where
    whole : (n : ℕ) (zs : List ℕ) → drop n zs ≡ replicate (length (drop n zs)) 0 →
        zs ≡ take n zs ++ replicate (length (drop n zs)) 0
    whole n zs is = sym (take-append-drop n zs) ∙ ap (λ back. take n zs ++ back) is

    parts : (n : ℕ) (zs : List ℕ) → length (take n zs) + length (drop n zs) ≡ length zs
    parts n zs = sym (length-append (take n zs) (drop n zs)) ∙ ap length (take-append-drop n zs)

-- Both keep their bytes in the value.
pub record Inlined (left right : Compact) : Type 0 where
  pub few : ℕ
  pub many : ℕ
  pub here : List ℕ
  pub there : List ℕ
  pub left_is : left ≡ Inline few here
  pub right_is : right ≡ Inline many there
  pub padded : IsPadded left × IsPadded right
  pub long : length here ≡ length there

abbrev pub inlined : {left right : Compact} {few many : ℕ} {here there : List ℕ} → left ≡ Inline few here →
    right ≡ Inline many there → IsPadded left × IsPadded right → length here ≡ length there → Inlined left right
inlined {left} {right} {few} {many} {here} {there} left_is right_is padded long = record {
  few = few;
  many = many;
  here = here;
  there = there;
  left_is = left_is;
  right_is = right_is;
  padded = padded;
  long = long;
}

-- the bytes with the zeros decide, and then how many bytes there are
decides : {left right : Compact} (p : Inlined left right) →
    ordering_then (key_cmp p.here p.there) (nat_cmp (length (bytes_at left)) (length (bytes_at right)))
    ≡ key_cmp (bytes_at left) (bytes_at right)
decides p =
    (λ i. ordering_then (key_cmp p.here p.there)
    (nat_cmp (length (bytes_at (p.left_is i))) (length (bytes_at (p.right_is i)))))
    ∙ padded_are p.few p.many p.here p.there p.long (subst IsPadded p.left_is p.padded.0)
    (subst IsPadded p.right_is p.padded.1)
    ∙ (λ i. key_cmp (bytes_at (sym p.left_is i)) (bytes_at (sym p.right_is i)))

-- the bytes differ
pub by_bytes : {left right : Compact} (p : Inlined left right) (found : Ordering) → found ≡ key_cmp p.here p.there →
    not (ordering_index found == 1) ≡ true → found ≡ key_cmp (bytes_at left) (bytes_at right)
by_bytes {left} {right} p found is differ =
    sym (first found differ) ∙ ap (λ o. ordering_then o (nat_cmp (length (bytes_at left)) (length (bytes_at right)))) is
    ∙ decides p
  where
    first : (o : Ordering) → not (ordering_index o == 1) ≡ true →
        ordering_then o (nat_cmp (length (bytes_at left)) (length (bytes_at right))) ≡ o
    first Less apart = refl
    first Equal apart = absurd cc
    first Greater apart = refl

-- the bytes are the same
pub by_count : {left right : Compact} (p : Inlined left right) (found : Ordering) → found ≡ key_cmp p.here p.there →
    not (ordering_index found == 1) ≡ false →
    nat_cmp (length (bytes_at left)) (length (bytes_at right)) ≡ key_cmp (bytes_at left) (bytes_at right)
by_count {left} {right} p found is same =
    sym (second found same) ∙ ap (λ o. ordering_then o (nat_cmp (length (bytes_at left)) (length (bytes_at right)))) is
    ∙ decides p
  where
    second : (o : Ordering) → not (ordering_index o == 1) ≡ false →
        ordering_then o (nat_cmp (length (bytes_at left)) (length (bytes_at right)))
        ≡ nat_cmp (length (bytes_at left)) (length (bytes_at right))
    second Less alike = absurd cc
    second Equal alike = refl
    second Greater alike = absurd cc

-- so many zeros are as many as they are
pub zeros_all : (zs : List ℕ) (k : ℕ) → zs ≡ replicate k 0 → zs ≡ replicate (length zs) 0
zeros_all zs k all =
    all ∙ ap (λ m. replicate m 0) (sym (length-replicate {A = ℕ} k 0)) ∙ ap (λ q. replicate (length q) 0) (sym all)

-- what is left of zeros behind other bytes
pub zeros_left : (most : ℕ) (front : List ℕ) (n : ℕ) → length front ≡ n →
    drop n (front ++ drop n (replicate most 0)) ≡ replicate (length (drop n (front ++ drop n (replicate most 0)))) 0
zeros_left most front n is = zeros_all _ (most - n) (rest ∙ drop-replicate n most 0)
  where
    rest : drop n (front ++ drop n (replicate most 0)) ≡ drop n (replicate {A = ℕ} most 0)
    rest = ap (λ k. drop k (front ++ drop n (replicate most 0))) (sym is) ∙ drop-append_seam front _
