-- Keys of which the first bytes are the same.
use Rattle.std.proofs.Common.{◌≡◌, ◌⊎◌, ◌++◌, ◌≤◌, inl, inr, ℕ, suc, zero, ◌+◌, ◌^◌, ◌<◌, List, [], ◌∷◌, length}
use Rattle.std.proofs.Common.{take, drop, refl, sym, ap, ◌∙◌, arith, min}
use Rattle.std.proofs.Math.Seq.{take-add, take-append_seam}
use Rattle.std.proofs.lemmas.List.{take-append-drop, take_all, drop-drop, length-drop, get_or-drop}
use Rattle.std.proofs.lemmas.Bool.{cases_lt}
use Rattle.std.specs.Cmp.{nat_cmp_total, tied_itself, nat_cmp_is}
use Rattle.std.specs.Ordering.{nat_cmp, ordering_then, MatchOrdering}
use Rattle.std.specs.declared.cmp.Ordering.{Ordering}
use Rattle.std.specs.declared.cmp.Ordering.TheVariants.{Less, Equal, Greater}
use Rattle.slon_base.specs.Keeper.{key_cmp}
use Rattle.slon_base.specs.Codec.{number_bytes}
use Rattle.std.specs.Int.{w64, from_be_bytes}
use Rattle.slon_base.proofs.Spelled.{IsBytes, length-number_bytes, number_at-is}
use Rattle.slon_base.proofs.Numbers.{behind_front, numbers_decide}

-- the first bytes are the same
abbrev pub StartAlike : ℕ → List ℕ → List ℕ → Type 0
StartAlike n xs ys = take n xs ≡ take n ys

-- a number stands behind the first bytes
abbrev pub Spells : ℕ → List ℕ → ℕ → Type 0
Spells at xs n = (n < 2 ^ 64) × (drop at xs ≡ number_bytes n ++ drop (at + 8) xs)

-- the number that eight bytes behind the first ones spell
pub number_behind : (at : ℕ) (xs : List ℕ) (n : ℕ) → IsBytes xs → at + 8 ≤ length xs →
    n ≡ from_be_bytes w64 (take 8 (drop at xs)) → drop at xs ≡ number_bytes n ++ drop (at + 8) xs
number_behind at xs n bytes long is =
    number_at-is (drop at xs) n (λ i. omega (arith, get_or-drop at xs i 0, bytes (at + i)))
    (omega (arith, long, length-drop at xs)) is
    ∙ ap (λ behind. number_bytes n ++ behind) (drop-drop 8 at xs)

-- what follows decides
rest_decides : (n : ℕ) (xs ys : List ℕ) → StartAlike n xs ys → key_cmp xs ys ≡ key_cmp (drop n xs) (drop n ys)
rest_decides n xs ys same =
    (λ i. key_cmp (sym (take-append-drop n xs) i) (sym (take-append-drop n ys) i))
    ∙ ap (λ front. key_cmp (take n xs ++ drop n xs) (front ++ drop n ys)) (sym same)
    ∙ behind_front (take n xs) (drop n xs) (drop n ys)

-- Behind the same first bytes both spell a number.
pub record Meet (xs ys : List ℕ) : Type 0 where
  pub at : ℕ
  pub here : ℕ
  pub there : ℕ
  pub same : StartAlike at xs ys
  pub left : Spells at xs here
  pub right : Spells at ys there

abbrev pub meet : {xs ys : List ℕ} (at here there : ℕ) → StartAlike at xs ys → Spells at xs here → Spells at ys there →
    Meet xs ys
meet at here there same left right = record {
  at = at;
  here = here;
  there = there;
  same = same;
  left = left;
  right = right;
}

-- numbers that differ decide
pub differing : (xs ys : List ℕ) (p : Meet xs ys) → (p.here ≡ p.there → ⊥) → nat_cmp p.here p.there ≡ key_cmp xs ys
differing xs ys p differ =
    numbers_decide p.here p.there p.left.0 p.right.0 differ (drop (p.at + 8) xs) (drop (p.at + 8) ys)
    ∙ (λ i. key_cmp (sym p.left.1 i) (sym p.right.1 i)) ∙ sym (rest_decides p.at xs ys p.same)

-- behind the same number more is the same
pub alike_behind : (xs ys : List ℕ) (p : Meet xs ys) → p.here ≡ p.there → StartAlike (p.at + 8) xs ys
alike_behind xs ys p is =
    goes xs p.here p.left.1 ∙ (λ i. p.same i ++ number_bytes (is i)) ∙ sym (goes ys p.there p.right.1)
  where
    goes : (zs : List ℕ) (k : ℕ) → drop p.at zs ≡ number_bytes k ++ drop (p.at + 8) zs →
        take (p.at + 8) zs ≡ take p.at zs ++ number_bytes k
    goes zs k spelled =
        take-add p.at 8 zs ∙ ap (λ behind. take p.at zs ++ take 8 behind) spelled
        ∙ ap (λ n. take p.at zs ++ take n (number_bytes k ++ drop (p.at + 8) zs)) (sym (length-number_bytes k))
        ∙ ap (λ front. take p.at zs ++ front) (take-append_seam (number_bytes k) (drop (p.at + 8) zs))

-- fewer are the same too
pub alike_sooner : (few many : ℕ) (xs ys : List ℕ) → few ≤ many → StartAlike many xs ys → StartAlike few xs ys
alike_sooner zero many xs ys le same = refl
alike_sooner (suc few) zero xs ys le same = absurd (omega (arith, le))
alike_sooner (suc few) (suc many) [] [] le same = refl
alike_sooner (suc few) (suc many) [] (y ∷ ys) le same = absurd cc
alike_sooner (suc few) (suc many) (x ∷ xs) [] le same = absurd cc
alike_sooner (suc few) (suc many) (x ∷ xs) (y ∷ ys) le same =
    let head : x ≡ y = cc in
    let tail : take many xs ≡ take many ys = cc in
    λ i. head i ∷ alike_sooner few many xs ys (omega (arith, le)) tail i

-- one more on both sides
pub shifted : (m n : ℕ) → nat_cmp (suc m) (suc n) ≡ nat_cmp m n
shifted m n = by (cases_lt m n) (cases_lt n m)
  where
    both : (o : Ordering) → MatchOrdering o (suc m < suc n) (suc m ≡ suc n) (suc n < suc m) →
        MatchOrdering o (m < n) (m ≡ n) (n < m) → nat_cmp (suc m) (suc n) ≡ nat_cmp m n
    both o above here = sym (nat_cmp_is (suc m) (suc n) o above) ∙ nat_cmp_is m n o here

    by : (m < n) ⊎ (n ≤ m) → (n < m) ⊎ (m ≤ n) → nat_cmp (suc m) (suc n) ≡ nat_cmp m n
    by (inl less) other = both Less (omega arith) less
    by (inr le) (inl more) = both Greater (omega arith) more
    by (inr le) (inr ge) = both Equal (omega arith) (omega arith)

-- where all that both have is the same the shorter one comes first
shorter_first : (xs ys : List ℕ) → take (length ys) xs ≡ take (length xs) ys →
    nat_cmp (length xs) (length ys) ≡ key_cmp xs ys
shorter_first [] [] same = refl
shorter_first [] (y ∷ ys) same = sym (nat_cmp_is 0 (suc (length ys)) Less (omega arith))
shorter_first (x ∷ xs) [] same = sym (nat_cmp_is (suc (length xs)) 0 Greater (omega arith))
shorter_first (x ∷ xs) (y ∷ ys) same =
    let head : x ≡ y = cc in
    let tail : take (length ys) xs ≡ take (length xs) ys = cc in
    shifted (length xs) (length ys) ∙ shorter_first xs ys tail
    ∙ ap (λ o. ordering_then o (key_cmp xs ys)) (sym (tied_itself nat_cmp_total x))
    ∙ ap (λ z. ordering_then (nat_cmp x z) (key_cmp xs ys)) head

pub all_alike : (common : ℕ) (xs ys : List ℕ) → common ≡ min (length xs) (length ys) → StartAlike common xs ys →
    nat_cmp (length xs) (length ys) ≡ key_cmp xs ys
all_alike common xs ys is same = shorter_first xs ys (by (cases_lt (length xs) (length ys)))
  where
    by : (length xs < length ys) ⊎ (length ys ≤ length xs) → take (length ys) xs ≡ take (length xs) ys
    by (inl less) =
        let short : common ≡ length xs = omega (arith, is) in
        take_all (length ys) xs (omega arith) ∙ sym (take_all common xs (omega (arith, short))) ∙ same
        ∙ ap (λ n. take n ys) short
    by (inr le) =
        let short : common ≡ length ys = omega (arith, is) in
        ap (λ n. take n xs) (sym short) ∙ same ∙ take_all common ys (omega (arith, short))
        ∙ sym (take_all (length xs) ys (omega arith))
