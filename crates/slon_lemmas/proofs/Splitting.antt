-- Texts that are parted by a byte which their parts lack.
use Rattle.std.proofs.Common.{◌≡◌, ℕ, ◌+◌, ◌<◌, ◌≤◌, ◌^◌, eqb, ltb, cond, not, Bool, true, false, List, [], ◌∷◌, ◌++◌}
use Rattle.std.proofs.Common.{length, take, drop, Some, None, refl, sym, ap, ◌∙◌, arith}
use Rattle.std.proofs.lemmas.Bool.{and_parts, and_from}
use Rattle.std.proofs.lemmas.Bool.Decides.{nat_tests}
use Rattle.std.proofs.lemmas.List.Folds.{list_all-append}
use Rattle.std.proofs.lemmas.Fmt.{decimal_is_IsNumeral}
use Rattle.std.proofs.lemmas.List.Splits.{slice_split_first}
use borrow.Author.Tests.{eqb-true, ltb-true, ltb-false}
use Rattle.std.specs.Char.{is_ascii_digit, digit_value}
use Rattle.std.specs.Fmt.{decimal}
use Rattle.std.specs.List.{list_all, slice_split, position, prefix_len}
use Rattle.std.specs.Str.Parse.{AllDigits}

-- no byte of the text is this one
abbrev pub lacks : ℕ → List ℕ → Bool
lacks byte text = list_all (λ c. not (eqb c byte)) text

-- two texts that lack it, joined
pub lacks-append : (byte : ℕ) (xs ys : List ℕ) → lacks byte xs ≡ true → lacks byte ys ≡ true →
    lacks byte (xs ++ ys) ≡ true
lacks-append byte xs ys e f = list_all-append (λ c. not (eqb c byte)) xs ys ∙ and_from _ _ e f

-- a byte that passes is not the one that fails
other_byte : (p : ℕ → Bool) (byte c : ℕ) (b : Bool) → eqb c byte ≡ b → p byte ≡ false → p c ≡ true → not b ≡ true
other_byte p byte c true e fails holds = let same = ap p (eqb-true c byte e) in cc
other_byte p byte c false e fails holds = refl

-- where each byte passes a test that this one does not
pub lacks_by : (p : ℕ → Bool) (byte : ℕ) (text : List ℕ) → p byte ≡ false → list_all p text ≡ true →
    lacks byte text ≡ true
lacks_by p byte [] fails e = refl
lacks_by p byte (c ∷ cs) fails e =
    let h = and_parts (p c) (list_all p cs) e in
    and_from (not (eqb c byte)) (lacks byte cs) (other_byte p byte c _ refl fails h.0) (lacks_by p byte cs fails h.1)

-- a digit by its value
digit_is : (c : ℕ) → digit_value c < 10 → is_ascii_digit c ≡ true
digit_is c h = grind (arith, nat_tests)

all_digits : (ds : List ℕ) → AllDigits 10 ds → list_all is_ascii_digit ds ≡ true
all_digits [] h = refl
all_digits (d ∷ ds) h = and_from (is_ascii_digit d) (list_all is_ascii_digit ds) (digit_is d h.0) (all_digits ds h.1)

-- a number is of digits
pub lacks-decimal : (byte n : ℕ) → is_ascii_digit byte ≡ false → n < 2 ^ 64 → lacks byte (decimal n) ≡ true
lacks-decimal byte n fails small = lacks_by is_ascii_digit byte (decimal n) fails
    (all_digits (decimal n) (decimal_is_IsNumeral n small).0.1)

-- the first part ends where the byte stands first, or it is all
pub split_first : (byte : ℕ) (xs ys : List ℕ) → lacks byte xs ≡ true →
    slice_split (λ c. eqb c byte) (xs ++ byte ∷ ys) ≡ xs ∷ slice_split (λ c. eqb c byte) ys
split_first byte [] ys e = grind (arith, nat_tests)
split_first byte (x ∷ xs) ys e =
    let h = and_parts (not (eqb x byte)) (lacks byte xs) e in
    grind (arith, nat_tests, split_first byte xs ys h.1, h.0)

-- a text that lacks it is one part
pub split_last : (byte : ℕ) (xs : List ℕ) → lacks byte xs ≡ true → slice_split (λ c. eqb c byte) xs ≡ xs ∷ []
split_last byte [] e = refl
split_last byte (x ∷ xs) e =
    let h = and_parts (not (eqb x byte)) (lacks byte xs) e in
    grind (arith, nat_tests, split_last byte xs h.1, h.0)

-- no byte in front of the end is the one that parts
whole_by : (byte : ℕ) (bs : List ℕ) → length bs ≤ prefix_len (λ c. not (eqb c byte)) bs →
    slice_split (λ c. eqb c byte) bs ≡ bs ∷ []
whole_by byte [] h = refl
whole_by byte (c ∷ cs) h = grind (arith, nat_tests, whole_by byte cs)

none_by : (byte n : ℕ) (bs : List ℕ) (b : Bool) → n ≡ prefix_len (λ c. not (eqb c byte)) bs → ltb n (length bs) ≡ b →
    None ≡ cond b (Some n) None → slice_split (λ c. eqb c byte) bs ≡ bs ∷ []
none_by byte n bs true is h e = cc
none_by byte n bs false is h e = let past = ltb-false n (length bs) h in whole_by byte bs (omega arith)

-- where the byte is not found, the text is one part
pub split_none : (byte : ℕ) (bs : List ℕ) → None ≡ position (λ c. eqb c byte) bs →
    slice_split (λ c. eqb c byte) bs ≡ bs ∷ []
split_none byte bs e = none_by byte _ bs _ refl refl e

some_by : (byte at : ℕ) (bs : List ℕ) (b : Bool) →
    ltb (prefix_len (λ c. not (eqb c byte)) bs) (length bs) ≡ b →
    Some at ≡ cond b (Some (prefix_len (λ c. not (eqb c byte)) bs)) None →
    slice_split (λ c. eqb c byte) bs ≡ take at bs ∷ slice_split (λ c. eqb c byte) (drop (at + 1) bs)
some_by byte at bs true h e =
    let same : at ≡ prefix_len (λ c. not (eqb c byte)) bs = cc in
    slice_split_first (λ c. eqb c byte) bs 0 (ltb-true _ _ h)
    ∙ ap (λ n. take n bs ∷ slice_split (λ c. eqb c byte) (drop (n + 1) bs)) (sym same)
some_by byte at bs false h e = cc

-- where it is found, it ends the first part
pub split_some : (byte at : ℕ) (bs : List ℕ) → Some at ≡ position (λ c. eqb c byte) bs →
    slice_split (λ c. eqb c byte) bs ≡ take at bs ∷ slice_split (λ c. eqb c byte) (drop (at + 1) bs)
split_some byte at bs e = some_by byte at bs _ refl e
