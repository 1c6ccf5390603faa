-- Numbers that are printed.
use Rattle.std.proofs.Common.{◌≡◌, ℕ, ◌+◌, ◌<◌, ◌≤◌, ◌^◌, ◌↔◌, Bool, true, false, List, [], ◌∷◌, length, Result, Ok, Err}
use Rattle.std.proofs.Common.{IsTrue, nat_eq, slice_index_or, ap, sym, ◌∙◌, arith}
use Rattle.std.proofs.lemmas.Bool.Decides.{nat_tests}
use Rattle.std.proofs.lemmas.Fmt.{parse-decimal, decimal_digit}
use Rattle.std.specs.Fmt.{decimal}
use Rattle.std.specs.Str.Parse.{ParsesUnsigned}
use Rattle.change_capture.specs.Reading.{IsPrinted}

pub small : (n : ℕ) → n < 2 ^ 32 → n < 2 ^ 64
small n fits = omega arith

-- a text that is not what is printed for a number is not what is printed for the same number
pub not_printed : (is : Bool) (text : List ℕ) (m n : ℕ) → is ≡ false → (IsTrue is ↔ (text ≡ decimal m)) → m ≡ n →
    text ≡ decimal n → ⊥
not_printed is text m n not when same e = let holds = when.1 (e ∙ ap decimal (sym same)) in cc

-- what is printed for a number is parsed
pub parsed : (m n : ℕ) (text shown : List ℕ) → shown ≡ text → IsPrinted text n →
    ParsesUnsigned {E = ℕ} 32 10 shown (Ok m) → m ≡ n
parsed m n text shown same h read =
    let is : ◌≡◌ {A = Result ℕ ℕ} (Ok m) (Ok n) =
    parse-decimal {E = ℕ} 32 n shown (Ok m) h.fits (small n h.fits) (same ∙ h.is) read in
    cc

pub unparsed : (n : ℕ) (text shown : List ℕ) → shown ≡ text → IsPrinted text n →
    ParsesUnsigned {E = ℕ} 32 10 shown (Err 0) → ⊥
unparsed n text shown same h read =
    let is : ◌≡◌ {A = Result ℕ ℕ} (Err 0) (Ok n) =
    parse-decimal {E = ℕ} 32 n shown (Err 0) h.fits (small n h.fits) (same ∙ h.is) read in
    cc

-- a text of one byte is a digit
pub digit_is : (text : List ℕ) (d : ℕ) → 1 ≤ length text → length text < 2 → d < 10 →
    IsTrue (nat_eq (slice_index_or text 0 0) (48 + d)) ↔ (text ≡ decimal d)
digit_is [] d some few small = absurd (omega (arith, some))
digit_is (x ∷ []) d some few small = rw (decimal_digit d small) (
  λ is. let same : x ≡ 48 + d = grind (arith, nat_tests) in ap (λ b. b ∷ []) same,
  λ is. let same : x ≡ 48 + d = cc in grind (arith, nat_tests),
)
digit_is (x ∷ y ∷ more) d some few small = absurd (omega (arith, few))

-- one of more bytes, or of none, is not
pub no_digit : (text : List ℕ) (d : ℕ) → d < 10 → (length text ≡ 1 → ⊥) → IsTrue false ↔ (text ≡ decimal d)
no_digit text d small other = (
  λ is. let same : false ≡ true = is in cc,
  λ is. absurd (other (ap length (is ∙ decimal_digit d small))),
)
