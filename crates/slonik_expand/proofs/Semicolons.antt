-- Where the tokens before a `;` end.
use Rattle.std.proofs.Common.{◌≡◌, ℕ, ◌+◌, ◌<◌, ◌≤◌, ltb, cond, not, Bool, true, false, List, [], ◌∷◌, ◌++◌, length}
use Rattle.std.proofs.Common.{take, drop, Some, None, refl, ap, ◌∙◌, arith, inl, inr}
use Rattle.std.proofs.Math.Numerals.{one-add}
use Rattle.std.proofs.lemmas.Bool.{cases_lt}
use Rattle.std.proofs.lemmas.Bool.Decides.{nat_tests}
use Rattle.std.proofs.lemmas.List.{drop-append-le, length-append, length-take, drop_all}
use Rattle.std.specs.List.{position, position_or_len}
use Rattle.std.specs.Option.{option_map}
use Rattle.slonik_tokens.specs.Tokens.{is_sign}
use Rattle.slonik_tokens.specs.declared.token.Sign.TheVariants.{Semicolon}
use Rattle.slonik_tokens.specs.declared.token.Token.{Token}
use Rattle.slonik_expand.specs.Expansion.{before_semicolon}
use Rattle.slonik_expand.proofs.Keeping.{OneOf, take_one}

before_step : (t : Token) (ts : List Token) (n : ℕ) (b : Bool)
    → before_semicolon ts ≡ option_map (λ i. take i ts) (cond (ltb n (length ts)) (Some n) None)
    → cond b (Some []) (option_map (λ front. t ∷ front) (before_semicolon ts))
    ≡ option_map (λ i. take i (t ∷ ts)) (cond (ltb (cond (not b) (1 + n) 0) (length (t ∷ ts)))
    (Some (cond (not b) (1 + n) 0)) None)
before_step t ts n true h = grind (arith, nat_tests)
before_step t ts n false h = rw (one-add, h) (grind (arith, nat_tests))

pub before_is : (ts : List Token)
    → before_semicolon ts ≡ option_map (λ i. take i ts) (position (λ t. is_sign Semicolon t) ts)
before_is [] = refl
before_is (t ∷ ts) =
    before_step t ts (position_or_len (λ t. is_sign Semicolon t) ts) (is_sign Semicolon t) (before_is ts)

before_none : (xs : List Token) (t : Token) → before_semicolon xs ≡ None → is_sign Semicolon t ≡ false
    → before_semicolon (xs ++ t ∷ []) ≡ None
before_none [] t h other = grind (arith, nat_tests)
before_none (x ∷ xs) t h other = grind (arith, nat_tests, before_none xs t)

-- no `;` stands there or behind it
abbrev pub IsClosed : List Token → ℕ → Type 0
IsClosed ts len = (n : ℕ) → len ≤ n → before_semicolon (drop n ts) ≡ None

longer : (xs : List Token) (n : ℕ) (t : Token) → length xs < n → length (xs ++ t ∷ []) ≤ n
longer xs n t h = omega (arith, length-append xs (t ∷ []))

past : (ts : List Token) (n : ℕ) → length ts ≤ n → before_semicolon (drop n ts) ≡ None
past ts n h = ap before_semicolon (drop_all n ts h)

other_by : (xs : List Token) (n : ℕ) (t : Token) → is_sign Semicolon t ≡ false → before_semicolon (drop n xs) ≡ None
    → before_semicolon (drop n (xs ++ t ∷ [])) ≡ None
other_by xs n t other h =
    elim (cases_lt (length xs) n) [
      | inl more ↦ past (xs ++ t ∷ []) n (longer xs n t more)
      | inr less ↦ ap before_semicolon (drop-append-le n xs (t ∷ []) less) ∙ before_none (drop n xs) t h other
    ]

pub closed_other : (ts : List Token) (len : ℕ) (one : OneOf ts) → is_sign Semicolon one.token ≡ false
    → IsClosed (take one.at ts) len → IsClosed (take (one.at + 1) ts) len
closed_other ts len one other closed n h =
    ap (λ l. before_semicolon (drop n l)) (take_one ts one)
    ∙ other_by (take one.at ts) n one.token other (closed n h)

pub closed_here : (ts : List Token) (i : ℕ) → IsClosed (take (i + 1) ts) (i + 1)
closed_here ts i n h = past (take (i + 1) ts) n (omega (arith, length-take (i + 1) ts))
