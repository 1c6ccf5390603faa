-- Numbers, read digit by digit.
use Rattle.std.proofs.Common.{◌≡◌, ℕ, ◌+◌, ◌-◌, ◌*◌, ◌<◌, ◌≤◌, leb, cond, false, List, [], ◌∷◌, length, drop, get_or}
use Rattle.std.proofs.Common.{Some, None, ap, arith}
use Rattle.std.proofs.lemmas.Bool.{and_right}
use Rattle.std.proofs.lemmas.Bool.Decides.{nat_tests}
use Rattle.std.proofs.lemmas.List.{at_drop_more}
use Rattle.slonik_parse.specs.Values.{are_digits, value_from, magnitude}

-- more digits make no smaller number
value_from-ge : (n : ℕ) (ds : List ℕ) → n ≤ value_from n ds
value_from-ge n [] = omega arith
value_from-ge n (d ∷ ds) = omega (arith, value_from-ge (10 * n + (d - 48)) ds)

past_high : (high : ℕ) (digits : List ℕ) → high < value_from 0 digits → magnitude high digits ≡ None
past_high high digits h =
    let no : leb (value_from 0 digits) high ≡ false = grind (arith, nat_tests) in
    ap (λ b. cond b (Some (value_from 0 digits)) None)
    (and_right (are_digits digits) (leb (value_from 0 digits) high) no)

-- one more digit passes the highest number
pub number_past : (high n i : ℕ) (digits : List ℕ) → value_from n (drop i digits) ≡ value_from 0 digits →
    i < length digits → high < 10 * n + (get_or digits i 0 - 48) → magnitude high digits ≡ None
number_past high n i digits e within h =
    let step = at_drop_more (value_from n) digits i 0 within in
    past_high high digits (omega (arith, step, value_from-ge (10 * n + (get_or digits i 0 - 48)) (drop (i + 1) digits)))
