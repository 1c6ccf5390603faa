-- Plain numbers, read digit by digit.
use Rattle.std.proofs.Common.{◌≡◌, ℕ, ◌+◌, ◌-◌, ◌*◌, ◌<◌, ◌≤◌, leb, cond, ◌&&◌, false, List, [], ◌∷◌, length, drop}
use Rattle.std.proofs.Common.{get_or, Some, None, ap, arith}
use Rattle.std.proofs.lemmas.Bool.{and_right}
use Rattle.std.proofs.lemmas.Bool.Decides.{nat_tests}
use Rattle.std.proofs.lemmas.List.{at_drop_more}
use Rattle.slon_model.specs.Forms.{is_plain_number, value_from, number_between}

-- more digits make no smaller number
value_from-ge : (n : ℕ) (ds : List ℕ) → n ≤ value_from n ds
value_from-ge n [] = omega arith
value_from-ge n (d ∷ ds) = omega (arith, value_from-ge (10 * n + (d - 48)) ds)

past_high : (low high : ℕ) (word : List ℕ) → high < value_from 0 word → number_between low high word ≡ None
past_high low high word h =
    let no : leb (value_from 0 word) high ≡ false = grind (arith, nat_tests) in
    ap (λ b. cond b (Some (value_from 0 word)) None)
    (and_right (is_plain_number word && leb low (value_from 0 word)) (leb (value_from 0 word) high) no)

-- one more digit passes the highest number
pub number_past : (low high n i : ℕ) (word : List ℕ) → value_from n (drop i word) ≡ value_from 0 word →
    i < length word → high < 10 * n + (get_or word i 0 - 48) → number_between low high word ≡ None
number_past low high n i word e within h =
    let step = at_drop_more (value_from n) word i 0 within in
    past_high low high word (omega (arith, step, value_from-ge (10 * n + (get_or word i 0 - 48)) (drop (i + 1) word)))
