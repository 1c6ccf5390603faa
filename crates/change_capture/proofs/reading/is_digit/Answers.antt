use Rattle.std.proofs.Common.{ℕ, ap, length, List, arith}
use Rattle.change_capture.proofs.Numbers.{digit_is, no_digit}
use Rattle.change_capture.proofs.reading.is_digit.Goals as goal

pub returns-in-len1 : goal.returns-in-len1
returns-in-len1 c =
    rw (← c.as_bytes.ensures.value)
    (digit_is c.as_bytes.result.now c.args.digit c.in-len1.len_at_least c.in-len1.len_below c.requires)

pub returns-in_default : goal.returns-in_default
returns-in_default c =
    no_digit c.args.text.now c.args.digit c.requires
    (λ one. omega (arith, one, ap (λ (l : List ℕ). length l) c.as_bytes.ensures.value, c.in_default.len_below))

pub returns-in_default-2 : goal.returns-in_default-2
returns-in_default-2 c =
    no_digit c.args.text.now c.args.digit c.requires
    (λ one. omega (arith, one, ap (λ (l : List ℕ). length l) c.as_bytes.ensures.value, c.in_default.len_at_least))
