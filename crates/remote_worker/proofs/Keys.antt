-- Maps with keys that are numbers.
use Rattle.std.proofs.Common.{◌≡◌, ◌==◌, ℕ, Bool, true, false, cond, nat_lt, refl, sym, arith}
use Rattle.std.specs.declared.cmp.Ordering.TheVariants.{Less, Equal, Greater}
use Rattle.std.specs.Ordering.{is_eq, nat_cmp}
use Rattle.std.proofs.lemmas.Bool.{ltb-true, ne_eqb}

-- the test of two keys
pub key_is : (a b : ℕ) → is_eq (nat_cmp a b) ≡ (a == b)
key_is a b = by (nat_lt a b) refl
  where
    same : (t : Bool) → is_eq (cond t Equal Greater) ≡ t
    same true = refl
    same false = refl

    by : (t : Bool) → nat_lt a b ≡ t → is_eq (cond t Less (cond (a == b) Equal Greater)) ≡ (a == b)
    by true is = let less = ltb-true a b is in sym (ne_eqb a b (λ equal. omega (arith, less, equal)))
    by false is = same (a == b)
