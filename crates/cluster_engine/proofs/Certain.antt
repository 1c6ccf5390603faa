-- Where a store can fail no more nothing fails.
use Rattle.std.proofs.Common.{◌≡◌, ℕ, suc, Bool, true, false, Option, Some, None, refl, sym, ap, subst, arith}
use Rattle.std.specs.Option.{option_map}
use Rattle.slon_base.specs.Counts.{Within}
use Rattle.store_rows.specs.Spending.{IsAtMost, Stays, Spends}

at_most_none : (left : Option ℕ) → IsAtMost 0 left → left ≡ Some 0
unfolding IsAtMost
at_most_none None most = absurd most
at_most_none (Some n) most = let none : n ≡ 0 = omega (arith, most) in ap (λ k. Some k) none

none_at_most : (left : Option ℕ) → left ≡ Some 0 → IsAtMost 0 left
unfolding IsAtMost
none_at_most left is = subst (λ o. Within (Some 0) o) (sym is) (omega arith)

none_taken : (left : Option ℕ) → IsAtMost 0 (option_map suc left) → ⊥
unfolding IsAtMost
none_taken None most = most
none_taken (Some n) most = omega (arith, most)

-- where none can fail none fails
pub stays_none : (old new : Option ℕ) → Stays old new → old ≡ Some 0 → new ≡ Some 0
stays_none old new stays is = at_most_none new (stays 0 (none_at_most old is))

pub never_fails : (failed : Bool) (old new : Option ℕ) → Spends failed old new → old ≡ Some 0 → failed ≡ false
never_fails false old new spends is = refl
never_fails true old new spends is = absurd (none_taken new (spends refl 0 (none_at_most old is)))
