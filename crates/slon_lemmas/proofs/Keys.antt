-- Keys of bytes, in the order of their bytes.
use Rattle.std.proofs.Common.{◌≡◌, ℕ, true, false, T, List, refl, ap}
use Rattle.std.proofs.lemmas.Bool.{false≢true, false_from_ne_true}
use Rattle.std.specs.Cmp.{tied_itself}
use Rattle.std.specs.Cmp.Lexicographic.{slice_cmp, nat_list_cmp_total}
use Rattle.std.specs.FinMap.{nat_cmp-IsAntisymmetric, slice_cmp-IsAntisymmetric}
use Rattle.std.specs.Ordering.{nat_cmp, is_eq, is_lt}
use Rattle.std.specs.declared.cmp.Ordering.{Ordering}
use Rattle.std.specs.declared.cmp.Ordering.TheVariants.{Less, Equal}

-- keys that tie are the same
pub same_keys : (x y : List ℕ) → slice_cmp nat_cmp x y ≡ Equal → x ≡ y
same_keys = slice_cmp-IsAntisymmetric nat_cmp-IsAntisymmetric

-- what the test for a tie says of an ordering
pub equal_of : (o : Ordering) → is_eq o ≡ true → o ≡ Equal
equal_of Equal t = refl
equal_of others t = absurd (false≢true t)

-- what the test for `Less` says of an ordering
pub less_of : (o : Ordering) → T (is_lt o) → o ≡ Less
less_of Less t = refl
less_of others t = absurd t

-- a key ties with itself
pub tied : (x : List ℕ) → is_eq (slice_cmp nat_cmp x x) ≡ true
tied x = ap is_eq (tied_itself nat_list_cmp_total x)

-- keys that differ do not tie
pub apart : (x y : List ℕ) → (x ≡ y → ⊥) → is_eq (slice_cmp nat_cmp x y) ≡ false
apart x y differ = false_from_ne_true _ (λ ties. differ (same_keys x y (equal_of _ ties)))
