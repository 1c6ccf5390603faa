-- The order of keys that are spelled by ids.
use Rattle.std.proofs.Common.{◌≡◌, ◌⊎◌, ℕ, ◌<◌, ◌≤◌, List, [], ◌∷◌, ◌++◌, length, refl, sym, ap, subst, ◌∙◌, inl, inr}
use Rattle.std.proofs.Common.{arith}
use Rattle.std.specs.Cmp.{nat_cmp_total, tied_itself}
use Rattle.std.specs.Cmp.Lexicographic.{nat_list_cmp_total}
use Rattle.std.specs.Ordering.{nat_cmp, ordering_then, ordering_reverse}
use Rattle.std.specs.declared.cmp.Ordering.TheVariants.{Less, Equal, Greater}
use Rattle.std.proofs.lemmas.Bool.{cases_lt}
use Rattle.slon_base.specs.Codec.{number_bytes}
use Rattle.slon_base.specs.Keeper.{key_cmp}
use Rattle.slon_base.proofs.Spelled.{length-number_bytes}
use Rattle.store_rows.specs.Rows.{IsId}
use Rattle.slon_base.proofs.Numbers.{behind_front, less_front, numbers_ordered}
use Rattle.set_config.specs.Holds.{AreIds, pair_key}
use Rattle.set_config.specs.Loaded.{IsPairBefore}

-- the keys of a lesser first id come before, and so does that of a lesser second id behind the same first one
pub first_before : (i j : ℕ × ℕ) → i.0 < j.0 → IsId j.0 → key_cmp (pair_key i) (pair_key j) ≡ Less
first_before i j less id =
    less_front (number_bytes i.0) (number_bytes j.0) (number_bytes i.1) (number_bytes j.1)
    (length-number_bytes i.0 ∙ sym (length-number_bytes j.0)) (numbers_ordered i.0 j.0 less (omega (arith, id.1)))

pub second_before : (first a b : ℕ) → a < b → IsId b → key_cmp (pair_key (first, a)) (pair_key (first, b)) ≡ Less
second_before first a b less id =
    behind_front (number_bytes first) (number_bytes a) (number_bytes b)
    ∙ numbers_ordered a b less (omega (arith, id.1))

-- ---- and the other way round

-- of two keys at most one comes before
one_way : (x y : List ℕ) → key_cmp x y ≡ Less → key_cmp y x ≡ Less → ⊥
one_way x y less more =
    let back : key_cmp x y ≡ Greater = nat_list_cmp_total.antisymm x y ∙ ap ordering_reverse more in
    let bad : Less ≡ Greater = sym less ∙ back in
    cc

no_less : (x : List ℕ) → key_cmp x x ≡ Less → ⊥
no_less x less = let bad : Equal ≡ Less = sym (tied_itself nat_list_cmp_total x) ∙ less in cc

-- one is less, or they are the same, or the other one is
compared : (a b : ℕ) → (a < b) ⊎ ((a ≡ b) ⊎ (b < a))
compared a b = by (cases_lt a b) (cases_lt b a)
  where
    by : (a < b) ⊎ (b ≤ a) → (b < a) ⊎ (a ≤ b) → (a < b) ⊎ ((a ≡ b) ⊎ (b < a))
    by (inl less) other = inl less
    by (inr le) (inl more) = inr (inr more)
    by (inr le) (inr ge) = inr (inl (omega arith))

pub id_before : (a b : ℕ) → IsId a → IsId b → key_cmp (number_bytes a) (number_bytes b) ≡ Less → a < b
id_before a b one two less = by (compared a b)
  where
    by : (a < b) ⊎ ((a ≡ b) ⊎ (b < a)) → a < b
    by (inl is) = is
    by (inr (inl same)) =
        absurd (no_less (number_bytes b) (subst (λ k. key_cmp (number_bytes k) (number_bytes b) ≡ Less) same less))
    by (inr (inr more)) =
        absurd (one_way (number_bytes a) (number_bytes b) less (numbers_ordered b a more (omega (arith, one.1))))

pub pair_before : (i j : ℕ × ℕ) → AreIds i → AreIds j → key_cmp (pair_key i) (pair_key j) ≡ Less → IsPairBefore i j
pair_before i j one two less = by (compared i.0 j.0)
  where
    by : (i.0 < j.0) ⊎ ((i.0 ≡ j.0) ⊎ (j.0 < i.0)) → IsPairBefore i j
    by (inl is) = inl is
    by (inr (inl same)) =
        inr (
          same,
          id_before i.1 j.1 one.1 two.1 (sym (behind_front (number_bytes j.0) (number_bytes i.1)
              (number_bytes j.1)) ∙ subst (λ k. key_cmp (pair_key (k, i.1)) (pair_key j) ≡ Less) same less),
        )
    by (inr (inr more)) = absurd (one_way (pair_key i) (pair_key j) less (first_before j i more one.0))
