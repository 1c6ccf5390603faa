-- The order of spelled numbers is that of the numbers.
use Rattle.std.proofs.Common.{◌≡◌, ◌⊎◌, ◌++◌, ◌≤◌, inl, inr, ℕ, ◌+◌, ◌*◌, ◌^◌, ◌<◌, Bool, true, false, cond, List, []}
use Rattle.std.proofs.Common.{◌∷◌, length, refl, sym, ap, subst, ◌∙◌, arith}
use Rattle.std.specs.Prelude.{◌==◌, nat_lt}
use Rattle.std.specs.declared.cmp.Ordering.TheVariants.{Less, Equal, Greater}
use Rattle.std.specs.Ordering.{nat_cmp, ordering_then, ordering_reverse}
use Rattle.std.specs.Cmp.Lexicographic.{nat_list_cmp_total}
use Rattle.std.specs.FinMap.{nat_cmp-IsAntisymmetric}
use Rattle.std.proofs.lemmas.Nat.{from_be_bytes-to_be_bytes_8}
use borrow.Author.Tests.{ltb-true}
use Rattle.std.proofs.lemmas.Bool.{cases_lt, eqb-true, false_from_ne_true, le-ltb, lt-ltb}
use Rattle.std.specs.Cmp.{nat_cmp_total, tied_itself}
use Rattle.slon_base.specs.Keeper.{key_cmp}
use Rattle.slon_base.specs.Codec.{number_bytes}
use Rattle.slon_base.proofs.Spelled.{number_bytes-same, length-number_bytes}
use Rattle.slon_base.proofs.Order.{same_keys}

-- the number that bytes spell, behind one
worth : ℕ → List ℕ → ℕ
worth n [] = n
worth n (b ∷ bs) = worth (n * 256 + b) bs

AreSmall : List ℕ → Type 0
AreSmall [] = Unit {0}
AreSmall (b ∷ bs) = (b < 256) × AreSmall bs

less_behind : (m n : ℕ) (xs ys : List ℕ) → m < n → AreSmall xs → length xs ≡ length ys → worth m xs < worth n ys
unfolding worth AreSmall
less_behind m n [] [] less small same = less
less_behind m n [] (y ∷ ys) less small same = absurd (omega (arith, same))
less_behind m n (x ∷ xs) [] less small same = absurd (omega (arith, same))
less_behind m n (x ∷ xs) (y ∷ ys) less small same = less_behind (m * 256 + x) (n * 256 + y) xs ys
    (omega (arith, small.0)) small.1 (omega (arith, same))

less_is : (x y : ℕ) → nat_cmp x y ≡ Less → x < y
less_is x y is =
    elim (nat_lt x y) as (λ b. nat_lt x y ≡ b → cond b Less (cond (x == y) Equal Greater) ≡ Less → x < y) [
      | true ↦ λ t e. ltb-true x y t
      | false ↦ λ t e. absurd (never (x == y) e)
    ] refl is
  where
    never : (b : Bool) → cond b Equal Greater ≡ Less → ⊥
    never true e = cc
    never false e = cc

less_worth : (n : ℕ) (xs ys : List ℕ) → AreSmall xs → length xs ≡ length ys → key_cmp xs ys ≡ Less →
    worth n xs < worth n ys
unfolding worth AreSmall
less_worth n [] [] small same less = absurd cc
less_worth n [] (y ∷ ys) small same less = absurd (omega (arith, same))
less_worth n (x ∷ xs) [] small same less = absurd (omega (arith, same))
less_worth n (x ∷ xs) (y ∷ ys) small same less =
    elim (nat_cmp x y) as (λ o. nat_cmp x y ≡ o → ordering_then o (key_cmp xs ys) ≡ Less →
    worth (n * 256 + x) xs < worth (n * 256 + y) ys) [
      | Less ↦ λ is e. less_behind (n * 256 + x) (n * 256 + y) xs ys (omega (arith, less_is x y is)) small.1
          (omega (arith, same))
      | Equal ↦ λ is e. subst (λ k. worth (n * 256 + x) xs < worth (n * 256 + k) ys) (nat_cmp-IsAntisymmetric x y is)
          (less_worth (n * 256 + x) xs ys small.1 (omega (arith, same)) e)
      | Greater ↦ λ is e. absurd cc
    ] refl less

small_bytes : (n : ℕ) → AreSmall (number_bytes n)
unfolding AreSmall number_bytes
small_bytes n = (
  omega arith,
  (omega arith, (omega arith, (omega arith, (omega arith, (omega arith, (omega arith, (omega arith, tt))))))),
)

worth_is : (n : ℕ) → n < 2 ^ 64 → worth 0 (number_bytes n) ≡ n
unfolding worth number_bytes
worth_is n fits = omega (arith, from_be_bytes-to_be_bytes_8 n fits)

below : (m n : ℕ) → m < 2 ^ 64 → n < 2 ^ 64 → key_cmp (number_bytes m) (number_bytes n) ≡ Less → m < n
below m n a b less = omega (
  arith,
  worth_is m a,
  worth_is n b,
  less_worth 0 (number_bytes m) (number_bytes n)
      (small_bytes m) (length-number_bytes m ∙ sym (length-number_bytes n)) less,
)

pub numbers_ordered : (m n : ℕ) → m < n → n < 2 ^ 64 → key_cmp (number_bytes m) (number_bytes n) ≡ Less
numbers_ordered m n less fits =
    elim (key_cmp (number_bytes m) (number_bytes n)) as (λ o. key_cmp (number_bytes m) (number_bytes n) ≡ o →
    o ≡ Less) [
      | Less ↦ λ is. refl
      | Equal ↦ λ is. absurd (omega (
        arith,
        number_bytes-same m n (omega arith) fits (same_keys (number_bytes m)
            (number_bytes n) is),
      ))
      | Greater ↦ λ is. absurd (omega (
        arith,
        below n m fits (omega arith) (nat_list_cmp_total.antisymm (number_bytes n)
            (number_bytes m) ∙ ap ordering_reverse is),
      ))
    ] refl

-- ---- what follows numbers

-- fronts of one length decide
pub less_front : (u v x y : List ℕ) → length u ≡ length v → key_cmp u v ≡ Less → key_cmp (u ++ x) (v ++ y) ≡ Less
less_front [] [] x y same less = absurd cc
less_front [] (b ∷ v) x y same less = absurd (omega (arith, same))
less_front (a ∷ u) [] x y same less = absurd (omega (arith, same))
less_front (a ∷ u) (b ∷ v) x y same less =
    elim (nat_cmp a b) as (λ o. ordering_then o (key_cmp u v) ≡ Less →
    ordering_then o (key_cmp (u ++ x) (v ++ y)) ≡ Less) [
      | Less ↦ λ is. refl
      | Equal ↦ λ is. less_front u v x y (omega (arith, same)) is
      | Greater ↦ λ is. is
    ] less

-- what follows the same front decides
pub behind_front : (p x y : List ℕ) → key_cmp (p ++ x) (p ++ y) ≡ key_cmp x y
behind_front [] x y = refl
behind_front (a ∷ p) x y =
    ap (λ o. ordering_then o (key_cmp (p ++ x) (p ++ y))) (tied_itself nat_cmp_total a) ∙ behind_front p x y

-- of two rows that begin with numbers these decide, where they differ
pub numbers_decide : (m n : ℕ) → m < 2 ^ 64 → n < 2 ^ 64 → (m ≡ n → ⊥) → (x y : List ℕ) →
    nat_cmp m n ≡ key_cmp (number_bytes m ++ x) (number_bytes n ++ y)
numbers_decide m n one two differ x y = by (cases_lt m n) (cases_lt n m)
  where
    same_length : (a b : ℕ) → length (number_bytes a) ≡ length (number_bytes b)
    same_length a b = length-number_bytes a ∙ sym (length-number_bytes b)

    by : (m < n) ⊎ (n ≤ m) → (n < m) ⊎ (m ≤ n) → nat_cmp m n ≡ key_cmp (number_bytes m ++ x) (number_bytes n ++ y)
    by (inl less) other =
        ap (λ b. cond b Less (cond (m == n) Equal Greater)) (lt-ltb m n less)
        ∙ sym (less_front (number_bytes m) (number_bytes n) x y (same_length m n) (numbers_ordered m n less two))
    by (inr le) (inl more) =
        ap (λ b. cond b Less (cond (m == n) Equal Greater)) (le-ltb m n le)
        ∙ ap (λ b. cond b Equal Greater) (false_from_ne_true (m == n) (λ is. differ (eqb-true m n is)))
        ∙ sym (nat_list_cmp_total.antisymm (number_bytes m ++ x) (number_bytes n ++ y)
        ∙ ap ordering_reverse (less_front (number_bytes n) (number_bytes m) y x (same_length n m)
        (numbers_ordered n m more one)))
    by (inr le) (inr ge) =
        let same : m ≡ n = omega arith in absurd (differ same)
