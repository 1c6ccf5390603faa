-- Which listed calls are still to come, and whether the next one is listed.
use Rattle.std.proofs.Common.{◌≡◌, ℕ, ◌+◌, ◌≤◌, ◌<◌, ◌==◌, ◌||◌, ◌&&◌, ◌-◌, ◌^◌, Bool, true, false, cond, not, List, []}
use Rattle.std.proofs.Common.{◌∷◌, get_or, Result, Ok, Err, nat_lt, arith, sym, ap, subst, ◌∙◌, refl}
use Rattle.std.specs.Prelude.{is_err}
use Rattle.std.specs.List.{list_any}
use Rattle.std.specs.List.Sorted.{IsBinarySearchResult, IsPermutation, IsNonDecreasing}
use Rattle.std.specs.Ordering.{nat_cmp}
use Rattle.std.proofs.lemmas.Bool.{eqb-true, eq-eqb, ltb-true, ltb-false}
use Rattle.std.proofs.lemmas.Bool.Decides.{nat_tests}
use Rattle.std.proofs.lemmas.List.Elements.{All-from_get_or}
use Rattle.std.proofs.lemmas.List.Folds.{list_any_at, list_any_none}
use Rattle.std.proofs.lemmas.List.Sorted.{searched, sum_by-IsPermutation}
use Rattle.std.proofs.lemmas.List.Sums.{sum_by-cons}
use Rattle.node_keeper.specs.Plan.{left, is_due}

one_more : (x calls : ℕ) (b : Bool) →
    cond (nat_lt (calls + 1) x) 1 0 + cond (x == calls + 1 || b) 1 0 ≤ cond (nat_lt calls x) 1 0 + cond b 1 0
one_more x calls b = grind (arith, nat_tests)

pub left_after : (fails : List ℕ) (calls : ℕ) →
    left fails (calls + 1) + cond (list_any (λ n. n == calls + 1) fails) 1 0 ≤ left fails calls
left_after [] calls = omega arith
left_after (x ∷ fails) calls =
    omega (
      arith,
      sum_by-cons (λ n. cond (nat_lt (calls + 1) n) 1 0) x fails,
      sum_by-cons (λ n. cond (nat_lt calls n) 1 0) x fails,
      one_more x calls (list_any (λ n. n == calls + 1) fails),
      left_after fails calls,
    )

-- a list in another order lists as many calls to come
pub left_alike : (xs ys : List ℕ) (calls : ℕ) → IsPermutation xs ys → left ys calls ≡ left xs calls
left_alike xs ys calls same = sum_by-IsPermutation (λ n. cond (nat_lt calls n) 1 0) xs ys same

other : (m n : ℕ) → (m ≡ n → ⊥) → (m == n) ≡ false
other m n differ = elim (m == n) as (λ b. (m == n) ≡ b → b ≡ false) [
  | true ↦ λ is. absurd (differ (eqb-true m n is))
  | false ↦ λ is. refl
] refl

-- a search of the listed numbers fails where the number is not listed
pub searched_list : (fails : List ℕ) (call : ℕ) (found : Result ℕ ℕ) → IsNonDecreasing fails →
    IsBinarySearchResult (λ n. nat_cmp n call) fails found → list_any (λ n. n == call) fails ≡ not (is_err found)
searched_list fails call (Ok i) rising search_is =
    let at = searched fails call (Ok i) search_is (λ a b le below. rising a b 0 le below) in
    list_any_at (λ n. n == call) fails i 0 at.0 (eq-eqb _ call at.1)
searched_list fails call (Err i) rising search_is =
    let at = searched fails call (Err i) search_is (λ a b le below. rising a b 0 le below) in
    list_any_none (λ n. n == call) fails (All-from_get_or (λ n. (n == call) ≡ false) fails 0 (λ k below.
    elim (nat_lt k i) as (λ b. nat_lt k i ≡ b → (get_or fails k 0 == call) ≡ false) [
      | true ↦ λ before. other _ call (λ same. omega (arith, same, at.1 k (ltb-true k i before)))
      | false ↦ λ behind. other _ call (λ same. omega (arith, same, at.2 k (ltb-false k i behind) below))
    ] refl))

below_last : (calls : ℕ) → calls < 2 ^ 64 - 1 → nat_lt calls (2 ^ 64 - 1) ≡ true
below_last calls below = elim (nat_lt calls (2 ^ 64 - 1)) as (λ b. nat_lt calls (2 ^ 64 - 1) ≡ b → b ≡ true) [
  | true ↦ λ is. refl
  | false ↦ λ is. absurd (omega (arith, below, ltb-false calls (2 ^ 64 - 1) is))
] refl

-- what a search says of the next call
pub due_is : (fails : List ℕ) (calls : ℕ) (found : Result ℕ ℕ) → calls < 2 ^ 64 - 1 → IsNonDecreasing fails →
    IsBinarySearchResult (λ n. nat_cmp n (calls + 1)) fails found → not (is_err found) ≡ is_due fails calls
due_is fails calls found below rising search_is =
    sym (searched_list fails (calls + 1) found rising search_is)
    ∙ ap (λ b. b && list_any (λ n. n == calls + 1) fails) (sym (below_last calls below))

-- how many are left where the call was listed, or not
pub left_due : (fails : List ℕ) (calls : ℕ) (found : Result ℕ ℕ) → IsNonDecreasing fails →
    IsBinarySearchResult (λ n. nat_cmp n (calls + 1)) fails found →
    left fails (calls + 1) + cond (not (is_err found)) 1 0 ≤ left fails calls
left_due fails calls found rising search_is =
    subst (λ b. left fails (calls + 1) + cond b 1 0 ≤ left fails calls)
    (searched_list fails (calls + 1) found rising search_is)
    (left_after fails calls)
