-- Functions that are changed at one place.
use Rattle.std.proofs.Common.{◌≡◌, ℕ, ◌+◌, ◌≤◌, true, false, cond, refl, sym, ap, subst, ◌∙◌, arith, ◌⊎◌, inl, inr}
use Rattle.std.specs.Prelude.{◌==◌}
use Rattle.std.proofs.lemmas.Bool.{eqb-true, eqb-false, eq-eqb, ne_eqb, cases_eq, cond-true, cond-false}
use Rattle.net_laws.specs.Updates.{set_at, one_more}

-- what holds of the new value at its place, and of the old ones elsewhere, holds of each
pub set_each : {X : Type 0} (P : ℕ → X → Type 0) (n : ℕ) (x : X) (f : ℕ → X) → P n x →
    ((k : ℕ) → (k ≡ n → ⊥) → P k (f k)) → (k : ℕ) → P k (set_at n x f k)
set_each P n x f new old k = elim (k == n) as (λ b. (k == n) ≡ b → P k (cond b x (f k))) [
  | true ↦ λ is. subst (λ j. P j x) (sym (eqb-true k n is)) new
  | false ↦ λ not. old k (eqb-false k n not)
] refl

pub set_here : {X : Type 0} (n : ℕ) (x : X) (f : ℕ → X) (k : ℕ) → k ≡ n → set_at n x f k ≡ x
set_here n x f k is = cond-true (k == n) x (f k) (eq-eqb k n is)

pub set_other : {X : Type 0} (n : ℕ) (x : X) (f : ℕ → X) (k : ℕ) → (k ≡ n → ⊥) → set_at n x f k ≡ f k
set_other n x f k not = cond-false (k == n) x (f k) (ne_eqb k n not)

-- a number that grows at its place
pub set_more : (n more : ℕ) (f : ℕ → ℕ) (k : ℕ) → f n ≤ more → f k ≤ set_at n more f k
set_more n more f k less = set_each (λ j value. f j ≤ value) n more f less (λ j differ. omega arith) k

-- the progress that has changed is that of n at x
pub one_case : (n x : ℕ) (progress : ℕ → ℕ → ℕ) (k y : ℕ) →
    (one_more n x progress k y ≡ progress k y) ⊎
    ((k ≡ n) × ((y ≡ x) × (one_more n x progress k y ≡ progress n x + 1)))
one_case n x progress k y = elim (cases_eq k n) [
  | inl who ↦
      let new = ap (λ f. f y) (set_here n (set_at x (progress n x + 1) (progress n)) progress k who) in
      elim (cases_eq y x) [
        | inl same ↦ inr (who, (same, new ∙ set_here x (progress n x + 1) (progress n) y same))
        | inr differ ↦
            inl (new ∙ set_other x (progress n x + 1) (progress n) y differ ∙ ap (λ i. progress i y) (sym who))
      ]
  | inr other ↦ inl (ap (λ f. f y) (set_other n (set_at x (progress n x + 1) (progress n)) progress k other))
]

pub one_grows : (n x : ℕ) (progress : ℕ → ℕ → ℕ) (k y : ℕ) → progress k y ≤ one_more n x progress k y
one_grows n x progress k y = elim (one_case n x progress k y) [
  | inl same ↦ omega (arith, same)
  | inr (who, (whose, is)) ↦
      let here = ap (λ i. progress i y) who in
      let there = ap (progress n) whose in
      omega (arith, is, here, there)
]
