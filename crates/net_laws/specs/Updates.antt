-- Functions that are changed at one place.
use Rattle.std.specs.Prelude.{ℕ, ◌+◌, ◌==◌, if◌then◌else◌}

abbrev pub set_at : {X : Type 0} → ℕ → X → (ℕ → X) → ℕ → X
set_at n x f k = if k == n then x else f k

-- the progress of all nodes at all origins, where n has applied one more event of x
abbrev pub one_more : ℕ → ℕ → (ℕ → ℕ → ℕ) → ℕ → ℕ → ℕ
one_more n x progress = set_at n (set_at x (progress n x + 1) (progress n)) progress
