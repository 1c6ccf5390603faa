-- How far nodes have come in each other's streams, and what they were told of it.
use Rattle.std.specs.Prelude.{◌≡◌, ℕ, ◌+◌, ◌<◌, ◌≤◌, max, ◌==◌, if◌then◌else◌}
use Rattle.net_laws.specs.Updates.{set_at, one_more}

pub record Confirmations : Type 0 where
  -- of the stream of each origin
  pub lengths : ℕ → ℕ
  -- of each node, at each origin other than it
  pub progress : ℕ → ℕ → ℕ
  -- what a node was told of an origin's events at another node
  pub told : ℕ → ℕ → ℕ → ℕ

-- what n says of the progress of r at origin x
abbrev pub tells : Confirmations → ℕ → ℕ → ℕ → ℕ
tells h n x r = if n == r then h.progress n x else h.told n x r

-- n is told number k of the progress of r at origin x
abbrev pub heard_more : ℕ → ℕ → ℕ → ℕ → Confirmations → Confirmations
heard_more n x r k h = record h { told = set_at n (set_at x (set_at r k (h.told n x)) (h.told n)) h.told }

pub data Step (h g : Confirmations) : Type 0 where
  -- x emits an event
  Grows : (x : ℕ) → g ≡ record h { lengths = set_at x (h.lengths x + 1) h.lengths } → Step h g
  -- n applies an event of x
  Goes : (n x : ℕ) → h.progress n x < h.lengths x → g ≡ record h { progress = one_more n x h.progress } → Step h g
  -- n polls p; a new node takes over all that its event node says
  Polls : (n p x r : ℕ) → g ≡ heard_more n x r (max (h.told n x r) (tells h p x r)) h → Step h g

pub data Leads (h : Confirmations) : Confirmations → Type 0 where
  Here : Leads h h
  More : {g k : Confirmations} → Leads h g → Step g k → Leads h k

abbrev pub silent : Confirmations
silent = record { lengths = λ x. 0; progress = λ n x. 0; told = λ n x r. 0 }

-- Told numbers are behind progress, and progress is behind the stream.
abbrev pub ToldIsBehind : Type 0
ToldIsBehind =
    (h : Confirmations) → Leads silent h → (n x r : ℕ) →
    (tells h n x r ≤ h.progress r x) × (h.progress r x ≤ h.lengths x)
