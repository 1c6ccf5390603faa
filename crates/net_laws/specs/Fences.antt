-- How far nodes come in the stream of one failed node, behind their fences.
use Rattle.std.specs.Prelude.{◌≡◌, ℕ, ◌+◌, ◌≤◌, Option, Some, None}
use Rattle.net_laws.specs.Updates.{set_at}

pub record Fences : Type 0 where
  -- of each node, in the stream of the failed one
  pub progress : ℕ → ℕ
  -- the number of the last event that a node may apply, where it has a fence
  pub limits : ℕ → Option ℕ

-- Event number most of the failed node is the last one that a survivor may pass; so it is for every plan.
pub data Step (most : ℕ) (w v : Fences) : Type 0 where
  -- a node applies the next event, if its fence has room
  Goes : (n : ℕ) → ((l : ℕ) → w.limits n ≡ Some l → w.progress n + 1 ≤ l) →
      v ≡ record w { progress = set_at n (w.progress n + 1) w.progress } → Step most w v
  -- its fence is written, the first time or again
  Stops : (n : ℕ) → w.progress n ≤ most → v ≡ record w { limits = set_at n (Some (w.progress n)) w.limits } →
      Step most w v
  -- its fence is opened to the limit of the decision
  Opens : (n limit : ℕ) → w.progress n ≤ limit → limit ≤ most →
      v ≡ record w { limits = set_at n (Some limit) w.limits } → Step most w v

pub data Leads (most : ℕ) (w : Fences) : Fences → Type 0 where
  Here : Leads most w w
  More : {u v : Fences} → Leads most w u → Step most u v → Leads most w v

-- Progress of a fenced node never passes its limit, nor what no survivor may pass.
abbrev pub FencesHold : Type 0
FencesHold =
    (most : ℕ) (w v : Fences) → ((n : ℕ) → w.limits n ≡ None) → Leads most w v →
    (n l : ℕ) → v.limits n ≡ Some l → (v.progress n ≤ l) × (l ≤ most)
