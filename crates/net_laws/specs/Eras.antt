-- The eras of one set, as its nodes pass them.
use Rattle.std.specs.Prelude.{◌≡◌, ℕ, ◌+◌, ◌<◌, ◌≤◌, ◌⊎◌}
use Rattle.net_laws.specs.Updates.{set_at, one_more}

pub record Eras : Type 0 where
  -- the number of the last era that was opened; they are counted from 0
  pub count : ℕ
  pub origins : ℕ → ℕ
  -- the number of the event that opened the era, in its origin's stream
  pub opens : ℕ → ℕ
  -- the era that it follows; two may follow one, where a FAILOVER takes a set over that was on its way elsewhere
  pub parents : ℕ → ℕ
  -- the number that a node must have passed in the stream of the parent's origin before it passes the opening
  pub leaves : ℕ → ℕ
  -- the era that a node came to last
  pub era : ℕ → ℕ
  -- the lengths of streams, and the progress of each node at each origin
  pub lengths : ℕ → ℕ
  pub progress : ℕ → ℕ → ℕ

-- y opens the next era in its own stream
abbrev pub opened : ℕ → ℕ → ℕ → Eras → Eras
opened y parent leave w = record w {
  count = w.count + 1;
  origins = set_at (w.count + 1) y w.origins;
  opens = set_at (w.count + 1) (w.lengths y + 1) w.opens;
  parents = set_at (w.count + 1) parent w.parents;
  leaves = set_at (w.count + 1) leave w.leaves;
  era = set_at y (w.count + 1) w.era;
  lengths = set_at y (w.lengths y + 1) w.lengths;
}

-- the next event for n in the stream of x opens no era of the set
abbrev pub OpensNone : Eras → ℕ → ℕ → Type 0
OpensNone w n x = (j : ℕ) → j ≤ w.count → w.origins j ≡ x → w.opens j ≡ w.progress n x + 1 → ⊥

-- The next event for n opens era j. It is refused where the parent of the era is not left.
pub record MayEnter (w : Eras) (n j : ℕ) : Type 0 where
  pub positive : 0 < j
  pub within : j ≤ w.count
  pub next : w.opens j ≡ w.progress n (w.origins j) + 1
  pub left : w.leaves j ≤ w.progress n (w.origins (w.parents j))

pub data Step (w v : Eras) : Type 0 where
  Emits : (x : ℕ) → v ≡ record w { lengths = set_at x (w.lengths x + 1) w.lengths } → Step w v
  Opens : (y parent leave : ℕ) → parent ≤ w.count → w.opens parent ≤ leave → v ≡ opened y parent leave w → Step w v
  Goes : (n x : ℕ) → w.progress n x < w.lengths x → OpensNone w n x →
      v ≡ record w { progress = one_more n x w.progress } → Step w v
  Enters : (n j : ℕ) → MayEnter w n j →
      v ≡ record w { progress = one_more n (w.origins j) w.progress; era = set_at n j w.era } → Step w v

pub data Leads (w : Eras) : Eras → Type 0 where
  Here : Leads w w
  More : {u v : Eras} → Leads w u → Step u v → Leads w v

-- there is one era
pub record IsFirst (w : Eras) : Type 0 where
  pub count : w.count ≡ 0
  pub progress : (n x : ℕ) → w.progress n x ≤ w.lengths x
  pub opens : w.opens 0 ≤ w.lengths (w.origins 0)
  pub era : (n : ℕ) → w.era n ≡ 0

-- P holds of all eras that one era leads to
abbrev pub OfAllEras : (Eras → Type 0) → Type 0
OfAllEras P = (f w : Eras) → IsFirst f → Leads f w → P w

-- n has passed the event that opened era j
abbrev pub HasPassed : Eras → ℕ → ℕ → Type 0
HasPassed w n j = w.opens j ≤ w.progress n (w.origins j)

-- n has left the parent of era j, which came before j
pub record HasLeft (w : Eras) (n j : ℕ) : Type 0 where
  pub before : w.parents j < j
  pub left : w.leaves j ≤ w.progress n (w.origins (w.parents j))
  pub passed : HasPassed w n (w.parents j)

-- Who has passed the opening of an era has left its parent, and so has passed the opening of that.
abbrev pub ErasInOrder : Eras → Type 0
ErasInOrder w = (n j : ℕ) → 0 < j → j ≤ w.count → HasPassed w n j → HasLeft w n j

-- Of the eras of one origin, that in which a node stands is the last one that it has passed. Eras of one origin are
-- opened one after the other.
abbrev pub StandsInLast : Eras → Type 0
StandsInLast w =
    (n j : ℕ) → j ≤ w.count → w.origins j ≡ w.origins (w.era n) → HasPassed w n j → w.opens j ≤ w.opens (w.era n)

abbrev pub OpensRise : Eras → Type 0
OpensRise w = (i j : ℕ) → i < j → j ≤ w.count → w.origins i ≡ w.origins j → w.opens i < w.opens j

-- An era that was opened before the next event for a node, by the origin of the era in which it stands, is that era, or
-- was opened before it.
abbrev pub ReadsOwnEra : Eras → Type 0
ReadsOwnEra w =
    (n j : ℕ) → j ≤ w.count → w.origins j ≡ w.origins (w.era n) → w.opens j < w.progress n (w.origins j) + 1 →
    (j ≡ w.era n) ⊎ (w.opens j < w.opens (w.era n))
