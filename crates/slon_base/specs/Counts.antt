-- Counts of faults, which never fall and end at the last value of a u64.
use Rattle.std.specs.Prelude.{◌≡◌, ◌⊎◌, ℕ, ◌-◌, ◌^◌, ◌<◌, ◌≤◌, Option, Some, None}

-- a count rose: it is greater than before, or stands at its last value
abbrev pub Rose : ℕ → ℕ → Type 0
Rose old new = (old < new) ⊎ (new ≡ 2 ^ 64 - 1)

-- A bound on failures to come, where one is told, is kept.
abbrev pub Within : Option ℕ → Option ℕ → Type 0
Within None new = Unit {0}
Within (Some n) None = ⊥
Within (Some n) (Some m) = m ≤ n
