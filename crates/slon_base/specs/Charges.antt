-- What a store is told to fail on purpose, and what calls make of that.
use Rattle.std.specs.Prelude.{◌≡◌, ◌⊎◌, ℕ, ◌≤◌, ◌-◌, ◌==◌, Bool, true, false, if◌then◌else◌, Option, None}
use Rattle.slon_base.specs.declared.charge.Charge.{Charge}
use Rattle.slon_base.specs.declared.charge.Charge.TheVariants.{Off, After, AtCommit, Blown}

-- the charge after a call that is no commit
abbrev pub burnt : Charge → Charge
burnt Off = Off
burnt (After calls keep) = if calls == 0 then Blown keep else After (calls - 1) keep
burnt (AtCommit keep) = AtCommit keep
burnt (Blown keep) = Blown keep

-- the charge after a commit
abbrev pub burnt_by_commit : Charge → Charge
burnt_by_commit Off = Off
burnt_by_commit (After calls keep) = if calls == 0 then Blown keep else After (calls - 1) keep
burnt_by_commit (AtCommit keep) = Blown keep
burnt_by_commit (Blown keep) = Blown keep

abbrev pub is_blown : Charge → Bool
is_blown Off = false
is_blown (After calls keep) = false
is_blown (AtCommit keep) = false
is_blown (Blown keep) = true

-- a commit that the fuse fails is durable
abbrev pub keeps : Charge → Bool
keeps Off = false
keeps (After calls keep) = keep
keeps (AtCommit keep) = keep
keeps (Blown keep) = keep

-- the fuse fails the next call, if that is no commit
abbrev pub strikes : Charge → Bool
strikes charge = is_blown (burnt charge)

-- the fuse fails the next call, if that is a commit
abbrev pub strikes_commit : Charge → Bool
strikes_commit charge = is_blown (burnt_by_commit charge)

-- the bound on failures to come, which only a fuse that is off has
abbrev pub bound : Charge → Option ℕ → Option ℕ
bound Off left = left
bound (After calls keep) left = None
bound (AtCommit keep) left = None
bound (Blown keep) left = None

-- How a charge can go on over calls: what it was told stays, fewer calls are let through, and it stays blown once it
-- is.
abbrev pub GoesOn : Charge → Charge → Type 0
GoesOn Off new = new ≡ Off
GoesOn (After calls keep) new = ((left : ℕ) × (left ≤ calls) × (new ≡ After left keep)) ⊎ (new ≡ Blown keep)
GoesOn (AtCommit keep) new = (new ≡ AtCommit keep) ⊎ (new ≡ Blown keep)
GoesOn (Blown keep) new = new ≡ Blown keep

-- it goes on from what was told
unfoldable pub IsFrom : Charge → Charge → Type 0
IsFrom told charge = GoesOn told charge

-- whatever it went on from before, it goes on from still
abbrev pub KeepsTold : Charge → Charge → Type 0
KeepsTold old new = (told : Charge) → IsFrom told old → IsFrom told new
