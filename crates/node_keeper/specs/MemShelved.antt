-- What a shelf of stores in memory tells.
use Rattle.std.specs.Prelude.{ℕ, Bool, true, false, List, Option, Some, None, Vec}
use Rattle.std.specs.declared.alloc.Global.{Global}
use Rattle.std.specs.List.{slice_get}
use Rattle.slon_base.specs.Shelf.{Promise, Shelved}
use Rattle.node_keeper.specs.declared.fault_plan.FaultPlan.{FaultPlan}
use Rattle.node_keeper.specs.Plan.{left}

-- how many calls of a store can fail that is made so; of one that is made of nothing none can
abbrev pub can_fail : Option (Vec ℕ Global × Bool) → ℕ
can_fail None = 0
can_fail (Some made) = left made.0.items 0

-- whether a commit that fails holds, in such a store
abbrev pub keeps : Option (Vec ℕ Global × Bool) → Bool
keeps None = false
keeps (Some made) = made.1

-- the stores begin empty, tell their rows and fail as their items list
abbrev pub promised : List (Vec ℕ Global × Bool) → ℕ → Promise
promised keepers place = record {
  begins_empty = true;
  tells_rows = true;
  can_fail =
      Some (can_fail (slice_get keepers place));
}

abbrev pub shelved_of : List (Vec ℕ Global × Bool) → List (Option (List ℕ) × ℕ) → FaultPlan → Shelved
shelved_of keepers asked plan = record { promise = promised keepers; asked = Some asked; faults = plan.faults }
