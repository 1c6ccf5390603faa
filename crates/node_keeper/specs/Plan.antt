-- Which calls fail.
use Rattle.std.specs.Prelude.{◌≡◌, ◌≤◌, true, if◌then◌else◌, ℕ, ◌+◌, ◌==◌, ◌&&◌, ◌^◌, ◌-◌, Bool, List, nat_lt, min}
use Rattle.std.specs.Prelude.{count_by}
use Rattle.std.specs.List.Sorted.{IsPermutation}
use Rattle.std.specs.List.{list_any}
use Rattle.slon_base.specs.Counts.{Rose}
use Rattle.node_keeper.specs.declared.fault_plan.FaultPlan.{FaultPlan}

-- the call after `calls` calls is listed; the last number of a u64 is never reached
abbrev pub is_due : List ℕ → ℕ → Bool
is_due fails calls = nat_lt calls (2 ^ 64 - 1) && list_any (λ n. n == calls + 1) fails

-- how many listed numbers are still to come
abbrev pub left : List ℕ → ℕ → ℕ
left fails calls = count_by (λ n. nat_lt calls n) fails

-- a count that ends at the last value of a u64
abbrev pub capped : ℕ → ℕ
capped n = min n (2 ^ 64 - 1)

-- The plan after one call: the listed calls are the same, the call is counted, and a failure adds one to the faults.
pub record Counted (old new : FaultPlan) : Type 0 where
  pub fails : new.fails.items ≡ old.fails.items
  pub calls : new.calls ≡ capped (old.calls + 1)
  pub faults : new.faults ≡ (if is_due old.fails.items old.calls then capped (old.faults + 1) else old.faults)

-- a call was counted, which failed or not
pub record CountsCall (old new : FaultPlan) (failed : Bool) : Type 0 where
  pub counted : Counted old new
  pub due : failed ≡ is_due old.fails.items old.calls
  pub later : old.faults ≤ new.faults
  pub rose : failed ≡ true → Rose old.faults new.faults
  pub fewer : (if failed then left new.fails.items new.calls + 1 else left new.fails.items new.calls) ≤ left
      old.fails.items old.calls

-- a plan of these calls, in order, of which none was made yet
abbrev pub IsFrom : List ℕ → FaultPlan → Type 0
IsFrom fails plan = IsPermutation fails plan.fails.items × (plan.calls ≡ 0)
