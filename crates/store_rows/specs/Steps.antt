-- What each call on a store promises, once its fault is a stop.
use Rattle.std.specs.Prelude.{◌≡◌, ℕ, ◌≤◌, Bool, true, false, Result, Ok, Err, is_some}
use Rattle.slon_base.specs.Keeper.{Kept}
use Rattle.slon_base.specs.Charges.{KeepsTold}
use Rattle.slon_base.specs.Counts.{Rose}
use Rattle.store_rows.specs.declared.stop.Stop.{Stop}
use Rattle.store_rows.specs.declared.stop.Stop.TheVariants.{Failed, NoMemory, BadRow, TooBig}
use Rattle.store_rows.specs.Spending.{Stays, Spends, Rests}

-- the store failed
abbrev pub is_stop_failed : Stop → Bool
is_stop_failed Failed = true
is_stop_failed others = false

abbrev pub is_failed : {T : Type 0} → Result T Stop → Bool
is_failed (Ok x) = false
is_failed (Err stop) = is_stop_failed stop

-- a failure makes the count rise from every number that it had reached
abbrev pub Rises : Bool → ℕ → ℕ → Type 0
Rises failed old new = failed ≡ true → (n : ℕ) → n ≤ old → Rose n new

-- What every call promises, whatever it reads or changes, and whatever the store tells.
pub record Safe {T : Type 0} (old new : Kept) (result : Result T Stop) : Type 0 where
  pub still : Stays old.can_fail new.can_fail
  pub spends : Spends (is_failed result) old.can_fail new.can_fail
  pub later : old.faults ≤ new.faults
  pub rises : Rises (is_failed result) old.faults new.faults
  -- a fault that was counted is told
  pub quiet : is_failed result ≡ false → Rests old.faults new.faults
  pub told : KeepsTold old.told new.told
  pub held : new.held ≡ old.held
  pub doubts : new.doubts ≡ old.doubts
  pub opened : is_some new.pending ≡ is_some old.pending

-- it stopped for the store or for want of memory, and for no row
abbrev pub IsOutside : Stop → Type 0
IsOutside Failed = Unit {0}
IsOutside NoMemory = Unit {0}
IsOutside (BadRow space) = ⊥
IsOutside (TooBig space) = ⊥

-- it stopped, and not since a number was above the limit
abbrev pub IsWithinLimit : Stop → Type 0
IsWithinLimit Failed = Unit {0}
IsWithinLimit NoMemory = Unit {0}
IsWithinLimit (BadRow space) = Unit {0}
IsWithinLimit (TooBig space) = ⊥

-- it stopped at no row of another space
abbrev pub IsOfSpace : ℕ → Stop → Type 0
IsOfSpace space Failed = Unit {0}
IsOfSpace space NoMemory = Unit {0}
IsOfSpace space (BadRow other) = other ≡ space
IsOfSpace space (TooBig other) = ⊥

-- the result has this property, or there was no memory, or the store failed
abbrev pub Gives : {T : Type 0} → (T → Type 0) → Result T Stop → Type 0
Gives P (Ok x) = P x
Gives P (Err stop) = IsOutside stop
