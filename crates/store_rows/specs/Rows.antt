-- How values of rows are spelled.
use Rattle.std.specs.Prelude.{◌≡◌, ℕ, ◌≤◌, ◌<◌, ◌^◌, Bool, true, false, List, Result, Ok, Err}
use Rattle.slon_base.specs.declared.fault.RowFault.{RowFault}
use Rattle.slon_base.specs.declared.fault.RowFault.TheVariants.{NoMemory}

-- ids are 1 to 2,147,483,647
abbrev pub IsId : ℕ → Type 0
IsId n = (1 ≤ n) × (n < 2 ^ 31)

-- a flag: one byte
abbrev pub flag_byte : Bool → ℕ
flag_byte false = 0
flag_byte true = 1

-- a value that is seen as this was read and the rest is left, or there was no memory
abbrev pub ReadAs : {T L : Type 0} → (L → T) → T → List ℕ → Result L RowFault → List ℕ → Type 0
ReadAs seen x rest (Ok found) left = (seen found ≡ x) × (left ≡ rest)
ReadAs seen x rest (Err fault) left = fault ≡ NoMemory

-- the value was read and the rest is left, or there was no memory
abbrev pub Read : {T : Type 0} → T → List ℕ → Result T RowFault → List ℕ → Type 0
Read x rest (Ok found) left = (found ≡ x) × (left ≡ rest)
Read x rest (Err fault) left = fault ≡ NoMemory
