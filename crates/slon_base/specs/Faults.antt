-- The numbers of faults.
use Rattle.std.specs.Prelude.{ℕ}
use Rattle.slon_base.specs.declared.fault.KeepFault.{KeepFault}
use Rattle.slon_base.specs.declared.fault.KeepFault.TheVariants as keep
use Rattle.slon_base.specs.declared.fault.RowFault.{RowFault}
use Rattle.slon_base.specs.declared.fault.RowFault.TheVariants as row

-- the number of each fault of a store
abbrev pub number_of_keep : KeepFault → ℕ
number_of_keep keep.Failed = 10
number_of_keep keep.NoMemory = 11

-- the number of each fault of a row
abbrev pub number_of_row : RowFault → ℕ
number_of_row row.Short = 1
number_of_row row.Trailing = 2
number_of_row row.NotCanonical = 3
number_of_row row.NoMemory = 11
