-- The numbers of the faults of a text that is no snapshot.
use Rattle.std.specs.Prelude.{ℕ}
use Rattle.txn_core.specs.declared.fault.BadSnapshot.{BadSnapshot}
use Rattle.txn_core.specs.declared.fault.BadSnapshot.TheVariants.{NotCanonical, NoMemory}

-- the number of each fault
abbrev pub number_of : BadSnapshot → ℕ
number_of NotCanonical = 20
number_of NoMemory = 11
