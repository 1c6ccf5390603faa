-- How often a call failed.
use Rattle.std.specs.Prelude.{ℕ}
use Rattle.slon_system.specs.declared.fault_count.FaultCount.{FaultCount}

abbrev pub faults_of : FaultCount → ℕ
faults_of f = f.count
