-- What the real objects tell: nothing of what files and the output hold, and all of the stores.
use Rattle.std.specs.Prelude.{true, List, Some, None, map}
use Rattle.slon_base.specs.Outside.{Filed, Poured}
use Rattle.slon_base.specs.Shelf.{Shelved}
use Rattle.slon_system.specs.declared.fault_count.FaultCount.{FaultCount}
use Rattle.slon_system.specs.Faults.{faults_of}

abbrev pub untold_files : {F : Type 0} → List F → FaultCount → Filed
untold_files entered faults =
    record { names = None; stack = map (λ _. None) entered; unread = None; faults = faults_of faults }

abbrev pub untold_output : FaultCount → Poured
untold_output faults = record { pieces = None; faults = faults_of faults }

abbrev pub in_memory : Shelved
in_memory = record {
  promise = λ _. record { begins_empty = true; tells_rows = true; can_fail = Some 0 };
  asked = None;
  faults = 0;
}
