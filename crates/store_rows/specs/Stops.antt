-- Why work stopped, by the fault of the store.
use Rattle.std.specs.Prelude.{◌≡◌}
use Rattle.slon_base.specs.declared.fault.KeepFault.{KeepFault}
use Rattle.slon_base.specs.declared.fault.KeepFault.TheVariants.{Failed, NoMemory}
use Rattle.store_rows.specs.declared.stop.Stop.{Stop}
use Rattle.store_rows.specs.declared.stop.Stop.TheVariants.{Failed as StopFailed, NoMemory as StopNoMemory}

abbrev pub stop_of : KeepFault → Stop
stop_of Failed = StopFailed
stop_of NoMemory = StopNoMemory

abbrev pub StopOf : KeepFault → Stop → Type 0
StopOf fault stop = stop ≡ stop_of fault
