-- What is said of work on the store that stopped, put together from what the calls gave.
use Rattle.std.proofs.Common.{◌≡◌, true, false}
use Rattle.slon_base.specs.Counts.{Rose}
use Rattle.slon_model.specs.declared.fault.DbFault.{DbFault}
use Rattle.slon_model.specs.Tasks.{Task}
use Rattle.slon_model.specs.World.{halt_in}
use Rattle.store_rows.specs.declared.stop.Stop.{Stop}
use Rattle.store_rows.specs.Steps.{IsWithinLimit, IsOutside, is_stop_failed}
use Rattle.app_store.specs.Base.{Base}
use Rattle.app_store.specs.Parts.{halt_of}
use Rattle.app_store.specs.Serves.{is_memory, prepares}
use Rattle.app_store.proofs.Serving.{Ran, Halted}
use Rattle.app_store.proofs.Standing.{IsDown, Stopped}

-- the database is down, and why the stop is told
pub stopped : (stop : Stop) (fault : DbFault) (old new : Base) →
    IsDown old.memory new.memory → (is_stop_failed stop ≡ true → Rose old.kept.faults new.kept.faults) →
    fault ≡ halt_of stop new.kept.faults →
    (is_memory (halt_in fault) ≡ false) × IsOutside stop → Stopped stop fault old new
stopped stop fault old new down rose fault_is why =
    record { down = down; rose = rose; fault_is = fault_is; no_memory = why.0; only = why.1 }

-- the work stopped within its limits
pub halted : (task : Task) (old new : Base) (stop : Stop) (fault : DbFault) →
    (fault ≡ halt_of stop new.kept.faults) × IsWithinLimit stop →
    Ran (is_stop_failed stop) old.kept new.kept × (prepares task ≡ false → new.kept.doubts ≡ old.kept.doubts) →
    new.memory.up ≡ false → Halted task old new stop fault
halted task old new stop fault is ran fell =
    record { fault_is = is.0; within = is.1; ran = ran.0; doubts = ran.1; fell = fell }
