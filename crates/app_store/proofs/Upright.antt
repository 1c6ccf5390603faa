-- A database as a task finds it, and what the work of the task leaves of its store.
use Rattle.std.proofs.Common.{◌≡◌, ◌+◌, ◌≤◌, true, false, Some, Result, ◌⊎◌, refl, arith}
use Rattle.slon_base.specs.Keeper.{Kept, Store}
use Rattle.slon_model.specs.Place.{Place, IsRunning}
use Rattle.store_rows.specs.declared.stop.Stop.{Stop}
use Rattle.app_store.specs.Base.{Base, GoesDown}
use Rattle.app_store.specs.Fits.{Runs, Ready}
use Rattle.app_store.specs.Steps.{Looks}
use Rattle.app_store.proofs.Standing.{IsUp, up_from, up_running}

-- A database that is up and agrees with the place.
pub record UpAt (p : Place) (b : Base) : Type 0 where
  pub ready : Ready p b
  pub up : b.memory.up ≡ true

abbrev pub up_at : {p : Place} {b : Base} → Ready p b → b.memory.up ≡ true → UpAt p b
up_at ready up = record { ready = ready; up = up }

pub running : {p : Place} {b : Base} → UpAt p b → (p.standing ≡ IsRunning) × Runs p b.memory
running {p} {b} at = up_running p b at.ready.fits at.up

abbrev pub is_up : {p : Place} {b : Base} → UpAt p b → IsUp p b
is_up at = up_from at.ready at.up

-- A database that is down and agrees with the place.
pub record DownAt (p : Place) (b : Base) : Type 0 where
  pub ready : Ready p b
  pub down : b.memory.up ≡ false

abbrev pub down_at : {p : Place} {b : Base} → Ready p b → b.memory.up ≡ false → DownAt p b
down_at ready down = record { ready = ready; down = down }

-- What a look leaves of a store: what it held, and no fewer faults.
pub record IsLooked (old new : Kept) : Type 0 where
  pub held : new.held ≡ old.held
  pub later : old.faults ≤ new.faults

pub is_looked : {T : Type 0} {says : Store → Result T Stop → Type 0} {old new : Kept} {result : Result T Stop} →
    Looks says old new result → IsLooked old new
is_looked looks = record { held = looks.held; later = looks.counted.later }

-- a store that was left alone
pub untouched : (k : Kept) → IsLooked k k
untouched k = record { held = refl; later = omega arith }

-- The database went down, and its store holds what it held.
pub record WentDown (old new : Base) : Type 0 where
  pub down : GoesDown old.memory new.memory
  pub looked : IsLooked old.kept new.kept

-- A transaction changed the store to this.
pub record IsChanged (change : Store) (old new : Kept) : Type 0 where
  pub held : new.held ≡ Some change
  pub later : old.faults ≤ new.faults

-- A transaction is in doubt, and the database is down: the store holds what it held, or the change.
pub record LeftInDoubt (held change : Store) (old new : Base) : Type 0 where
  pub up : new.memory.up ≡ false
  pub doubt : new.memory.doubt ≡ Some (old.memory.stamp + 1)
  pub identity : new.memory.identity ≡ old.memory.identity
  pub later : old.kept.faults ≤ new.kept.faults
  pub either : (new.kept.held ≡ Some held) ⊎ (new.kept.held ≡ Some change)
