-- How a transaction of a store ends by which its database becomes a node, or that is taken back.
use Rattle.std.specs.Prelude.{◌≡◌, ℕ, ◌≤◌, Bool, true, false, Some, Result, Ok, Err, is_some}
use Rattle.slon_base.specs.Charges.{KeepsTold}
use Rattle.slon_base.specs.Keeper.{Kept}
use Rattle.slon_base.specs.declared.fault.Halt.TheVariants.{NoMemory as HaltsShort}
use Rattle.slon_model.specs.declared.fault.DbFault.{DbFault}
use Rattle.slon_model.specs.declared.fault.DbFault.TheVariants.{Halt}
use Rattle.store_rows.specs.Spending.{Stays}
use Rattle.store_rows.specs.declared.stop.Stop.TheVariants.{NoMemory}
use Rattle.node_state.specs.declared.memory.NodeMemory.{NodeMemory}
use Rattle.app_store.specs.declared.transact.Made.TheVariants.{Done, InDoubt}
use Rattle.app_store.specs.Base.{Memory, Base, GoesDown}
use Rattle.app_store.specs.Steps.{Finishes}

-- the memory of a database that became this node
abbrev pub with_node : ℕ → NodeMemory → Memory → Memory
with_node stamp kept m = record m { stamp = stamp; identity = kept.identity; members = kept.members }

-- its commit is in doubt, and it is down
pub record IsUnsure (stamp : ℕ) (kept : NodeMemory) (new : Memory) : Type 0 where
  pub up : new.up ≡ false
  pub doubt : new.doubt ≡ Some stamp
  pub identity : new.identity ≡ kept.identity

-- it is down since memory ran out
pub record IsHalted (old : Base) (fault : DbFault) (new : Base) : Type 0 where
  pub finishes : Finishes old.kept new.kept (Err NoMemory)
  pub down : GoesDown old.memory new.memory
  pub fault_is : fault ≡ Halt HaltsShort

abbrev pub Becomes : NodeMemory → ℕ → Base → Result Bool DbFault → Base → Type 0
Becomes kept stamp old (Ok false) new =
    Finishes old.kept new.kept (Ok Done) × (new.memory ≡ with_node stamp kept old.memory)
Becomes kept stamp old (Ok true) new =
    Finishes old.kept new.kept (Ok InDoubt) × IsUnsure stamp kept new.memory
Becomes kept stamp old (Err fault) new = IsHalted old fault new

-- nothing is pending, and the store holds what it held
pub record GivesUp (old new : Kept) : Type 0 where
  pub later : old.faults ≤ new.faults
  pub still : Stays old.can_fail new.can_fail
  pub told : KeepsTold old.told new.told
  pub closed : is_some new.pending ≡ false
  pub held : new.held ≡ old.held
  pub doubts : new.doubts ≡ old.doubts
