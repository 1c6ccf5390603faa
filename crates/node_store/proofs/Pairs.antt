-- What is promised over every store of the two databases of a join.
use Rattle.std.proofs.Common.{◌≡◌, ℕ, Result, Ok, Err}
use Rattle.slon_base.specs.Keeper.{Kept}
use Rattle.slon_model.specs.declared.fault.DbFault.{DbFault}
use Rattle.store_rows.specs.declared.stop.Stop.{Stop}
use Rattle.node_state.specs.declared.memory.NodeMemory.{NodeMemory}
use Rattle.app_store.specs.Base.{Base, GoesDown}
use Rattle.app_store.specs.Parts.{halt_of}
use Rattle.node_store.specs.declared.joining.Joined.{Joined}
use Rattle.node_store.specs.declared.joining.Fell.{Fell}
use Rattle.node_store.specs.Joining.{Pair, Stamps}
use Rattle.node_store.specs.Midways.{Begun, Midway, BreaksOff}

-- ---- one database

-- a transaction that broke off, and the database went down
pub record BrokeDown (stop : Stop) (fault : DbFault) (old new : Base) : Type 0 where
  pub breaks : BreaksOff stop old.kept new.kept
  pub down : GoesDown old.memory new.memory
  pub fault_is : fault ≡ halt_of stop new.kept.faults

pub begun_way : {old new : Kept} → Midway old new → Begun old new
begun_way way = record { sure = way.sure; later = way.later; held = way.held; doubts = way.doubts }

-- ---- both

-- transactions of both go on
pub record AreMidway (old mid : Pair) : Type 0 where
  pub from : Midway old.from.kept mid.from.kept
  pub to : Midway old.to.kept mid.to.kept

abbrev pub numbered : ℕ → Result Joined Fell → Result (ℕ × Joined) Fell
numbered number (Ok joined) = Ok (number, joined)
numbered number (Err f) = Err f

-- how the transactions of both end
pub record Ending : Type 0 where
  pub kept : NodeMemory
  pub stamps : Stamps
