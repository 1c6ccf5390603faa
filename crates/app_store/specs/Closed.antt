-- The open transactions of a database and its locks, and when there are none.
use Rattle.std.specs.Prelude.{◌≡◌, ℕ, List, None}
use Rattle.std.specs.FinMap.{FinMap, empty}
use Rattle.slon_base.specs.Keeper.{key_cmp}
use Rattle.txn_core.specs.Locks.{Locks, holder_of}
use Rattle.app_store.specs.declared.opens.Transaction.{Transaction}

-- the open transactions by their names
abbrev pub Opens : Type 0
Opens = FinMap key_cmp Transaction

-- no transaction is open, and no row is locked
pub record IsClosed (opens : Opens) (locks : Locks) : Type 0 where
  pub opens_are : opens ≡ empty
  pub locks_are : (table key : List ℕ) → holder_of table key locks ≡ None
