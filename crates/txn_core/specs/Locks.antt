-- The locks on rows: who holds each.
use Rattle.std.specs.Prelude.{◌≡◌, ◌≢◌, ◌≤◌, ℕ, ◌==◌, if◌then◌else◌, List, Option, Some, None}
use Rattle.std.specs.Ordering.{is_eq}
use Rattle.std.specs.Map.{lookup}
use Rattle.slon_base.specs.Keeper.{key_cmp}
use Rattle.txn_core.specs.declared.fault.LockFault.{LockFault}
use Rattle.txn_core.specs.declared.fault.LockFault.TheVariants.{Locked, NoMemory}

-- for each table the keys that are locked in it, each with its transaction
abbrev pub Locks : Type 0
Locks = List (List ℕ × List (List ℕ × ℕ))

-- the transaction at the key, if the table has keys
abbrev pub holder_at : List ℕ → Option (List (List ℕ × ℕ)) → Option ℕ
holder_at key None = None
holder_at key (Some keys) = lookup (λ k. is_eq (key_cmp key k)) keys

-- the transaction that holds the lock of the row with this key in this table
unfoldable pub holder_of : List ℕ → List ℕ → Locks → Option ℕ
holder_of table key locks = holder_at key (lookup (λ t. is_eq (key_cmp table t)) locks)

-- a holder after the transaction gave back its locks
abbrev pub without : ℕ → Option ℕ → Option ℕ
without xid None = None
without xid (Some x) = if x == xid then None else Some x

-- nobody or the transaction itself holds the lock
abbrev pub IsFree : ℕ → Option ℕ → Type 0
IsFree xid None = Unit {0}
IsFree xid (Some x) = x ≡ xid

-- why a lock is not given, by who held it: another transaction held it, or nobody did and memory ran out
abbrev pub Refuses : ℕ → Option ℕ → LockFault → Type 0
Refuses xid held (Locked x) = (held ≡ Some x) × (x ≢ xid)
Refuses xid held NoMemory = held ≡ None

-- the transaction holds a lock on the table, and none that is lower does
pub record IsFirstWriter (xid : ℕ) (table : List ℕ) (locks : Locks) : Type 0 where
  pub holds : (key : List ℕ) × (holder_of table key locks ≡ Some xid)
  pub least : (key : List ℕ) (x : ℕ) → holder_of table key locks ≡ Some x → xid ≤ x
