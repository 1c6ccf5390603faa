-- The snapshot that is taken of the open transactions of a database.
use Rattle.std.specs.Prelude.{◌≡◌, ◌↔◌, ℕ, if◌then◌else◌, Bool, true, List, [], ◌∷◌, Some}
use Rattle.std.specs.List.{list_any}
use Rattle.std.specs.Ordering.{nat_cmp}
use Rattle.std.specs.BTreeSet.{insert_key}
use Rattle.std.specs.FinMap.{get}
use Rattle.slon_model.specs.Logs.{named}
use Rattle.slon_model.specs.Rows.{member}
use Rattle.slon_model.specs.Snapshots.{Snapshot, Rising, first_or}
use Rattle.app_store.specs.declared.opens.Transaction.{Transaction}
use Rattle.app_store.specs.Closed.{Opens}
use Rattle.app_store.specs.Base.{Memory}

-- the ids of these transactions, put among others in their order
abbrev pub put_xids : List ℕ → List (List ℕ × Transaction) → List ℕ
put_xids xids [] = xids
put_xids xids (e ∷ es) = put_xids (insert_key nat_cmp xids e.1.xid) es

-- a transaction of this id is open
abbrev pub IsOpen : ℕ → Opens → Type 0
IsOpen xid opens = (name : List ℕ) × (t : Transaction) × (get opens name ≡ Some t) × (t.xid ≡ xid)

-- It ends at the next id, and lists the ids of the open transactions, ascending and no others.
pub record IsTakenOf (m : Memory) (s : Snapshot) : Type 0 where
  pub last : s.xmax ≡ m.xids.next
  pub first : s.xmin ≡ first_or s.xmax s.running
  pub rising : Rising s.running
  pub lists : (x : ℕ) → (member x s.running ≡ true) ↔ IsOpen x m.opens

-- the transaction wrote one of these tables
abbrev pub wrote_one : List (List ℕ) → Transaction → Bool
wrote_one tables t = list_any (λ a. named a.table tables) t.actions

-- those that wrote it
abbrev pub writers : List (List ℕ) → List (List ℕ × Transaction) → List (List ℕ × Transaction)
writers tables [] = []
writers tables (e ∷ es) = if wrote_one tables e.1 then e ∷ writers tables es else writers tables es
