-- What the maps of a lock table hold, and how they go together.
use Rattle.std.specs.Prelude.{◌≡◌, ◌≤◌, ℕ, ◌&&◌, ◌||◌, if◌then◌else◌, Bool, true, false, List, [], ◌∷◌, map, Option}
use Rattle.std.specs.Prelude.{Some, None, Vec, bytes_eq}
use Rattle.std.specs.declared.alloc.Global.{Global}
use Rattle.std.specs.Ordering.{is_eq, nat_cmp}
use Rattle.std.specs.Map.{lookup}
use Rattle.std.specs.BTreeMap.{BTreeMap}
use Rattle.std.specs.BTreeSet.{BTreeSet, contains}
use Rattle.slon_base.specs.Keeper.{key_cmp}
use Rattle.txn_core.specs.Locks.{Locks, without}

-- a map with keys of bytes
abbrev pub Keyed : Type 0 → Type 0
Keyed V = BTreeMap (Vec ℕ Global) V

-- the value at a key
abbrev pub at_key : {V : Type 0} → List ℕ → Keyed V → Option V
at_key key m = lookup (λ k. is_eq (key_cmp key k.items)) m.entries

-- ---- for each table and key a transaction

abbrev pub HolderMap : Type 0
HolderMap = Keyed (Keyed ℕ)

abbrev pub key_in : List ℕ → Option (Keyed ℕ) → Option ℕ
key_in key None = None
key_in key (Some keys) = at_key key keys

unfoldable pub holder_in : List ℕ → List ℕ → HolderMap → Option ℕ
holder_in table key m = key_in key (at_key table m)

-- the same as plain lists
abbrev pub locks_of : HolderMap → Locks
locks_of m = map (λ e. (e.0.items, map (λ f. (f.0.items, f.1)) e.1.entries)) m.entries

-- ---- for each table a set of transactions

abbrev pub WriterMap : Type 0
WriterMap = Keyed (BTreeSet ℕ)

abbrev pub xid_in : ℕ → Option (BTreeSet ℕ) → Bool
xid_in xid None = false
xid_in xid (Some xids) = contains nat_cmp xids xid

unfoldable pub writes_in : List ℕ → ℕ → WriterMap → Bool
writes_in table xid m = xid_in xid (at_key table m)

-- the least of the table's transactions
pub record IsFirst (table : List ℕ) (xid : ℕ) (m : WriterMap) : Type 0 where
  pub writes : writes_in table xid m ≡ true
  pub least : (x : ℕ) → writes_in table x m ≡ true → xid ≤ x

-- ---- for each transaction a list of rows

abbrev pub OwnedMap : Type 0
OwnedMap = BTreeMap ℕ (Vec (List ℕ × List ℕ) Global)

abbrev pub rows_of : Option (Vec (List ℕ × List ℕ) Global) → List (List ℕ × List ℕ)
rows_of None = []
rows_of (Some rows) = rows.items

unfoldable pub owned_by : ℕ → OwnedMap → List (List ℕ × List ℕ)
owned_by xid m = rows_of (lookup (λ x. is_eq (nat_cmp xid x)) m.entries)

-- the row is among these
abbrev pub has_row : List ℕ → List ℕ → List (List ℕ × List ℕ) → Bool
has_row table key [] = false
has_row table key (row ∷ rows) = (bytes_eq row.0 table && bytes_eq row.1 key) || has_row table key rows

-- a row of the table is among these
abbrev pub has_table : List ℕ → List (List ℕ × List ℕ) → Bool
has_table table [] = false
has_table table (row ∷ rows) = bytes_eq row.0 table || has_table table rows

-- a holder of the row after the transaction gave back its locks on these rows
abbrev pub released : ℕ → List ℕ → List ℕ → List (List ℕ × List ℕ) → Option ℕ → Option ℕ
released xid table key rows held = if has_row table key rows then without xid held else held

-- ---- all three

-- each lock is among the rows of its transaction, and a transaction is one of a table's where it holds a lock on it
pub record Tied (holders : HolderMap) (writers : WriterMap) (owned : OwnedMap) : Type 0 where
  pub owns : (table key : List ℕ) (xid : ℕ) → holder_in table key holders ≡ Some xid →
      has_row table key (owned_by xid owned) ≡ true
  pub writes : (table key : List ℕ) (xid : ℕ) → holder_in table key holders ≡ Some xid →
      writes_in table xid writers ≡ true
  pub wrote : (table : List ℕ) (xid : ℕ) → writes_in table xid writers ≡ true → (key : List ℕ)
      × (holder_in table key holders ≡ Some xid)
