use Rattle.std.proofs.Common.{◌≡◌, ◌&&◌, ◌==◌, if◌then◌else◌, false, ℕ, List, drop}
use Rattle.txn_core.specs.LockMaps.{holder_in, writes_in, has_table, released}
use Rattle.txn_core.proofs.lock_table.release.Given as goal

abbrev pub invariant-loop-table : goal.invariant-loop-table
invariant-loop-table l = record {
  holders : (t k : List ℕ) → released l.xid t k (drop l.table-index l.rows) (holder_in t k l.holders.tables) ≡ released
      l.xid t k l.rows (holder_in t k l.fn.holders.tables);
  writers : (t : List ℕ) (x : ℕ) → (if has_table t (drop l.table-index l.rows)
      && l.xid == x then false else writes_in t x l.writers.tables) ≡ (if has_table t l.rows
      && l.xid == x then false else writes_in t x l.fn.writers.tables);
}
