-- The rows of a place can be read back from its store.
use Rattle.std.proofs.Common.{ℕ, List, ◌++◌}
use Rattle.slon_base.specs.Keeper.{Store}
use Rattle.slon_base.specs.Codec.{text_bytes, IsText}
use Rattle.slon_base.proofs.Spelled.{text_front}
use Rattle.slon_model.specs.Place.{Place, standing_rows}
use Rattle.slon_laws.specs.Spelled.{IsSpelled}
use Rattle.slon_laws.proofs.Formed.{standing_formed}
use Rattle.app_store.specs.Scan.{IsTableOf}
use Rattle.app_store.specs.Spelled.{Holds, rows}

-- the pairs behind the name of a table are its rows
pub table_of : (p : Place) (m : Store) (table : List ℕ) → IsText table → IsSpelled p → Holds p m →
    IsTableOf (text_bytes table) (standing_rows p table) (m rows)
table_of p m table text spelled holds = record {
  lookups = λ key. holds.rows_held.lookups (table, key) text;
  keys = λ rest value is.
      let found = holds.rows_held.keys (text_bytes table ++ rest) value is in
      (found.0.1, (text_front table found.0.0 rest (text_bytes found.0.1) text.short found.1.short found.2).1);
  texts = λ key row is. (standing_formed p table spelled key row is).0;
}
