-- What a scan of a table reads.
use Rattle.std.specs.Prelude.{◌≡◌, ℕ, Bool, List, ◌++◌, Some, Result}
use Rattle.std.specs.Option.{option_map}
use Rattle.std.specs.Ordering.{is_lt}
use Rattle.std.specs.List.Sorted.{IsSortedBy, IsStableBy}
use Rattle.std.specs.FinMap.{get, entries}
use Rattle.slon_base.specs.Keeper.{Space, Store, key_cmp}
use Rattle.slon_base.specs.Codec.{text_bytes, list_bytes, IsText, AreTexts}
use Rattle.store_rows.specs.declared.stop.Stop.{Stop}
use Rattle.slon_model.specs.Rows.{Row, Rows}
use Rattle.app_store.specs.Spelled.{rows}
use Rattle.app_store.specs.Steps.{Says}

-- the pairs of a space whose keys begin with a prefix are the rows of a table, with their keys behind the prefix
pub record IsTableOf (prefix : List ℕ) (table : Rows) (space : Space) : Type 0 where
  pub lookups : (key : List ℕ) → get space (prefix ++ text_bytes key) ≡ option_map list_bytes (get table key)
  pub keys : (rest value : List ℕ) → get space (prefix ++ rest) ≡ Some value → (key : List ℕ) × (rest ≡ text_bytes key)
  pub texts : (key : List ℕ) (row : Row) → get table key ≡ Some row → IsText key × AreTexts row

-- the first of two rows has the lesser key
abbrev pub row_before : List ℕ × Row → List ℕ × Row → Bool
row_before d e = is_lt (key_cmp d.0 e.0)

-- the rows in the order of their keys, those of one key in the order that they had
abbrev pub AreArranged : List (List ℕ × Row) → List (List ℕ × Row) → Type 0
AreArranged rows listed = IsSortedBy row_before listed × IsStableBy row_before rows listed

-- the rows of the table whose spelled name is the prefix
abbrev pub FindsRows : List ℕ → Store → Result (List (List ℕ × Row)) Stop → Type 0
FindsRows prefix m result = (table : Rows) → IsTableOf prefix table (m rows) → Says (entries table) result
