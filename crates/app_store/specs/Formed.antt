-- What is in its form in a store, and what is read of it.
use Rattle.std.specs.Prelude.{◌≡◌, ◌⊎◌, ◌<◌, ◌^◌, ℕ, List, Option, Some, None}
use Rattle.std.specs.Option.{option_map}
use Rattle.std.specs.FinMap.{get, entries}
use Rattle.slon_base.specs.Keeper.{Store, after}
use Rattle.slon_base.specs.Codec.{number_bytes, text_bytes, list_bytes, IsText, AreTexts, AllAre}
use Rattle.store_rows.specs.Scan.{ranged, spelled_rows}
use Rattle.store_rows.specs.Space.{AllOf}
pub use Rattle.event_store.specs.Formed.{Lacks, StopsAt, Reads}
use Rattle.slon_model.specs.Rows.{Row}
use Rattle.app_store.specs.declared.look.Numbers.{Numbers}
use Rattle.app_store.specs.Spelled.{IsSmall, meta, tables, rows, stamp_key, xid_ceiling_key, action_ceiling_key}
use Rattle.app_store.specs.Works.{AreSmall}

-- a number that can be stored stands there
pub record IsCeiling (entry : Option (List ℕ)) : Type 0 where
  pub number : ℕ
  pub small : number < 2 ^ 63
  pub spelled : entry ≡ Some (number_bytes number)

-- such a number, or nothing
pub record IsNumber (entry : Option (List ℕ)) : Type 0 where
  pub number : Option ℕ
  pub small : IsSmall number
  pub spelled : entry ≡ option_map number_bytes number

-- the stamp and the ceilings of a database, or no stamp
abbrev pub NumbersStand : Store → Option Numbers → Type 0
NumbersStand m None = get (m meta) stamp_key ≡ None
NumbersStand m (Some n) = (get (m meta) stamp_key ≡ Some (number_bytes n.stamp))
    × (get (m meta) xid_ceiling_key ≡ Some (number_bytes n.xid_ceiling))
    × (get (m meta) action_ceiling_key ≡ Some (number_bytes n.number_ceiling))

pub record AreNumbers (m : Store) : Type 0 where
  pub numbers : Option Numbers
  pub small : AreSmall numbers
  pub stand : NumbersStand m numbers

-- the values of a row, or nothing
pub record AreValues (entry : Option (List ℕ)) : Type 0 where
  pub row : Option Row
  pub texts : AllOf AreTexts row
  pub spelled : entry ≡ option_map list_bytes row

-- the pairs behind the spelled name of a table are rows, each with its key
pub record AreListed (prefix : List ℕ) (m : Store) : Type 0 where
  pub found : List (List ℕ × Row)
  pub texts : AllAre (λ e. IsText e.0 × AreTexts e.1) found
  pub spelled : ranged prefix (after prefix (entries (m rows))) ≡ spelled_rows prefix text_bytes list_bytes found

-- ---- what is read

-- the number of columns of a table
abbrev pub columns_at : List ℕ → Store → Option (List ℕ)
columns_at table m = get (m tables) (text_bytes table)

-- the rows of a table whose number of columns is in its form
abbrev pub HandedList : List ℕ → Store → ℕ → Type 0
HandedList table m space =
    Lacks tables (IsNumber (columns_at table m)) space
    ⊎ (IsCeiling (columns_at table m) × Lacks rows (AreListed (text_bytes table) m) space)
