-- Which rows of a log one snapshot sees and another does not.
use Rattle.std.specs.Prelude.{◌≡◌, ℕ, ◌<◌, ◌-◌, ◌^◌, ◌==◌, ◌&&◌, not, if◌then◌else◌, Bool, true, List, [], ◌++◌}
use Rattle.std.specs.Prelude.{filter, Option, Some, None}
use Rattle.std.specs.FinMap.{entries}
use Rattle.slon_base.specs.Codec.{number_bytes, AllAre}
use Rattle.slon_base.specs.Keeper.{Store, after}
use Rattle.store_rows.specs.Scan.{ranged, spelled_rows}
use Rattle.change_capture.specs.declared.log_row.LogRow.{LogRow}
use Rattle.change_capture.specs.Spellings.{log_row_bytes, CanLogRow}
use Rattle.slon_model.specs.Maps.{entry_at, ids}
use Rattle.slon_model.specs.Rows.{member}
use Rattle.slon_model.specs.Snapshots.{Snapshot, Rising, sees}
use Rattle.log_switch.specs.Holds.{Logged, logged_at}

-- the row is of one of these tables, and the new snapshot sees its transaction, which the old one does not
abbrev pub is_between : List ℕ → Snapshot → Snapshot → LogRow → Bool
is_between tables old new row = member row.table tables && sees new row.xid && not (sees old row.xid)

-- those rows that pass
abbrev pub passed : (LogRow → Bool) → List (ℕ × LogRow) → List (ℕ × LogRow)
passed p rows = filter (λ r. p r.1) rows

-- the row, if it passes
abbrev pub if_passes : (LogRow → Bool) → Option LogRow → Option LogRow
if_passes p None = None
if_passes p (Some row) = if p row then Some row else None

-- These rows are all those of the origin in the log that pass, each with its number, ascending by number.
pub record ArePassed (p : LogRow → Bool) (origin : ℕ) (items : List Logged) (rows : List (ℕ × LogRow)) : Type 0 where
  pub rising : Rising (ids rows)
  pub small : AllAre (λ r. r.0 < 2 ^ 63) rows
  pub rows_are : (number : ℕ) → number < 2 ^ 63 → entry_at number rows ≡ if_passes p (logged_at items (origin, number))

-- a row that a log can have, with its number
abbrev pub CanBeLogged : ℕ × LogRow → Type 0
CanBeLogged r = (r.0 < 2 ^ 63) × CanLogRow r.1

-- behind the spelled origin: what the keys of the rows from this number on come after
abbrev pub bound : ℕ → List ℕ
bound first = if first == 0 then [] else number_bytes (first - 1)

-- the pairs of a store's log that are those of the origin, from this number on, are these rows
pub record AreOf (origin first : ℕ) (m : Store) (rows : List (ℕ × LogRow)) : Type 0 where
  pub can : AllAre CanBeLogged rows
  pub spelled : ranged (number_bytes origin) (after (number_bytes origin ++ bound first) (entries (m 15)))
      ≡ spelled_rows (number_bytes origin) number_bytes log_row_bytes rows

-- the snapshot sees the transactions of all rows of the origin below this number
abbrev pub SeesBelow : ℕ → Snapshot → ℕ → List Logged → Type 0
SeesBelow first seen origin items =
    (number : ℕ) → number < first → (row : LogRow) → logged_at items (origin, number) ≡ Some row →
    sees seen row.xid ≡ true
