-- How a store holds the log of its node.
use Rattle.std.specs.Prelude.{ℕ, ◌<◌, ◌^◌, ◌==◌, ◌&&◌, if◌then◌else◌, List, [], ◌∷◌, ◌++◌, Option, Some, None}
use Rattle.slon_base.specs.Codec.{number_bytes}
use Rattle.slon_base.specs.Keeper.{Store, put_at}
use Rattle.store_rows.specs.Rows.{IsId}
use Rattle.store_rows.specs.Space.{IsSpace}
use Rattle.change_capture.specs.declared.log_row.LogRow.{LogRow}
use Rattle.change_capture.specs.Spellings.{log_row_bytes, CanLogRow}

-- A row of the log, with its origin and the number of its action there.
pub record Logged : Type 0 where
  pub origin : ℕ
  pub number : ℕ
  pub row : LogRow

abbrev pub IsNumbered : ℕ × ℕ → Type 0
IsNumbered i = IsId i.0 × (i.1 < 2 ^ 63)

abbrev pub log_key : ℕ × ℕ → List ℕ
log_key i = number_bytes i.0 ++ number_bytes i.1

abbrev pub logged_at : List Logged → ℕ × ℕ → Option LogRow
logged_at [] i = None
logged_at (l ∷ ls) i = if l.origin == i.0 && l.number == i.1 then Some l.row else logged_at ls i

abbrev pub HoldsLog : List Logged → Store → Type 0
HoldsLog items m = IsSpace log_key IsNumbered log_row_bytes CanLogRow (logged_at items) (m 15)

-- the store with these rows of an origin in its log, each at its number
abbrev pub put_logs : ℕ → List (ℕ × LogRow) → Store → Store
put_logs origin [] m = m
put_logs origin (r ∷ rs) m = put_logs origin rs (put_at 15 (log_key (origin, r.0)) (log_row_bytes r.1) m)

-- the log with these rows of an origin in front, the last of them first
abbrev pub logged_more : ℕ → List (ℕ × LogRow) → List Logged → List Logged
logged_more origin [] items = items
logged_more origin (r ∷ rs) items =
    logged_more origin rs (record { origin = origin; number = r.0; row = r.1 } ∷ items)
