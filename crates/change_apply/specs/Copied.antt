-- The rows of one table as a list, and a table whose rows are replaced.
use Rattle.std.specs.Prelude.{◌≡◌, ℕ, if◌then◌else◌, List, [], ◌∷◌, map, Option, Some, None}
use Rattle.std.specs.Str.{bytes_eq}
use Rattle.std.specs.FinMap.{get, entries}
use Rattle.slon_base.specs.Codec.{text_bytes, list_bytes, IsText, AreTexts, AllAre}
use Rattle.slon_base.specs.Keeper.{Store, after}
use Rattle.store_rows.specs.Scan.{ranged, spelled_rows}
use Rattle.slon_model.specs.Names.{Named}
use Rattle.slon_model.specs.Rows.{Row, Rows, Change, Put, Remove}
use Rattle.change_apply.specs.Applied.{changed_in}
use Rattle.change_apply.specs.declared.copying.Turn.{Turn}
use Rattle.change_apply.specs.declared.copying.Turn.TheVariants.{Take, Give}

-- the row with this key
abbrev pub row_in : List (List ℕ × Row) → List ℕ → Option Row
row_in [] key = None
row_in (r ∷ rows) key = if bytes_eq key r.0 then Some r.1 else row_in rows key

-- no two rows have one key
abbrev pub AreApart : List (List ℕ × Row) → Type 0
AreApart [] = Unit {0}
AreApart (r ∷ rows) = (row_in rows r.0 ≡ None) × AreApart rows

-- each row of the table, once
pub record AreRowsOf (table : Rows) (rows : List (List ℕ × Row)) : Type 0 where
  pub apart : AreApart rows
  pub lookups : (key : List ℕ) → IsText key → row_in rows key ≡ get table key

abbrev pub CanCopy : List (List ℕ × Row) → Type 0
CanCopy = AllAre (λ r. IsText r.0 × AreTexts r.1)

-- the pairs of the table in a store are these rows
pub record AreFound (table : List ℕ) (m : Store) (rows : List (List ℕ × Row)) : Type 0 where
  pub can : CanCopy rows
  pub spelled : ranged (text_bytes table) (after (text_bytes table) (entries (m 3)))
      ≡ spelled_rows (text_bytes table) text_bytes list_bytes rows

-- the tables with these rows in one of them
abbrev pub with_table : List ℕ → Rows → (List ℕ → Rows) → List ℕ → Rows
with_table table rows tables other = if bytes_eq other table then rows else tables other

-- ---- one row after the other

-- after changes in a table, the first of them first
abbrev pub played : List ℕ → List Change → (List ℕ → Rows) → List ℕ → Rows
played table [] tables = tables
played table (c ∷ changes) tables = played table changes (changed_in table c tables)

-- what is done with a row
abbrev pub turned : Turn → List ℕ × Row → Change
turned Take r = Remove r.0
turned Give r = Put r.0 r.1

abbrev pub turns : Turn → List (List ℕ × Row) → List Change
turns turn rows = map (turned turn) rows

-- ---- several tables

-- tables by their names, each with its rows as a list
abbrev pub Listed : Type 0
Listed = List (List ℕ × List (List ℕ × Row))

abbrev pub CanCopyAll : Listed → Type 0
CanCopyAll = AllAre (λ t. IsText t.0 × CanCopy t.1)

-- the same tables, each with its rows
abbrev pub AreListed : Named Rows → Listed → Type 0
AreListed [] [] = Unit {0}
AreListed (r ∷ rs) (t ∷ ts) = (r.0 ≡ t.0) × AreRowsOf r.1 t.1 × AreListed rs ts
AreListed rs ts = ⊥

-- what these tables hold
abbrev pub held_in : (List ℕ → Rows) → List (List ℕ) → Named Rows
held_in tables names = map (λ name. (name, tables name)) names

-- all tables with these rows in some of them, of two for one table the first
abbrev pub with_tables : Named Rows → (List ℕ → Rows) → List ℕ → Rows
with_tables [] tables = tables
with_tables (r ∷ rs) tables = with_table r.0 r.1 (with_tables rs tables)
