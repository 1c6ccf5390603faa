-- The tables of a set, dropped row by row.
use Rattle.std.proofs.Common.{◌≡◌, ℕ, Bool, true, false, cond, List, [], ◌∷◌, Option, Some, None, refl, sym, ap, subst}
use Rattle.std.proofs.Common.{◌∙◌, option_map}
use Rattle.std.specs.Prelude.{◌==◌, if◌then◌else◌}
use Rattle.slon_base.specs.Codec.{AllAre, number_bytes}
use Rattle.slon_base.specs.Keeper.{Store, put_at}
use Rattle.store_rows.specs.Rows.{IsId}
use Rattle.node_rows.specs.declared.rows.TableRow.{TableRow}
use Rattle.node_rows.specs.Spellings.{table_bytes, CanTable}
use Rattle.slon_model.specs.Maps.{Map, entry_at, with_entry}
use Rattle.slon_model.specs.Config.{Config, dropped_tables}
use Rattle.set_config.specs.Holds.{Shows}
use Rattle.set_config.specs.Rows.{each, drop_row, row_of}
use Rattle.set_config.proofs.Entries.{eq_of, entry-with}
use Rattle.set_config.proofs.Holding.{puts, with_tables, same_tables}
use Rattle.set_config.proofs.Ranges.{are_map}

abbrev gone : TableRow → TableRow
gone row = record row { live = false }

-- the row of a table, once the set is dropped
abbrev dropped : ℕ → TableRow → TableRow
dropped set row = if row.set_id == set then gone row else row

-- the tables, once that of a row is dropped
abbrev pub dropping : ℕ → ℕ × TableRow → Map TableRow → Map TableRow
dropping set e tables = if e.1.set_id == set then with_entry e.0 (gone e.1) tables else tables

shows_each : {base : Store} {c : Config} (set : ℕ) (rows : List (ℕ × TableRow)) (m : Store) →
    AllAre (λ e. IsId e.0 × CanTable e.1) rows → Shows base c m →
    Shows base (record c { tables = each (dropping set) rows c.tables }) (each (drop_row set) rows m)
shows_each set [] m can s = s
shows_each {base} {c} set (e ∷ es) m can s =
    let later = put_at 7 (number_bytes e.0) (table_bytes (gone e.1)) m in
    shows_each {c = record c { tables = dropping set e c.tables }} set es (drop_row set e m) can.1
    (elim (e.1.set_id == set) as (λ b. Shows base
    (record c { tables = cond b (with_entry e.0 (gone e.1) c.tables) c.tables }) (cond b later m)) [
      | true ↦ with_tables m (puts e.0 (gone e.1) c.tables can.0.0 can.0.1) s
      | false ↦ s
    ])

-- ---- what stands at an id

-- what stands at an id where the table of a row was dropped
entry-dropping : (set q : ℕ) (e : ℕ × TableRow) (tables : Map TableRow) → entry_at q (dropping set e tables)
    ≡ cond (q == e.0) (cond (e.1.set_id == set) (Some (gone e.1)) (entry_at q tables)) (entry_at q tables)
entry-dropping set q e tables = by (e.1.set_id == set)
  where
    by : (b : Bool) → entry_at q (cond b (with_entry e.0 (gone e.1) tables) tables)
        ≡ cond (q == e.0) (cond b (Some (gone e.1)) (entry_at q tables)) (entry_at q tables)
    by true = entry-with q e.0 (gone e.1) tables
    by false = elim (q == e.0) as (λ t. entry_at q tables ≡ cond t (entry_at q tables) (entry_at q tables)) [
      | true ↦ refl
      | false ↦ refl
    ]

-- each row at the id is this one
abbrev AreThis : ℕ → TableRow → List (ℕ × TableRow) → Type 0
AreThis q row rows = AllAre (λ e. (q == e.0) ≡ true → e.1 ≡ row) rows

-- the row at its id, once it is dropped, or if it is not of the set
here : (set : ℕ) (row : TableRow) (o : Option TableRow) →
    ((row.set_id == set) ≡ false → o ≡ Some row) →
    cond (row.set_id == set) (Some (gone row)) o ≡ Some (dropped set row)
here set row o stays =
    elim (row.set_id == set) as (λ b. (row.set_id == set) ≡ b → cond b (Some (gone row)) o
    ≡ Some (cond b (gone row) row)) [ true ↦ λ is. refl | false ↦ λ is. stays is ] refl

kept : (set : ℕ) (row : TableRow) → (row.set_id == set) ≡ false → Some (dropped set row) ≡ Some row
kept set row is = ap (λ b. Some (cond b (gone row) row)) is

-- it stays dropped
stays : (set q : ℕ) (row : TableRow) (rows : List (ℕ × TableRow)) (tables : Map TableRow) → AreThis q row rows →
    entry_at q tables ≡ Some (dropped set row) → entry_at q (each (dropping set) rows tables) ≡ Some (dropped set row)
stays set q row [] tables this is = is
stays set q row (e ∷ es) tables this is =
    stays set q row es (dropping set e tables) this.1 (entry-dropping set q e tables
    ∙ elim (q == e.0) as (λ t. (q == e.0) ≡ t →
    cond t (cond (e.1.set_id == set) (Some (gone e.1)) (entry_at q tables)) (entry_at q tables)
    ≡ Some (dropped set row)) [
      | true ↦ λ same. subst (λ r. cond (r.set_id == set) (Some (gone r)) (entry_at q tables)
          ≡ Some (dropped set row)) (sym (this.0 same))
          (here set row (entry_at q tables) (λ other. is ∙ kept set row other))
      | false ↦ λ other. is
    ] refl)

-- it is dropped behind its row
sweeps : (set q : ℕ) (row : TableRow) (rows : List (ℕ × TableRow)) (tables : Map TableRow) → AreThis q row rows →
    row_of (λ a b. a == b) q rows ≡ Some row → entry_at q tables ≡ Some row →
    entry_at q (each (dropping set) rows tables) ≡ Some (dropped set row)
sweeps set q row [] tables this there is = absurd cc
sweeps set q row (e ∷ es) tables this there is =
    elim (q == e.0) as (λ t. (q == e.0) ≡ t → cond t (Some e.1) (row_of (λ a b. a == b) q es) ≡ Some row →
    entry_at q (each (dropping set) es (dropping set e tables)) ≡ Some (dropped set row)) [
      | true ↦ λ same found. stays set q row es (dropping set e tables) this.1
          (entry-dropping set q e tables
          ∙ ap (λ t. cond t (cond (e.1.set_id == set) (Some (gone e.1)) (entry_at q tables)) (entry_at q tables)) same
          ∙ subst (λ r. cond (r.set_id == set) (Some (gone r)) (entry_at q tables)
          ≡ Some (dropped set row)) (sym (this.0 same))
          (here set row (entry_at q tables) (λ other. is)))
      | false ↦ λ other found. sweeps set q row es (dropping set e tables) this.1 found
          (entry-dropping set q e tables
          ∙ ap (λ t. cond t (cond (e.1.set_id == set) (Some (gone e.1)) (entry_at q tables)) (entry_at q tables)) other
          ∙ is)
    ] refl there

-- an id without a row
untouched : (set q : ℕ) (rows : List (ℕ × TableRow)) (tables : Map TableRow) →
    row_of (λ a b. a == b) q rows ≡ None → entry_at q (each (dropping set) rows tables) ≡ entry_at q tables
untouched set q [] tables none = refl
untouched set q (e ∷ es) tables none =
    elim (q == e.0) as (λ t. (q == e.0) ≡ t → cond t (Some e.1) (row_of (λ a b. a == b) q es) ≡ None →
    entry_at q (each (dropping set) es (dropping set e tables)) ≡ entry_at q tables) [
      | true ↦ λ same found. absurd cc
      | false ↦ λ other found. untouched set q es (dropping set e tables) found ∙ entry-dropping set q e tables
          ∙ ap (λ t. cond t (cond (e.1.set_id == set) (Some (gone e.1)) (entry_at q tables)) (entry_at q tables)) other
    ] refl none

-- what stands at an id once the set is dropped
entry-dropped : (set q : ℕ) (tables : Map TableRow) →
    entry_at q (dropped_tables set tables) ≡ option_map (dropped set) (entry_at q tables)
entry-dropped set q [] = refl
entry-dropped set q (e ∷ es) =
    one (e.1.set_id == set)
    ∙ ap (cond (q == e.0) (Some (dropped set e.1))) (entry-dropped set q es)
    ∙ spread (q == e.0) (entry_at q es)
  where
    one : (b : Bool) → cond (q == (cond b (e.0, gone e.1) e).0) (Some (cond b (e.0, gone e.1) e).1)
        (entry_at q (dropped_tables set es))
        ≡ cond (q == e.0) (Some (cond b (gone e.1) e.1)) (entry_at q (dropped_tables set es))
    one true = refl
    one false = refl

    spread : (t : Bool) (o : Option TableRow) → cond t (Some (dropped set e.1)) (option_map (dropped set) o)
        ≡ option_map (dropped set) (cond t (Some e.1) o)
    spread true o = refl
    spread false o = refl

-- ---- all tables of the set

-- these rows are what stands, and all of it
pub record AreAll (rows : List (ℕ × TableRow)) (tables : Map TableRow) : Type 0 where
  pub can : AllAre (λ e. IsId e.0 × CanTable e.1) rows
  pub stand : AllAre (λ e. entry_at e.0 tables ≡ Some e.1) rows
  pub all : (q : ℕ) → IsId q → row_of (λ a b. a == b) q rows ≡ entry_at q tables

swept : (set q : ℕ) (rows : List (ℕ × TableRow)) (tables : Map TableRow) → IsId q → AreAll rows tables →
    entry_at q (each (dropping set) rows tables) ≡ entry_at q (dropped_tables set tables)
swept set q rows tables one are = by (entry_at q tables) refl ∙ sym (entry-dropped set q tables)
  where
    by : (o : Option TableRow) → entry_at q tables ≡ o →
        entry_at q (each (dropping set) rows tables) ≡ option_map (dropped set) (entry_at q tables)
    by None is = untouched set q rows tables (are.all q one ∙ is) ∙ is ∙ ap (option_map (dropped set)) (sym is)
    by (Some row) is =
        sweeps set q row rows tables
        (are_map rows (λ e stands same. let both : Some e.1 ≡ Some row = sym stands
        ∙ ap (λ k. entry_at k tables) (sym (eq_of q e.0 same)) ∙ is in
        cc) are.stand)
        (are.all q one ∙ is) is
        ∙ ap (option_map (dropped set)) (sym is)

pub shows_dropped : {base : Store} {c : Config} (set : ℕ) (rows : List (ℕ × TableRow)) (m : Store) →
    AreAll rows c.tables → Shows base c m →
    Shows base (record c { tables = dropped_tables set c.tables }) (each (drop_row set) rows m)
shows_dropped {c = c} set rows m are s =
    same_tables (dropped_tables set c.tables) (λ q one. sym (swept set q rows c.tables one are))
    (shows_each set rows m are.can s)
