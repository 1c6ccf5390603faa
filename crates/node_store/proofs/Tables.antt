-- The rows that a database holds are those of the tables of a store, and the other way round.
use Rattle.std.proofs.Common.{◌≡◌, ◌∙◌, ℕ, List, Option, Some, None, refl, sym, ap, subst}
use Rattle.std.specs.Prelude.{option_map}
use Rattle.std.specs.FinMap.{get}
use Rattle.slon_base.specs.Keeper.{Store}
use Rattle.slon_base.specs.Codec.{list_bytes, text_bytes, AreTexts, IsText}
use Rattle.slon_base.proofs.Spelled.{text_front, text_bytes-same}
use Rattle.store_rows.specs.Space.{AllOf, Any}
use Rattle.slon_model.specs.Rows.{Row, Rows}
use Rattle.slon_laws.specs.Spelled.{AreFormed}
use Rattle.app_store.specs.Spelled.{AreRows}
use Rattle.change_apply.specs.Applied.{HoldsRows, row_key}

some_mapped : (o : Option Row) (v : List ℕ) → option_map list_bytes o ≡ Some v → (row : Row) × (o ≡ Some row)
some_mapped None v is = absurd cc
some_mapped (Some row) v is = (row, refl)

texts_formed : (o : Option Row) → ((row : Row) → o ≡ Some row → AreTexts row) → AllOf AreTexts o
texts_formed None formed = tt
texts_formed (Some row) formed = formed row refl

all_any : (o : Option Row) → AllOf Any o
all_any None = tt
all_any (Some row) = tt

-- a database that holds rows of their forms
pub holds_tables : (tables : List ℕ → Rows) (m : Store) → ((table : List ℕ) → AreFormed (tables table)) →
    AreRows tables (m 3) → HoldsRows tables m
holds_tables tables m formed at = record {
  lookups = λ i one. at.lookups i one.0;
  spelled = λ i one. texts_formed (get (tables i.0) i.1) (λ row is. (formed i.0 i.1 row is).0.1);
  keys = λ q v is.
      let found = at.keys q v is in
      let there = some_mapped (get (tables found.0.0) found.0.1) v
      (sym (at.lookups found.0 found.1) ∙ ap (get (m 3)) (sym found.2) ∙ is) in
      (found.0, (found.1, (formed found.0.0 found.0.1 there.0 there.1).0.0), found.2);
}

-- the key of a row that stands is a text
key_text : (tables : List ℕ → Rows) (m : Store) → HoldsRows tables m → (i : List ℕ × List ℕ) → IsText i.0 →
    (v : List ℕ) → get (m 3) (row_key i) ≡ Some v → IsText i.1
key_text tables m holds i text v is =
    let found = holds.keys (row_key i) v is in
    let parts = text_front i.0 found.0.0 (text_bytes i.1) (text_bytes found.0.1) text.short found.1.0.short found.2 in
    subst IsText (sym (text_bytes-same i.1 found.0.1 parts.1)) found.1.1

pub tables_held : (tables : List ℕ → Rows) (m : Store) → ((table : List ℕ) → AreFormed (tables table)) →
    HoldsRows tables m → AreRows tables (m 3)
tables_held tables m formed holds = record {
  lookups = λ i text. by i text (get (m 3) (row_key i)) refl (get (tables i.0) i.1) refl;
  spelled = λ i one. all_any (get (tables i.0) i.1);
  keys = λ q v is. let found = holds.keys q v is in (found.0, found.1.0, found.2);
}
  where
    by : (i : List ℕ × List ℕ) → IsText i.0 → (held : Option (List ℕ)) → get (m 3) (row_key i) ≡ held →
        (there : Option Row) → get (tables i.0) i.1 ≡ there →
        get (m 3) (row_key i) ≡ option_map list_bytes (get (tables i.0) i.1)
    by i text (Some v) is there has = holds.lookups i (text, key_text tables m holds i text v is)
    by i text None is (Some row) has = holds.lookups i (text, (formed i.0 i.1 row has).0.0)
    by i text None is None has = is ∙ sym (ap (option_map list_bytes) has)
