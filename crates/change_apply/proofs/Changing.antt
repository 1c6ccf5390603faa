-- A store that holds the rows of tables, after a change of one row.
use Rattle.std.proofs.Common.{◌≡◌, ℕ, ◌+◌, Bool, true, false, cond, List, [], ◌∷◌, length, Option, Some, None}
use Rattle.std.proofs.Common.{Result, Ok, Err, refl, sym, ap, subst, ◌∙◌, arith, OnOk, IfOk}
use Rattle.std.specs.Prelude.{◌==◌, ◌&&◌, option_map, unwrap_or}
use Rattle.std.specs.Str.{bytes_eq}
use Rattle.std.specs.FinMap.{get}
use Rattle.std.proofs.lemmas.Bool.{and_parts, and_from}
use Rattle.std.proofs.lemmas.Slice.Eq.{bytes_eq-Decides}
use Rattle.slon_base.specs.Codec.{text_bytes, list_bytes, IsText, AreTexts, AllAre}
use Rattle.slon_base.specs.Keeper.{Store, Kept, sight, put_at, del_at}
use Rattle.slon_base.proofs.Spelled.{text_front, text_bytes-same}
use Rattle.store_rows.specs.Space.{AllOf, Alters, IsPending, written}
use Rattle.store_rows.proofs.Spaces.{altered, same_space}
use Rattle.store_rows.specs.declared.stop.Stop.{Stop}
use Rattle.slon_model.specs.Rows.{Row, Rows, Change, Put, Set, Remove, column_value, with_columns, updated, touches}
use Rattle.slon_model.specs.Rows.{change_key}
use Rattle.slon_laws.specs.Keys.{change_at}
use Rattle.slon_laws.proofs.Keys.{get-step}
use Rattle.change_apply.specs.Applied.{row_key, IsKey, HoldsRows, CanApply, with_row, changed_in, IsChanged}

-- ---- words

column_text : (columns : List (ℕ × List ℕ)) (number : ℕ) (old : List ℕ) → AllAre (λ c. IsText c.1) columns →
    IsText old → IsText (column_value columns number old)
column_text [] number old words text = text
column_text (c ∷ cs) number old words text =
    elim (c.0 == number) as (λ b. IsText (cond b c.1 (column_value cs number old))) [
      | true ↦ words.0
      | false ↦ column_text cs number old words.1 text
    ]

columns_texts : (columns : List (ℕ × List ℕ)) (number : ℕ) (row : Row) → AllAre (λ c. IsText c.1) columns →
    AllAre IsText row → AllAre IsText (with_columns columns number row)
columns_texts columns number [] words texts = tt
columns_texts columns number (value ∷ row) words texts =
    (column_text columns number value words texts.0, columns_texts columns (number + 1) row words texts.1)

as_many : (columns : List (ℕ × List ℕ)) (number : ℕ) (row : Row) → length (with_columns columns number row) ≡ length row
as_many columns number [] = refl
as_many columns number (value ∷ row) = omega (arith, as_many columns (number + 1) row)

-- new values of texts make a row of texts
pub updated_texts : (columns : List (ℕ × List ℕ)) (row : Row) → AllAre (λ c. IsText c.1) columns → AreTexts row →
    AreTexts (updated columns row)
updated_texts columns row words texts = record {
  few = omega (arith, texts.few, as_many columns 2 row);
  each = columns_texts columns 2 row words texts.each;
}

-- what a change makes of a row of texts is one
texts_after : (change : Change) (old : Option Row) → CanApply change → AllOf AreTexts old →
    AllOf AreTexts (change_at change old)
texts_after (Put key row) old can texts = can.1
texts_after (Set key columns) None can texts = tt
texts_after (Set key columns) (Some row) can texts = updated_texts columns row can.1 texts
texts_after (Remove key) old can texts = tt

-- ---- rows

-- a key is spelled by one table and one key
key_unique : (a b : List ℕ × List ℕ) → IsKey a → IsKey b → row_key a ≡ row_key b → a ≡ b
key_unique a b one two is =
    let parts = text_front a.0 b.0 (text_bytes a.1) (text_bytes b.1) one.0.short two.0.short is in
    let back = text_bytes-same a.1 b.1 parts.1 in
    λ k. (parts.0 k, back k)

itself : (a : List ℕ) → bytes_eq a a ≡ true
itself a = (bytes_eq-Decides a a).1 refl

-- the row that a change is on becomes what it makes of it, and no other one changes
alters : (table : List ℕ) (change : Change) (tables : List ℕ → Rows) → Alters {I = List ℕ × List ℕ} IsKey
    (table, change_key change) (change_at change (get (tables table) (change_key change)))
    (λ i. get (tables i.0) i.1) (λ i. get (changed_in table change tables i.0) i.1)
alters table change tables = record {
  here = get-step (bytes_eq table table) change (tables table) (change_key change)
      ∙ ap (λ b. cond b (change_at change (get (tables table) (change_key change)))
      (get (tables table) (change_key change)))
      (and_from (bytes_eq table table) (touches (change_key change) change) (itself table)
      (itself (change_key change)));
  there = λ j one differ. get-step (bytes_eq j.0 table) change (tables j.0) j.1
      ∙ other j (bytes_eq j.0 table && touches j.1 change) refl differ;
}
  where
    other : (j : List ℕ × List ℕ) (b : Bool) → (bytes_eq j.0 table && touches j.1 change) ≡ b →
        (j ≡ (table, change_key change) → ⊥) →
        cond b (change_at change (get (tables j.0) j.1)) (get (tables j.0) j.1) ≡ get (tables j.0) j.1
    other j true is differ =
        let parts = and_parts (bytes_eq j.0 table) (touches j.1 change) is in
        let first = (bytes_eq-Decides j.0 table).0 parts.0 in
        let second = (bytes_eq-Decides j.1 (change_key change)).0 parts.1 in
        absurd (differ (λ k. (first k, second k)))
    other j false is differ = refl

with_row_is : (key : List ℕ) (now : Option Row) (m : Store) →
    with_row key now m 3 ≡ written (option_map list_bytes now) key (m 3)
with_row_is key None m = refl
with_row_is key (Some row) m = refl

pub key_text : (change : Change) → CanApply change → IsText (change_key change)
key_text (Put key row) can = can.0
key_text (Set key columns) can = can.0
key_text (Remove key) can = can

-- the row that the change makes is put in the place of the one that is there
pub holds_put : (table : List ℕ) (change : Change) (tables : List ℕ → Rows) (m : Store) → IsText table →
    CanApply change → HoldsRows tables m → HoldsRows (changed_in table change tables)
    (with_row (row_key (table, change_key change)) (change_at change (get (tables table) (change_key change))) m)
holds_put table change tables m text can held =
    let old = get (tables table) (change_key change) in
    let one : IsKey (table, change_key change) = (text, key_text change can) in
    let texts = texts_after change old can (held.spelled (table, change_key change) one) in
    subst (λ s. HoldsRows (changed_in table change tables) (λ space. s))
    (sym (with_row_is (row_key (table, change_key change)) (change_at change old) m))
    (altered (record { unique = key_unique; one = one; can = texts; alters = alters table change tables }) held)

-- where no row has the key, there is none to be changed
pub holds_none : (table key : List ℕ) (columns : List (ℕ × List ℕ)) (tables : List ℕ → Rows) (m : Store) →
    get (tables table) key ≡ None → HoldsRows tables m → HoldsRows (changed_in table (Set key columns) tables) m
holds_none table key columns tables m none held =
    same_space held (λ j one. get-step (bytes_eq j.0 table) (Set key columns) (tables j.0) j.1
    ∙ at j (bytes_eq j.0 table && bytes_eq j.1 key) refl)
  where
    at : (j : List ℕ × List ℕ) (b : Bool) → (bytes_eq j.0 table && bytes_eq j.1 key) ≡ b →
        cond b (option_map (updated columns) (get (tables j.0) j.1)) (get (tables j.0) j.1) ≡ get (tables j.0) j.1
    at j true is =
        let parts = and_parts (bytes_eq j.0 table) (bytes_eq j.1 key) is in
        let first = (bytes_eq-Decides j.0 table).0 parts.0 in
        let second = (bytes_eq-Decides j.1 key).0 parts.1 in
        let here : get (tables j.0) j.1 ≡ None = (λ k. get (tables (first k)) (second k)) ∙ none in
        ap (option_map (updated columns)) here ∙ sym here
    at j false is = refl

-- ---- what is pending

-- what a call made of the pending store
pub pending_ok : {T : Type 0} (Q : Store → Type 0) (f : Store → Store) (new : Kept) {before : Option (Option Store)}
    {m : Store} (result : Result T Stop) → OnOk result (new.pending ≡ option_map (option_map f) before) →
    before ≡ Some (Some m) → Q (f m) → IfOk result (λ u. IsPending Q new)
pending_ok Q f new {before} {m} (Ok u) put is has =
    record { store = f m; is = put ∙ ap (option_map (option_map f)) is; has = has }
pending_ok Q f new (Err stop) put is has = tt

-- what is pending is seen
pub seen : (k : Kept) (m : Store) → k.pending ≡ Some (Some m) → sight k ≡ Some m
seen k m is = ap (λ o. unwrap_or o k.held) is

-- ---- each kind of change

pub put_changed : {table key : List ℕ} {row : Row} {change : Change} {m : Store} → change ≡ Put key row →
    IsChanged table change m (put_at 3 (row_key (table, key)) (list_bytes row) m)
put_changed {table} {key} {row} {change} {m} is =
    subst (λ c. IsChanged table c m (put_at 3 (row_key (table, key)) (list_bytes row) m)) (sym is)
    (record { row = None; read = refl; is = refl })

pub remove_changed : {table key : List ℕ} {change : Change} {m : Store} → change ≡ Remove key →
    IsChanged table change m (del_at 3 (row_key (table, key)) m)
remove_changed {table} {key} {change} {m} is =
    subst (λ c. IsChanged table c m (del_at 3 (row_key (table, key)) m)) (sym is)
    (record { row = None; read = refl; is = refl })

pub set_changed : {table key : List ℕ} {columns : List (ℕ × List ℕ)} {new : Row} {change : Change} (m : Store)
    (row : Row) → change ≡ Set key columns → get (m 3) (row_key (table, key)) ≡ Some (list_bytes row) →
    new ≡ updated columns row → IsChanged table change m (put_at 3 (row_key (table, key)) (list_bytes new) m)
set_changed {table} {key} {columns} {new} {change} m row is there made =
    subst (λ r. IsChanged table change m (put_at 3 (row_key (table, key)) (list_bytes r) m)) (sym made)
    (subst (λ c. IsChanged table c m (put_at 3 (row_key (table, key)) (list_bytes (updated columns row)) m)) (sym is)
    (record { row = Some row; read = there; is = refl }))

pub none_changed : {table key : List ℕ} {columns : List (ℕ × List ℕ)} {change : Change} {m : Store} →
    change ≡ Set key columns → get (m 3) (row_key (table, key)) ≡ None → IsChanged table change m m
none_changed {table} {key} {columns} {change} {m} is there =
    subst (λ c. IsChanged table c m m) (sym is) (record { row = None; read = there; is = refl })

-- A change of a row of a table in a store that holds rows.
pub record Acts (table : List ℕ) (change : Change) (tables : List ℕ → Rows) (m : Store) : Type 0 where
  pub text : IsText table
  pub can : CanApply change
  pub held : HoldsRows tables m

pub put_holds : {table key : List ℕ} {row : Row} {change : Change} {tables : List ℕ → Rows} (m : Store) →
    change ≡ Put key row → Acts table change tables m →
    HoldsRows (changed_in table change tables) (put_at 3 (row_key (table, key)) (list_bytes row) m)
put_holds {table} {key} {row} {change} {tables} m is a =
    let can = subst CanApply is a.can in
    subst (λ c. HoldsRows (changed_in table c tables) (put_at 3 (row_key (table, key)) (list_bytes row) m)) (sym is)
    (holds_put table (Put key row) tables m a.text can a.held)

pub remove_holds : {table key : List ℕ} {change : Change} {tables : List ℕ → Rows} (m : Store) →
    change ≡ Remove key → Acts table change tables m →
    HoldsRows (changed_in table change tables) (del_at 3 (row_key (table, key)) m)
remove_holds {table} {key} {change} {tables} m is a =
    let can = subst CanApply is a.can in
    subst (λ c. HoldsRows (changed_in table c tables) (del_at 3 (row_key (table, key)) m)) (sym is)
    (holds_put table (Remove key) tables m a.text can a.held)

pub set_holds : {table key : List ℕ} {columns : List (ℕ × List ℕ)} {row new : Row} {change : Change}
    {tables : List ℕ → Rows} (m : Store) → change ≡ Set key columns → Some row ≡ get (tables table) key →
    new ≡ updated columns row → Acts table change tables m →
    HoldsRows (changed_in table change tables) (put_at 3 (row_key (table, key)) (list_bytes new) m)
set_holds {table} {key} {columns} {row} {new} {change} {tables} m is there made a =
    let can = subst CanApply is a.can in
    let put = subst (λ o. HoldsRows (changed_in table (Set key columns) tables)
    (with_row (row_key (table, key)) (option_map (updated columns) o) m)) (sym there)
    (holds_put table (Set key columns) tables m a.text can a.held) in
    subst (λ r. HoldsRows (changed_in table change tables) (put_at 3 (row_key (table, key)) (list_bytes r) m))
    (sym made)
    (subst (λ c. HoldsRows (changed_in table c tables)
    (put_at 3 (row_key (table, key)) (list_bytes (updated columns row)) m)) (sym is) put)

pub none_holds : {table key : List ℕ} {columns : List (ℕ × List ℕ)} {change : Change} {tables : List ℕ → Rows}
    (m : Store) → change ≡ Set key columns → None ≡ get (tables table) key → Acts table change tables m →
    HoldsRows (changed_in table change tables) m
none_holds {table} {key} {columns} {change} {tables} m is there a =
    subst (λ c. HoldsRows (changed_in table c tables) m) (sym is)
    (holds_none table key columns tables m (sym there) a.held)

-- what is put is a row of texts
pub set_texts : {key : List ℕ} {columns : List (ℕ × List ℕ)} {change : Change} {old : Option Row} {row new : Row} →
    change ≡ Set key columns → CanApply change → old ≡ Some row → AllOf AreTexts old → new ≡ updated columns row →
    AreTexts new
set_texts {key} {columns} {change} {old} {row} {new} is can found texts made =
    let words : IsText key × AllAre (λ c. IsText c.1) columns = subst CanApply is can in
    subst AreTexts (sym made) (updated_texts columns row words.1 (subst (AllOf AreTexts) found texts))

-- the key of a row whose columns get new values
pub set_key : {table key : List ℕ} {columns : List (ℕ × List ℕ)} {change : Change} → change ≡ Set key columns →
    IsText table → CanApply change → IsKey (table, key)
set_key is text can = (text, (subst CanApply is can).0)
