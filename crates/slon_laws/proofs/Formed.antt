-- The rows that a table holds are such as writes put them.
use Rattle.std.proofs.Common.{◌≡◌, ◌∙◌, ℕ, ◌+◌, Bool, true, false, cond, List, [], ◌∷◌, Option, Some, None, refl}
use Rattle.std.proofs.Common.{suc, length, map, sym, ap, subst, arith}
use Rattle.std.specs.Prelude.{◌&&◌, ◌==◌, nat_le, unwrap_or}
use Rattle.std.specs.List.{AllByRecursion, list_all}
use Rattle.std.specs.FinMap.{get, empty, get-empty}
use Rattle.std.specs.Str.{bytes_eq}
use Rattle.std.proofs.lemmas.Bool.{false≢true}
use Rattle.slon_base.specs.Keeper.{key_cmp}
use Rattle.slon_base.specs.Codec.{IsText, AllTexts, AreTexts}
use Rattle.slon_model.specs.Forms.{is_value}
use Rattle.slon_model.specs.Names.{Named, find_named}
use Rattle.slon_model.specs.Rows.{Row, Rows, Action, Change, Put, Set, Remove, member, touches, updated, apply}
use Rattle.slon_model.specs.Rows.{play_rows, with_columns, column_value}
use Rattle.slon_model.specs.Spoken.{IsValue, AreValues, IsChange}
use Rattle.slon_model.specs.Place.{Place, Filling, filling_of, rows_since, standing_rows}
use Rattle.slon_model.proofs.Names.{all_found, bytes_same}
use Rattle.slon_laws.specs.Keys.{change_at}
use Rattle.slon_laws.specs.Spelled.{IsSpelled, IsWritten, CanSpell, IsRowFormed, AreFormed}
use Rattle.slon_laws.proofs.Keys.{get-apply}

and_both : (a b : Bool) → a ≡ true → b ≡ true → (a && b) ≡ true
and_both true b one other = other
and_both false b one other = absurd (false≢true one)

and_left : (a b : Bool) → (a && b) ≡ true → a ≡ true
and_left true b is = refl
and_left false b is = is

and_right : (a b : Bool) → (a && b) ≡ true → b ≡ true
and_right true b is = is
and_right false b is = absurd (false≢true is)

-- ---- new values for columns

length-with_columns : (columns : List (ℕ × List ℕ)) (n : ℕ) (row : Row) →
    length (with_columns columns n row) ≡ length row
length-with_columns columns n [] = refl
length-with_columns columns n (v ∷ vs) = ap suc (length-with_columns columns (n + 1) vs)

column_text : (columns : List (ℕ × List ℕ)) (n : ℕ) (old : List ℕ) → AllTexts (map (λ c. c.1) columns) → IsText old →
    IsText (column_value columns n old)
column_text [] n old all text = text
column_text (c ∷ cs) n old all text =
    elim (c.0 == n) as (λ b. IsText
    (cond b c.1 (column_value cs n old))) [ true ↦ all.0 | false ↦ column_text cs n old all.1 text ]

AllTexts-with_columns : (columns : List (ℕ × List ℕ)) (n : ℕ) (row : Row) → AllTexts (map (λ c. c.1) columns) →
    AllTexts row → AllTexts (with_columns columns n row)
AllTexts-with_columns columns n [] all texts = tt
AllTexts-with_columns columns n (v ∷ vs) all texts = (
  column_text columns n v all texts.0,
  AllTexts-with_columns columns (n + 1) vs all texts.1,
)

pub AreTexts-updated : (columns : List (ℕ × List ℕ)) (row : Row) → AllTexts (map (λ c. c.1) columns) → AreTexts row →
    AreTexts (updated columns row)
AreTexts-updated columns row all texts = record {
  few = omega (arith, length-with_columns columns 2 row, texts.few);
  each = AllTexts-with_columns columns 2 row all texts.each;
}

column_formed : (columns : List (ℕ × List ℕ)) (number : ℕ) (old : List ℕ) →
    list_all (λ c. is_value c.1) columns ≡ true → is_value old ≡ true →
    is_value (column_value columns number old) ≡ true
column_formed [] number old all formed = formed
column_formed (c ∷ cs) number old all formed =
    elim (c.0 == number) as (λ b. is_value (cond b c.1 (column_value cs number old)) ≡ true) [
      | true ↦ and_left _ _ all
      | false ↦ column_formed cs number old (and_right _ _ all) formed
    ]

columns_formed : (columns : List (ℕ × List ℕ)) (number : ℕ) (row : Row) →
    list_all (λ c. is_value c.1) columns ≡ true → AreValues row → AreValues (with_columns columns number row)
columns_formed columns number [] all formed = refl
columns_formed columns number (v ∷ vs) all formed =
    and_both _ _ (column_formed columns number v all (and_left _ _ formed))
    (columns_formed columns (number + 1) vs all (and_right _ _ formed))

-- ---- rows

-- what a change makes of the row that it is on
changed_formed : (c : Change) (key : List ℕ) (old : Option Row) (row : Row) → CanSpell c × IsChange c →
    touches key c ≡ true → ((r : Row) → old ≡ Some r → IsRowFormed key r) → change_at c old ≡ Some row →
    IsRowFormed key row
changed_formed (Put k new) key old row (can, formed) on before is =
    let same : new ≡ row = cc in
    let key_is : k ≡ key = sym (bytes_same key k on) in
    subst (IsRowFormed key) same
    ((subst IsText key_is can.0, can.1), (subst IsValue key_is formed.0, formed.1))
changed_formed (Set k columns) key None row (can, formed) on before is = absurd cc
changed_formed (Set k columns) key (Some r) row (can, formed) on before is =
    let same : updated columns r ≡ row = cc in
    let was = before r refl in
    subst (IsRowFormed key) same (
      (was.0.0, AreTexts-updated columns r can.1 was.0.1),
      (was.1.0, columns_formed columns 2 r formed.1 was.1.1),
    )
changed_formed (Remove k) key old row can on before is = absurd cc

-- what a change makes of such rows
pub applied_formed : (c : Change) (rows : Rows) → CanSpell c × IsChange c → AreFormed rows → AreFormed (apply c rows)
applied_formed c rows can formed key row is = by (touches key c) refl (sym (get-apply c rows key) ∙ is)
  where
    by : (b : Bool) → touches key c ≡ b → cond b (change_at c (get rows key)) (get rows key) ≡ Some row →
        IsRowFormed key row
    by true on has = changed_formed c key (get rows key) row can on (formed key) has
    by false beside has = formed key row has

played_formed : (test : Action → Bool) (table : List ℕ) (actions : List Action) (start : Rows) → AreFormed start →
    AllByRecursion IsWritten actions → AreFormed (play_rows test table actions start)
played_formed test table [] start formed written = formed
played_formed test table (a ∷ rest) start formed written =
    let before = played_formed test table rest start formed written.1 in
    elim (test a && bytes_eq table a.table) as (λ b.
    AreFormed (cond b (apply a.change (play_rows test table rest start)) (play_rows test table rest start))) [
      | true ↦ applied_formed a.change _ (written.0.change, written.0.formed) before
      | false ↦ before
    ]

-- what a table was last filled with
filling_formed : (table : List ℕ) (fillings : Named Filling) → AllByRecursion (λ f. AreFormed f.1.rows) fillings →
    AreFormed (filling_of table fillings).rows
filling_formed table fillings all = by (find_named table fillings) refl
  where
    by : (o : Option Filling) → find_named table fillings ≡ o →
        AreFormed (unwrap_or o (record { first = 0; rows = empty })).rows
    by None found = λ key row is. let bad : None ≡ Some row = sym (get-empty key_cmp key) ∙ is in absurd cc
    by (Some f) found = all_found (λ f. AreFormed f.rows) table f fillings all found

pub since_formed : (test : Action → Bool) (table : List ℕ) (p : Place) → IsSpelled p →
    AreFormed (rows_since test table p.actions (filling_of table p.fillings))
since_formed test table p spelled =
    let f = filling_of table p.fillings in
    played_formed (λ a. test a && nat_le f.first a.number) table p.actions f.rows
    (filling_formed table p.fillings spelled.filled) spelled.written

pub standing_formed : (p : Place) (table : List ℕ) → IsSpelled p → AreFormed (standing_rows p table)
standing_formed p table spelled = since_formed (λ a. member a.xid p.commits) table p spelled
