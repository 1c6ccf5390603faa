-- The row of an action whose words have their forms can be spelled.
use Rattle.std.proofs.Common.{◌≡◌, ℕ, ◌+◌, ◌<◌, ◌^◌, true, List, [], ◌∷◌, length, refl, sym, ap, subst, arith}
use Rattle.std.proofs.Common.{length-append, lit<}
use Rattle.std.proofs.lemmas.Bool.{and_parts}
use Rattle.std.proofs.lemmas.Bool.Decides.{nat_tests}
use Rattle.std.proofs.lemmas.Fmt.{length-decimal-le, IsAscii-decimal}
use Rattle.std.proofs.lemmas.Str.{IsUtf8-from_ascii}
use Rattle.std.specs.Fmt.{decimal}
use Rattle.std.specs.List.{list_all}
use Rattle.slon_base.specs.Codec.{AllAre, AllTexts, AreTexts, IsText}
use Rattle.slon_lemmas.proofs.Texts.{ascii_all}
use Rattle.slon_model.proofs.Spoken.{value_text, value_texts}
use Rattle.slon_model.proofs.WordBytes.{part_bytes, part_short, two_parts}
use Rattle.slon_model.specs.Forms.{is_part_byte, is_part, is_value}
use Rattle.slon_model.specs.Spoken.{IsChange, IsTableName}
use Rattle.store_rows.proofs.Reading.{all_snoc}
use Rattle.store_rows.specs.Rows.{IsId}
use Rattle.change_capture.specs.Actions.{change_of}
use Rattle.change_capture.specs.declared.action.Action.{Action}
use Rattle.change_capture.specs.declared.action.Change.{Change}
use Rattle.change_capture.specs.declared.action.Change.TheVariants.{Put, Set, Remove}
use Rattle.change_capture.specs.declared.log_row.LogRow.{LogRow}
use Rattle.change_capture.specs.Capture.{numbered, paired, columns_of, changed_in, first_part, second_part, names_of, log_row}
use Rattle.change_capture.specs.Reading.{AreColumns, HasColumns}
use Rattle.change_capture.specs.Spellings.{CanLogRow, CanSpell}
use Rattle.change_capture.proofs.Numbers.{small}
use Rattle.change_capture.proofs.Pairs.{length-paired, length-numbered}
use Rattle.change_capture.proofs.Parts.{parts_are}

-- a column of the log that can be spelled
record CanName (column : ℕ × List ℕ) : Type 0 where
  number : column.0 < 2 ^ 64
  value : IsText column.1

number_text : (n : ℕ) → n < 2 ^ 64 → IsText (decimal n)
number_text n fits =
    let short = length-decimal-le 20 n (lit< tt) (omega arith) fits in
    record { short = omega arith; utf8 = IsUtf8-from_ascii (decimal n) (IsAscii-decimal n fits) }

part_text : (part : List ℕ) → is_part part ≡ true → IsText part
part_text part e =
    let short = part_short part e in
    let ascii = ascii_all is_part_byte (λ c e. grind (arith, nat_tests)) part (part_bytes part e) in
    record { short = omega arith; utf8 = IsUtf8-from_ascii part ascii }

paired_texts : (columns : List (ℕ × List ℕ)) → AllAre CanName columns → AllTexts (paired columns)
paired_texts [] all = tt
paired_texts (column ∷ columns) all =
    (number_text column.0 all.0.number, (all.0.value, paired_texts columns all.1))

numbered_can : (n : ℕ) (values : List (List ℕ)) → n + length values < 2 ^ 64 → AllTexts values →
    AllAre CanName (numbered n values)
numbered_can n [] few all = tt
numbered_can n (value ∷ values) few all =
    (record { number = omega arith; value = all.0 }, numbered_can (n + 1) values (omega arith) all.1)

changed_can : (columns : List (ℕ × List ℕ)) → AreColumns columns →
    list_all (λ (column : ℕ × List ℕ). is_value column.1) columns ≡ true → AllAre CanName columns
changed_can [] fits all = tt
changed_can (column ∷ columns) fits all =
    let h = and_parts (is_value column.1) (list_all (λ (column : ℕ × List ℕ). is_value column.1) columns) all in (
      record { number = small column.0 fits.0; value = value_text column.1 h.0 },
      changed_can columns fits.1 h.1,
    )

columns_can : (change : Change) → HasColumns change → IsChange (change_of change) →
    length (columns_of change) < 2 ^ 31 → AllAre CanName (columns_of change)
columns_can (Put key values) can words few =
    numbered_can 1 (key ∷ values) (omega (arith, few, length-numbered 1 (key ∷ values)))
    (value_text key words.0, value_texts values words.1)
columns_can (Set key columns) can words few =
    all_snoc CanName columns (1, key) (changed_can columns can words.1)
    (record { number = lit< tt; value = value_text key words.0 })
columns_can (Remove key) can words few = (record { number = lit< tt; value = value_text key words }, tt)

changed_few : (change : Change) → length (columns_of change) < 2 ^ 31 → changed_in change < 2 ^ 63
changed_few (Set key columns) few = omega (arith, few, length-append columns ((1, key) ∷ []))
changed_few others few = lit< tt

-- the texts of its columns can be spelled
pub columns_spelled : (action : Action) → CanSpell action → AreTexts (paired (columns_of action.change))
columns_spelled action h = record {
  few = omega (arith, h.few, length-paired (columns_of action.change));
  each = paired_texts (columns_of action.change) (columns_can action.change h.can.columns h.words h.few);
}

-- the parts of a table's name can be spelled
names_each : (table : List ℕ) → IsTableName table → AllTexts (names_of table)
names_each table is =
    let t = two_parts table is in
    let parts = sym (parts_are table t) in (
      subst IsText (ap first_part parts) (part_text t.front t.is_front),
      (subst IsText (ap second_part parts) (part_text t.back t.is_back), tt),
    )

pub names_spelled : (table : List ℕ) → IsTableName table → AreTexts (names_of table)
names_spelled table is = record { few = lit< tt; each = names_each table is }

pub can_log_row : (xid table : ℕ) (action : Action) → xid < 2 ^ 63 → IsId table → CanSpell action →
    CanLogRow (log_row xid table action)
can_log_row xid table action small_xid id h = record {
  xid = small_xid;
  table = id;
  two = refl;
  names = names_each action.table h.can.table;
  columns = changed_few action.change h.few;
  arguments = columns_spelled action h;
}

-- a row that is this one
pub can_same : (row other : LogRow) → row ≡ other → CanLogRow other → CanLogRow row
can_same row other same can = subst CanLogRow (sym same) can
