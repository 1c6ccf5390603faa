-- The rows of actions that are captured can be spelled.
use Rattle.std.proofs.Common.{◌≡◌, ℕ, ◌≤◌, ◌<◌, ◌^◌, true, List, [], ◌∷◌, length, arith, lit<}
use Rattle.std.proofs.Common.{length-append}
use Rattle.std.specs.Prelude.{nat_le, nat_lt, ◌&&◌}
use Rattle.std.specs.List.{list_all, AllByRecursion}
use Rattle.std.proofs.lemmas.Bool.{and_parts, leb-true}
use borrow.Author.Tests.{ltb-true}
use Rattle.slon_model.specs.Forms.{is_table_name, is_value}
use Rattle.slon_model.specs.Spoken.{greatest_column, IsChange}
use Rattle.change_capture.specs.Actions.{change_of}
use Rattle.change_capture.specs.Capture.{columns_of}
use Rattle.change_capture.specs.Reading.{AreColumns, HasColumns}
use Rattle.change_capture.specs.Spellings.{CanSpell}
use Rattle.change_capture.specs.declared.action.Action.{Action}
use Rattle.change_capture.specs.declared.action.Change.{Change}
use Rattle.change_capture.specs.declared.action.Change.TheVariants.{Put, Set, Remove}
use Rattle.change_capture.proofs.Pairs.{length-numbered}
use Rattle.node_state.specs.Known.{is_change, is_captured}

abbrev AreNarrow : List (ℕ × List ℕ) → Type 0
AreNarrow columns = AllByRecursion (λ c. c.0 ≤ greatest_column) columns

narrow_all : (columns : List (ℕ × List ℕ)) → list_all (λ c. nat_le c.0 greatest_column) columns ≡ true →
    AreNarrow columns
narrow_all [] all = tt
narrow_all (c ∷ cs) all =
    let h = and_parts (nat_le c.0 greatest_column) (list_all (λ (d : ℕ × List ℕ). nat_le d.0 greatest_column) cs)
    all in
    (leb-true c.0 greatest_column h.0, narrow_all cs h.1)

narrow_columns : (columns : List (ℕ × List ℕ)) → AreNarrow columns → AreColumns columns
narrow_columns [] all = tt
narrow_columns (c ∷ cs) all = (omega (arith, all.0), narrow_columns cs all.1)

-- what the words of a change are like
record IsSmall (change : Change) : Type 0 where
  columns : HasColumns change
  words : IsChange (change_of change)
  few : length (columns_of change) < 2 ^ 31

small_change : (change : Change) → is_change change ≡ true → IsSmall change
small_change (Put key values) is =
    let h = and_parts (is_value key && list_all is_value values) (nat_le (length values) greatest_column) is in
    let w = and_parts (is_value key) (list_all is_value values) h.0 in
    let short = leb-true (length values) greatest_column h.1 in
    record {
      columns = tt;
      words = (w.0, w.1);
      few = omega (arith, short, length-numbered 1 (key ∷ values));
    }
small_change (Set key columns) is =
    let narrow = list_all (λ (c : ℕ × List ℕ). nat_le c.0 greatest_column) columns in
    let values = list_all (λ (c : ℕ × List ℕ). is_value c.1) columns in
    let h = and_parts (is_value key && values && nat_le (length columns) greatest_column) narrow is in
    let w = and_parts (is_value key && values) (nat_le (length columns) greatest_column) h.0 in
    let v = and_parts (is_value key) values w.0 in
    let short = leb-true (length columns) greatest_column w.1 in
    let all = narrow_all columns h.1 in
    record {
      columns = narrow_columns columns all;
      words = (v.0, v.1, (short, all));
      few = omega (arith, short, length-append columns ((1, key) ∷ []));
    }
small_change (Remove key) is = record { columns = tt; words = is; few = lit< tt }

-- the parts of an action that is captured
pub record IsCaptured (a : Action) : Type 0 where
  pub name : is_table_name a.table ≡ true
  pub number : a.number < 2 ^ 63
  pub can : CanSpell a

pub captured : (a : Action) → is_captured a ≡ true → IsCaptured a
captured a is =
    let h = and_parts (is_table_name a.table && nat_lt a.number (2 ^ 63)) (is_change a.change) is in
    let n = and_parts (is_table_name a.table) (nat_lt a.number (2 ^ 63)) h.0 in
    let small = small_change a.change h.1 in
    record {
      name = n.0;
      number = ltb-true a.number (2 ^ 63) n.1;
      can = record { can = record { table = n.0; columns = small.columns }; words = small.words; few = small.few };
    }
