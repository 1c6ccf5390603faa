-- The row that an action is logged as.
use Rattle.std.specs.Prelude.{ℕ, ◌+◌, ◌==◌, List, [], ◌∷◌, ◌++◌, length}
use Rattle.std.specs.Fmt.{decimal}
use Rattle.std.specs.List.{slice_split}
use Rattle.change_capture.specs.declared.action.Change.{Change}
use Rattle.change_capture.specs.declared.action.Change.TheVariants.{Put, Set, Remove}
use Rattle.change_capture.specs.declared.action.Action.{Action}
use Rattle.change_capture.specs.declared.log_row.LogCommand.{LogCommand}
use Rattle.change_capture.specs.declared.log_row.LogCommand.TheVariants.{Insert, Update, Delete}
use Rattle.change_capture.specs.declared.log_row.LogRow.{LogRow}

-- values of the columns from this number on
abbrev pub numbered : ℕ → List (List ℕ) → List (ℕ × List ℕ)
numbered n [] = []
numbered n (value ∷ values) = (n, value) ∷ numbered (n + 1) values

-- the number of each column and its value, as texts
abbrev pub paired : List (ℕ × List ℕ) → List (List ℕ)
paired [] = []
paired (column ∷ columns) = decimal column.0 ∷ column.1 ∷ paired columns

-- the columns that the row names: all of a new row; the changed ones, and then the key; or the key alone
abbrev pub columns_of : Change → List (ℕ × List ℕ)
columns_of (Put key values) = numbered 1 (key ∷ values)
columns_of (Set key columns) = columns ++ (1, key) ∷ []
columns_of (Remove key) = (1, key) ∷ []

abbrev pub command_of : Change → LogCommand
command_of (Put key values) = Insert
command_of (Set key columns) = Update
command_of (Remove key) = Delete

-- how many columns get new values in a row that was there
abbrev pub changed_in : Change → ℕ
changed_in (Set key columns) = length columns
changed_in others = 0

-- the part in front of the first dot
abbrev pub first_part : List (List ℕ) → List ℕ
first_part [] = []
first_part (part ∷ parts) = part

-- the part behind the first dot
abbrev pub second_part : List (List ℕ) → List ℕ
second_part [] = []
second_part (part ∷ parts) = first_part parts

abbrev pub parts_of : List ℕ → List (List ℕ)
parts_of table = slice_split (λ c. c == 46) table

-- both parts
abbrev pub names_of : List ℕ → List (List ℕ)
names_of table = first_part (parts_of table) ∷ second_part (parts_of table) ∷ []

-- the row of an action of a transaction on the table of this id
abbrev pub log_row : ℕ → ℕ → Action → LogRow
log_row xid table action = record {
  xid = xid;
  table = table;
  names = names_of action.table;
  command = command_of action.change;
  columns = changed_in action.change;
  arguments = paired (columns_of action.change);
}
