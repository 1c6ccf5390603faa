-- The rows of all tables of a store, and what actions do to them.
use Rattle.std.specs.Prelude.{◌≡◌, ℕ, ◌==◌, ◌||◌, if◌then◌else◌, true, false, List, [], ◌∷◌, ◌++◌, Option, Some, None}
use Rattle.std.specs.Prelude.{option_map}
use Rattle.std.specs.List.{AllByRecursion}
use Rattle.std.specs.Str.{bytes_eq}
use Rattle.std.specs.FinMap.{get}
use Rattle.slon_base.specs.Codec.{text_bytes, list_bytes, IsText, AreTexts, AllAre}
use Rattle.slon_base.specs.Keeper.{Store, put_at, del_at}
use Rattle.store_rows.specs.Space.{IsSpace}
use Rattle.store_rows.specs.declared.stop.Stop.{Stop}
use Rattle.store_rows.specs.declared.stop.Stop.TheVariants.{Failed, NoMemory, BadRow, TooBig}
use Rattle.slon_model.specs.Rows.{Row, Rows, Change, Put, Set, Remove, apply, change_key}
use Rattle.slon_laws.specs.Keys.{change_at}
use Rattle.change_capture.specs.declared.action.Action.{Action}
use Rattle.change_capture.specs.declared.log_row.LogRow.{LogRow}
use Rattle.change_capture.specs.Actions.{change_of}
use Rattle.change_capture.specs.Reading.{IsLogOf}

-- ---- rows of tables

-- the key of a row: its table and its key
abbrev pub row_key : List ℕ × List ℕ → List ℕ
row_key i = text_bytes i.0 ++ text_bytes i.1

abbrev pub IsKey : List ℕ × List ℕ → Type 0
IsKey i = IsText i.0 × IsText i.1

-- The space of the rows has the rows of each table, whose keys and values are texts.
abbrev pub HoldsRows : (List ℕ → Rows) → Store → Type 0
HoldsRows tables m = IsSpace row_key IsKey list_bytes AreTexts (λ i. get (tables i.0) i.1) (m 3)

-- all other spaces are the same
abbrev pub OthersStay : Store → Store → Type 0
OthersStay m n = (space : ℕ) → (space == 3) ≡ false → n space ≡ m space

-- ---- actions

-- the words of the change are texts
abbrev pub CanApply : Change → Type 0
CanApply (Put key row) = IsText key × AreTexts row
CanApply (Set key columns) = IsText key × AllAre (λ c. IsText c.1) columns
CanApply (Remove key) = IsText key

-- a store with this row at a key, or with none
abbrev pub with_row : List ℕ → Option Row → Store → Store
with_row key None m = del_at 3 key m
with_row key (Some row) m = put_at 3 key (list_bytes row) m

-- a row that is changed is read
abbrev pub IsReadFor : Change → Option (List ℕ) → Option Row → Type 0
IsReadFor (Set key columns) there row = there ≡ option_map list_bytes row
IsReadFor others there row = row ≡ None

-- where there is no row to be changed nothing is done
abbrev pub changed_store : List ℕ → Change → Option Row → Store → Store
changed_store key (Set k columns) None m = m
changed_store key change row m = with_row key (change_at change row) m

-- The store became this one by a change of a row of this table.
pub record IsChanged (table : List ℕ) (change : Change) (m n : Store) : Type 0 where
  pub row : Option Row
  pub read : IsReadFor change (get (m 3) (row_key (table, change_key change))) row
  pub is : n ≡ changed_store (row_key (table, change_key change)) change row m

-- the rows of the tables after a change in one
abbrev pub changed_in : List ℕ → Change → (List ℕ → Rows) → List ℕ → Rows
changed_in table change tables other =
    if bytes_eq other table then apply change (tables other) else tables other

abbrev pub acted : Action → (List ℕ → Rows) → List ℕ → Rows
acted action = changed_in action.table (change_of action.change)

-- after these actions, the first of them first
abbrev pub acted_all : List Action → (List ℕ → Rows) → List ℕ → Rows
acted_all [] tables = tables
acted_all (a ∷ rest) tables = acted_all rest (acted a tables)

-- the words of all of them are texts
abbrev pub CanApplyAll : List Action → Type 0
CanApplyAll = AllByRecursion (λ a. IsText a.table × CanApply (change_of a.change))

-- ---- rows of a log

-- the rows are those of these actions, each with its number
abbrev pub AreLogOf : List (ℕ × LogRow) → List Action → Type 0
AreLogOf [] [] = Unit {0}
AreLogOf (r ∷ rows) (a ∷ actions) = IsLogOf r.0 r.1 a × AreLogOf rows actions
AreLogOf rows actions = ⊥

-- The store became this one by the change of the action that this row of a log is of.
pub record IsActed (row : ℕ × LogRow) (m n : Store) : Type 0 where
  pub action : Action
  pub is : IsLogOf row.0 row.1 action
  pub changed : IsChanged action.table (change_of action.change) m n

-- by those of all rows, one after the other
abbrev pub AreActed : List (ℕ × LogRow) → Store → Store → Type 0
AreActed [] m n = n ≡ m
AreActed (row ∷ rows) m n = (mid : Store) × IsActed row m mid × AreActed rows mid n

-- it stopped at no row but of the tables or of the log
abbrev pub IsOfEither : Stop → Type 0
IsOfEither Failed = Unit {0}
IsOfEither NoMemory = Unit {0}
IsOfEither (BadRow space) = (space == 3 || space == 15) ≡ true
IsOfEither (TooBig space) = ⊥
