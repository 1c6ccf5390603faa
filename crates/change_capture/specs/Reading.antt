-- What a row of the log is read as.
use Rattle.std.specs.Prelude.{◌≡◌, ℕ, ◌<◌, ◌^◌, List, Result, Ok, Err}
use Rattle.std.specs.Fmt.{decimal}
use Rattle.slon_base.specs.Codec.{AllAre}
use Rattle.slon_base.specs.declared.fault.RowFault.{RowFault}
use Rattle.slon_base.specs.declared.fault.RowFault.TheVariants.{NotCanonical, NoMemory}
use Rattle.slon_model.specs.Spoken.{IsTableName}
use Rattle.change_capture.specs.Capture.{names_of, paired, columns_of, command_of, changed_in}
use Rattle.change_capture.specs.Capture.{log_row, numbered}
use Rattle.change_capture.specs.declared.action.Change.{Change}
use Rattle.change_capture.specs.declared.action.Change.TheVariants.{Set}
use Rattle.change_capture.specs.declared.action.Action.{Action}
use Rattle.change_capture.specs.declared.log_row.LogCommand.{LogCommand}
use Rattle.change_capture.specs.declared.log_row.LogRow.{LogRow}

-- the number of a column has 32 bits
abbrev pub AreColumns : List (ℕ × List ℕ) → Type 0
AreColumns columns = AllAre (λ column. column.0 < 2 ^ 32) columns

-- a change that the program can have
abbrev pub HasColumns : Change → Type 0
HasColumns (Set key columns) = AreColumns columns
HasColumns others = Unit {0}

-- the text is what is printed for this number of a column
pub record IsPrinted (text : List ℕ) (n : ℕ) : Type 0 where
  pub fits : n < 2 ^ 32
  pub is : text ≡ decimal n

-- the texts name these columns
pub record AreNamed (texts : List (List ℕ)) (columns : List (ℕ × List ℕ)) : Type 0 where
  pub fits : AreColumns columns
  pub named : texts ≡ paired columns

-- the texts name these values of the columns from 2 on
abbrev pub AreValues : List (List ℕ) → List (List ℕ) → Type 0
AreValues texts values = texts ≡ paired (numbered 2 values)

-- an action that the program can log
pub record CanLog (action : Action) : Type 0 where
  pub table : IsTableName action.table
  pub columns : HasColumns action.change

-- The row is that of this action, which has this number.
pub record IsLogOf (n : ℕ) (logged : LogRow) (action : Action) : Type 0 where
  pub number : action.number ≡ n
  pub can : CanLog action
  pub row : logged ≡ log_row logged.xid logged.table action

-- the name of a table with these parts
pub record HasNames (names : List (List ℕ)) (table : List ℕ) : Type 0 where
  pub is_name : IsTableName table
  pub parts : names ≡ names_of table

-- a change with this command, this many changed columns, and these arguments
pub record IsLoggedBy (kind : LogCommand) (count : ℕ) (texts : List (List ℕ)) (change : Change) : Type 0 where
  pub can : HasColumns change
  pub command : kind ≡ command_of change
  pub columns : count ≡ changed_in change
  pub arguments : texts ≡ paired (columns_of change)

-- why a row of the log is not read: it is that of no action, or there was no memory
abbrev pub IsReadFault : RowFault → Type 0
IsReadFault NotCanonical = Unit {0}
IsReadFault NoMemory = Unit {0}
IsReadFault others = ⊥

-- the value was read, or there was no memory
abbrev pub Gives : {T : Type 0} → T → Result T RowFault → Type 0
Gives x (Ok found) = found ≡ x
Gives x (Err fault) = fault ≡ NoMemory

-- why no value with the property was answered: there is none, or there was no memory
abbrev pub Lacks : {T : Type 0} → (T → Type 0) → RowFault → Type 0
Lacks {T} P NotCanonical = (x : T) → P x → ⊥
Lacks P NoMemory = Unit {0}
Lacks P others = ⊥

-- a value with the property was answered, or there is none, or there was no memory
abbrev pub Reads : {T : Type 0} → (T → Type 0) → Result T RowFault → Type 0
Reads P (Ok x) = P x
Reads P (Err fault) = Lacks P fault
