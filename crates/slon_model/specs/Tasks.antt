-- What a command is about: a new database, a task of one database, or a script or a slon, which concern the whole
-- session.
use Rattle.std.specs.Prelude.{ℕ, List, [], ◌∷◌, Option, Some, None, unwrap_or}
use Rattle.slon_model.specs.declared.command.Crash.{Crash as CrashKind}
use Rattle.slon_model.specs.declared.command.Delivery.{Delivery}
use Rattle.slon_model.specs.declared.command.Command.{Command}
use Rattle.slon_model.specs.declared.command.Command.TheVariants.{Database, Table, Begin, Insert, Update, Delete}
use Rattle.slon_model.specs.declared.command.Command.TheVariants.{Commit, Abort, Rows, Status, Crash, Up}
use Rattle.slon_model.specs.declared.command.Command.TheVariants.{Slonik, Step, Kill, Start, Stop, Cut, Join}
use Rattle.slon_model.specs.declared.command.Command.TheVariants.{Sync, Listen, Fetch, Work}
use Rattle.slon_model.specs.declared.reading.Reading.{Reading}
use Rattle.slon_model.specs.Rows.{Row, Change, Put, Set, Remove}

-- A write of the transaction of this name.
pub record Write : Type 0 where
  pub name : List ℕ
  pub table : List ℕ
  pub change : Change

-- What one database is to do. The first is no command: it comes when a new database gets its store.
pub data Task : Type 0 where
  ToFound : Task
  ToMake : (table : List ℕ) (columns : ℕ) → Task
  ToOpen : (name : List ℕ) → Task
  ToWrite : (w : Write) → Task
  ToCommit : (name : List ℕ) → Task
  ToAbort : (name : List ℕ) → Task
  ToList : (table : List ℕ) → Task
  ToTell : Task
  ToCrash : (crash : CrashKind) → Task
  ToRise : Task

-- What a session is to do with its scripts, and with the slons of nodes.
pub data Act : Type 0 where
  ToRead : (name : List ℕ) (reading : Reading) → Act
  ToStep : (name : List ℕ) → Act
  ToForget : (name : List ℕ) → Act
  ToStart : (node : ℕ) → Act
  ToStop : (node : ℕ) → Act
  ToCut : (node : ℕ) (other : ℕ) → Act
  ToJoin : (node : ℕ) (other : ℕ) → Act
  ToSync : (node : ℕ) → Act
  ToListen : (node : ℕ) (server : ℕ) (delivery : Delivery) → Act
  ToFetch : (node : ℕ) (origin : ℕ) → Act
  ToWork : (node : ℕ) (origin : ℕ) → Act

pub data Subject : Type 0 where
  OnNew : (name : List ℕ) → Subject
  OnOne : (database : List ℕ) (task : Task) → Subject
  OnAll : (act : Act) → Subject

-- the first value of a new row is its key
abbrev pub key_of : List (List ℕ) → List ℕ
key_of [] = []
key_of (key ∷ row) = key

abbrev pub row_of : List (List ℕ) → Row
row_of [] = []
row_of (key ∷ row) = row

abbrev pub write_by : List ℕ → List ℕ → Change → Write
write_by name table change = record { name = name; table = table; change = change }

abbrev pub subject_of : Command → Subject
subject_of (Database name) = OnNew name
subject_of (Table database table columns) = OnOne database (ToMake table columns)
subject_of (Begin database name) = OnOne database (ToOpen name)
subject_of (Insert database name table values) =
    OnOne database (ToWrite (write_by name table (Put (key_of values) (row_of values))))
subject_of (Update database name table key columns) = OnOne database (ToWrite (write_by name table (Set key columns)))
subject_of (Delete database name table key) = OnOne database (ToWrite (write_by name table (Remove key)))
subject_of (Commit database name) = OnOne database (ToCommit name)
subject_of (Abort database name) = OnOne database (ToAbort name)
subject_of (Rows database table) = OnOne database (ToList table)
subject_of (Status database) = OnOne database ToTell
subject_of (Crash database crash) = OnOne database (ToCrash crash)
subject_of (Up database) = OnOne database ToRise
subject_of (Slonik name reading) = OnAll (ToRead name reading)
subject_of (Step name) = OnAll (ToStep name)
subject_of (Kill name) = OnAll (ToForget name)
subject_of (Start node) = OnAll (ToStart node)
subject_of (Stop node) = OnAll (ToStop node)
subject_of (Cut node other) = OnAll (ToCut node other)
subject_of (Join node other) = OnAll (ToJoin node other)
subject_of (Sync node) = OnAll (ToSync node)
subject_of (Listen node server delivery) = OnAll (ToListen node server delivery)
subject_of (Fetch node origin) = OnAll (ToFetch node origin)
subject_of (Work node origin) = OnAll (ToWork node origin)

-- ---- the words that a command names

abbrev pub script_named : Act → Option (List ℕ)
script_named (ToRead name reading) = Some name
script_named (ToStep name) = Some name
script_named (ToForget name) = Some name
script_named others = None

-- the name of the database or of the script that it is about
abbrev pub subject_name : Subject → Option (List ℕ)
subject_name (OnNew name) = Some name
subject_name (OnOne database task) = Some database
subject_name (OnAll act) = script_named act

abbrev pub transaction_named : Subject → Option (List ℕ)
transaction_named (OnOne database (ToOpen name)) = Some name
transaction_named (OnOne database (ToWrite w)) = Some w.name
transaction_named (OnOne database (ToCommit name)) = Some name
transaction_named (OnOne database (ToAbort name)) = Some name
transaction_named others = None

abbrev pub table_named : Subject → Option (List ℕ)
table_named (OnOne database (ToMake table columns)) = Some table
table_named (OnOne database (ToWrite w)) = Some w.table
table_named (OnOne database (ToList table)) = Some table
table_named others = None

-- The words that a refusal can tell.
pub record Words : Type 0 where
  pub database : List ℕ
  pub transaction : Option (List ℕ)
  pub table : Option (List ℕ)

abbrev pub words_of : Subject → Words
words_of s =
    record { database = unwrap_or (subject_name s) []; transaction = transaction_named s; table = table_named s }
