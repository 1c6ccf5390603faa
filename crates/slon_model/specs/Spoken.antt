-- What the parts of a command are like that a session says.
use Rattle.std.specs.Prelude.{◌≡◌, ◌≤◌, ℕ, true, List, [], length, Option, Some, None}
use Rattle.std.specs.List.{list_all, AllByRecursion}
use Rattle.slonik_script.specs.declared.refusal.ScriptRefusal.{ScriptRefusal}
use Rattle.slonik_script.specs.declared.refusal.ScriptRefusal.TheVariants.{UnknownOption, MissingOption, NotInProfile}
use Rattle.slonik_script.specs.declared.refusal.ScriptRefusal.TheVariants.{NotInTry, Undefined, Depth, NoFile}
use Rattle.slonik_script.specs.declared.script.Command.{Command as Order}
use Rattle.slonik_script.specs.declared.script.Command.TheVariants.{Echo, SetAddTable}
use Rattle.slonik_script.specs.declared.script.Statement.{Statement}
use Rattle.slonik_script.specs.declared.script.Statement.TheVariants.{Single}
use Rattle.slon_model.specs.declared.command.Command.{Command}
use Rattle.slon_model.specs.declared.reading.Reading.{Reading}
use Rattle.slon_model.specs.declared.reading.Reading.TheVariants.{Read, Wrong}
use Rattle.slon_model.specs.Forms.{is_name, is_table_name, is_value, is_line, greatest_id}
use Rattle.slon_model.specs.Rows.{Change, Put, Set, Remove}
use Rattle.slon_model.specs.Tasks.{Task, ToMake, ToOpen, ToWrite, ToCommit, ToAbort, ToList, Act, ToRead, ToStart}
use Rattle.slon_model.specs.Tasks.{ToStop, ToCut, ToJoin, ToSync, ToListen, Subject, OnNew, OnOne, OnAll, script_named}
use Rattle.slon_model.specs.Tasks.{ToFetch, ToWork, subject_of}

abbrev pub IsName : List ℕ → Type 0
IsName word = is_name word ≡ true

abbrev pub IsTableName : List ℕ → Type 0
IsTableName word = is_table_name word ≡ true

abbrev pub IsValue : List ℕ → Type 0
IsValue word = is_value word ≡ true

abbrev pub AreValues : List (List ℕ) → Type 0
AreValues words = list_all is_value words ≡ true

abbrev pub most_columns : ℕ
most_columns = 16

-- the greatest number of a column that a line names
abbrev pub greatest_column : ℕ
greatest_column = 99

-- columns by their numbers: few, each of a number that a line can name
abbrev pub AreFew : List (ℕ × List ℕ) → Type 0
AreFew columns = (length columns ≤ greatest_column) × AllByRecursion (λ c. c.0 ≤ greatest_column) columns

-- the key and the values of a change
abbrev pub IsChange : Change → Type 0
IsChange (Put key row) = IsValue key × AreValues row
IsChange (Set key columns) = IsValue key × (list_all (λ c. is_value c.1) columns ≡ true) × AreFew columns
IsChange (Remove key) = IsValue key

abbrev pub IsTask : Task → Type 0
IsTask (ToMake table columns) = IsTableName table × (columns ≤ most_columns)
IsTask (ToOpen name) = IsName name
IsTask (ToWrite w) = IsName w.name × IsTableName w.table × IsChange w.change
IsTask (ToCommit name) = IsName name
IsTask (ToAbort name) = IsName name
IsTask (ToList table) = IsTableName table
IsTask others = Unit {0}

-- ---- scripts

-- a text on one line
abbrev pub IsLine : List ℕ → Type 0
IsLine text = is_line text ≡ true

-- the texts of a command of a script that replies repeat
abbrev pub IsOrder : Order → Type 0
IsOrder (Echo text) = IsLine text
IsOrder (SetAddTable set origin id name key comment) = IsLine name
IsOrder others = Unit {0}

abbrev pub IsStatement : Statement → Type 0
IsStatement (Single order) = IsOrder order
IsStatement others = Unit {0}

abbrev pub AreStatements : List Statement → Type 0
AreStatements statements = AllByRecursion IsStatement statements

-- the conninfo of each NODE line
abbrev pub AreNodeLines : List (ℕ × List ℕ) → Type 0
AreNodeLines lines = AllByRecursion (λ l. IsLine l.1) lines

-- the text that a refusal of a script repeats
abbrev pub wrong_text : ScriptRefusal → List ℕ
wrong_text (UnknownOption word) = word
wrong_text (MissingOption words) = words
wrong_text (NotInProfile word) = word
wrong_text (NotInTry word) = word
wrong_text (Undefined name) = name
wrong_text (Depth path) = path
wrong_text (NoFile path) = path
wrong_text others = []

abbrev pub IsReading : Reading → Type 0
IsReading (Read script) = AreNodeLines script.nodes × AreStatements script.statements
IsReading (Wrong refusal) = IsLine (wrong_text refusal)

-- the id of a node
abbrev pub IsNode : ℕ → Type 0
IsNode node = (1 ≤ node) × (node ≤ greatest_id)

abbrev pub IsRead : Act → Type 0
IsRead (ToRead name reading) = IsReading reading
IsRead (ToStart node) = IsNode node
IsRead (ToStop node) = IsNode node
IsRead (ToCut node other) = IsNode node × IsNode other
IsRead (ToJoin node other) = IsNode node × IsNode other
IsRead (ToSync node) = IsNode node
IsRead (ToListen node server delivery) = IsNode node × IsNode server
IsRead (ToFetch node origin) = IsNode node × IsNode origin
IsRead (ToWork node origin) = IsNode node × IsNode origin
IsRead others = Unit {0}

abbrev pub AreNames : Option (List ℕ) → Type 0
AreNames None = Unit {0}
AreNames (Some name) = IsName name

abbrev pub IsAct : Act → Type 0
IsAct act = AreNames (script_named act) × IsRead act

abbrev pub IsSubject : Subject → Type 0
IsSubject (OnNew name) = IsName name
IsSubject (OnOne database task) = IsName database × IsTask task
IsSubject (OnAll act) = IsAct act

-- Its names, tables, keys and values have their forms, a table has at most 16 columns, and the texts of a script that
-- replies repeat are each on one line.
abbrev pub IsSpoken : Command → Type 0
IsSpoken command = IsSubject (subject_of command)
