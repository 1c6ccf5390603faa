-- Scripts as they grow.
use Rattle.std.specs.Prelude.{ℕ, nat_eq, Bool, List, [], ◌∷◌, ◌++◌, Some, None}
use Rattle.std.specs.Option.{is_none}
use Rattle.indexmap.specs.IndexMap.{insert_entry}
use Rattle.slonik_script.specs.declared.script.Command.{Command}
use Rattle.slonik_script.specs.declared.script.Script.{Script}
use Rattle.slonik_script.specs.declared.script.Statement.{Statement}
use Rattle.slonik_script.specs.declared.script.TryBlock.{TryBlock}
use Rattle.slonik_parse.specs.declared.state.Handler.{Handler}
use Rattle.slonik_parse.specs.declared.state.Handler.TheVariants.{Error, Success}

-- the script with a statement, with a NODE line
abbrev pub with_statement : Statement → Script → Script
with_statement statement script = record script { statements = script.statements ++ statement ∷ [] }

abbrev pub with_node : ℕ → List ℕ → Script → Script
with_node id conninfo script = record script { nodes = insert_entry nat_eq script.nodes id conninfo }

-- a script with nothing but a cluster's name
abbrev pub empty_script : List ℕ → Script
empty_script cluster = record { cluster = cluster; nodes = []; statements = [] }

-- a try block with nothing behind it, with commands that come behind it
abbrev pub try_of : List Command → TryBlock
try_of commands = record { commands = commands; on_error = None; on_success = None }

unfoldable pub with_handler : Handler → List Command → TryBlock → TryBlock
with_handler Error commands tried = record tried { on_error = Some commands }
with_handler Success commands tried = record tried { on_success = Some commands }

abbrev pub lacks : Handler → TryBlock → Bool
lacks Error tried = is_none tried.on_error
lacks Success tried = is_none tried.on_success
