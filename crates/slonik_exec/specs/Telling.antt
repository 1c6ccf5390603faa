-- Which fault of the store of a database is told.
use Rattle.std.specs.Prelude.{ℕ, List, Option, Some, None, option_map}
use Rattle.slon_base.specs.declared.fault.Halt.{Halt as HaltOf}
use Rattle.slon_base.specs.declared.fault.Halt.TheVariants.{Fault, Doubt}
use Rattle.slonik_exec.specs.Databases.{Trouble}

-- the store failed, or a commit of its
abbrev pub failure_of : Option HaltOf → Option HaltOf
failure_of (Some (Fault count)) = Some (Fault count)
failure_of (Some Doubt) = Some Doubt
failure_of others = None

abbrev pub troubled : List ℕ → Option HaltOf → Option Trouble
troubled name found = option_map (λ halt. (name, halt)) found

-- what is told of a database of this name
abbrev pub told_at : List ℕ → Option HaltOf → Option Trouble
told_at name halt = troubled name (failure_of halt)
