-- What is taken of one table.
use Rattle.std.specs.Prelude.{ℕ, List, map, filter}
use Rattle.std.specs.Str.{bytes_eq}
use Rattle.slon_model.specs.Rows.{Action}
use Rattle.slon_model.specs.Deeds.{Logged}

-- the actions of these entries on a table
abbrev pub actions_on : List ℕ → List Logged → List Action
actions_on table ls = map (λ l. l.action) (filter (λ l. bytes_eq table l.action.table) ls)
