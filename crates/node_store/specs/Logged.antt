-- What is read of the log of a node.
use Rattle.std.specs.Prelude.{◌≡◌, ◌<◌, ℕ, Bool, List, [], ◌∷◌, ◌++◌, filter, map, Result}
use Rattle.std.specs.List.{AllByRecursion}
use Rattle.slon_model.specs.declared.fault.DbFault.{DbFault}
use Rattle.slon_model.specs.Deeds.{Logged}
use Rattle.slon_model.specs.Place.{Place}
use Rattle.node_state.specs.Held.{action_as}
use Rattle.node_change.specs.Done.{row_of}
use Rattle.app_store.specs.Base.{Base}
use Rattle.app_store.specs.Parts.{FromPlace, LooksUp}
use Rattle.change_capture.specs.declared.action.Action.{Action}
use Rattle.change_capture.specs.declared.log_row.LogRow.{LogRow}
use Rattle.node_store.specs.declared.logged.LoggedRows.{LoggedRows}

-- What was logged of the origin below this number is of transactions below this id.
abbrev pub HaveEnded : ℕ → ℕ → ℕ → List Logged → Type 0
HaveEnded origin first xmin logs =
    AllByRecursion (λ l. l.origin ≡ origin → l.action.number < first → l.action.xid < xmin) logs

-- The rows and the actions became these by what was logged as this, if it passes the test.
pub record IsAdded (test : Logged → Bool) (l : Logged) (old new : LoggedRows) : Type 0 where
  pub rows_are : new.rows ≡ old.rows ++ map row_of (filter test (l ∷ []))
  pub actions_are : new.actions ≡ old.actions ++ map (λ l. action_as l.action) (filter test (l ∷ []))

-- These are the rows and the actions of what was logged as this and passes the test.
pub record ArePassed (test : Logged → Bool) (logs : List Logged) (found : LoggedRows) : Type 0 where
  pub rows_are : found.rows ≡ map row_of (filter test logs)
  pub actions_are : found.actions ≡ map (λ l. action_as l.action) (filter test logs)

-- These rows are all of what was logged, each passes the test, and these are their actions.
abbrev pub AreAllPassed : (Logged → Bool) → List Logged → List (ℕ × LogRow) → List Action → Type 0
AreAllPassed test logs rows actions = ArePassed test logs (record { rows = rows; actions = actions })

-- A look from every place that fits and of which this is so, unless there was no memory.
abbrev pub LooksWhere : {T : Type 0} → (Place → Type 0) → (Place → T → Type 0) → Base → Result T DbFault → Base → Type 0
LooksWhere so says old result new = FromPlace (λ p r b. so p → LooksUp says p r b) old result new
