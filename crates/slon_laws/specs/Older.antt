-- Which actions are of earlier transactions, by their numbers.
use Rattle.std.specs.Prelude.{◌<◌, ◌≤◌, ℕ, List}
use Rattle.std.specs.List.{AllByRecursion}
use Rattle.slon_model.specs.Rows.{Action}
use Rattle.slon_model.specs.Place.{Place}

-- all actions below the number are of transactions below this one
abbrev pub AreOlder : ℕ → ℕ → List Action → Type 0
AreOlder number xid actions = AllByRecursion (λ a. a.number < number → a.xid < xid) actions

-- the number was drawn, or comes next, and all actions of the database below it are of transactions below this one
pub record IsOlder (number xid : ℕ) (p : Place) : Type 0 where
  pub reached : number ≤ p.numbers.next
  pub older : AreOlder number xid p.actions
