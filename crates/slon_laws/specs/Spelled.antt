-- What holds of every database that is reached by commands whose parts have their forms.
use Rattle.std.specs.Prelude.{◌≡◌, ◌<◌, ◌≤◌, ℕ, List, [], length, map, Option, Some, None}
use Rattle.std.specs.FinMap.{get}
use Rattle.std.specs.List.{AllByRecursion}
use Rattle.std.specs.Option.{option_or}
use Rattle.slon_base.specs.Codec.{IsText, AllTexts, AreTexts}
use Rattle.slon_model.specs.Names.{Named}
use Rattle.slon_model.specs.Rows.{Row, Rows, Action, Change, Put, Set, Remove}
use Rattle.slon_model.specs.Spoken.{IsTableName, IsChange, most_columns}
use Rattle.slon_model.specs.Deeds.{Deed, Logged, Node, brought_in}
use Rattle.slon_model.specs.Logs.{logged}
use Rattle.slon_model.specs.Place.{Place}
use Rattle.slon_model.specs.Moves.{stored_limit}
use Rattle.slon_model.specs.Sessions.{Commit}
use Rattle.slon_laws.specs.Lists.{IsAmong}

-- the parts of a change can be spelled
abbrev pub CanSpell : Change → Type 0
CanSpell (Put key row) = IsText key × AreTexts row
CanSpell (Set key columns) = IsText key × AllTexts (map (λ c. c.1) columns)
CanSpell (Remove key) = IsText key

-- an action has its forms, and can be spelled
pub record IsWritten (a : Action) : Type 0 where
  pub number : a.number < stored_limit
  pub table : IsText a.table
  pub change : CanSpell a.change
  pub named : IsTableName a.table
  pub formed : IsChange a.change

-- a row is such as a write puts it
abbrev pub IsRowFormed : List ℕ → Row → Type 0
IsRowFormed key row = CanSpell (Put key row) × IsChange (Put key row)

abbrev pub AreFormed : Rows → Type 0
AreFormed rows = (key : List ℕ) (row : Row) → get rows key ≡ Some row → IsRowFormed key row

-- so are those that tables are filled with
abbrev pub AreFilled : Named Rows → Type 0
AreFilled rows = AllByRecursion (λ r. AreFormed r.1) rows

-- each action in a log is such as a write makes it
abbrev pub AreWritten : List Logged → Type 0
AreWritten logs = AllByRecursion (λ l. IsWritten l.action) logs

-- all that the node of a database has logged, if it is one
abbrev pub logs_in : Option Node → List Logged
logs_in None = []
logs_in (Some n) = logged n

-- what the node of a database has logged of its own are some of these actions
abbrev pub AreOwn : List Action → Option Node → Type 0
AreOwn actions None = Unit {0}
AreOwn actions (Some n) = AllByRecursion (λ l. l.origin ≡ n.id → IsAmong l.action actions) (logged n)

-- a deed fills tables with such rows, and logs such actions
abbrev pub IsFormedDeed : Deed → Type 0
IsFormedDeed d = AreFilled (brought_in d.doing).rows × AreWritten d.logs

-- what a node logs by these deeds is of other origins
abbrev pub AreForeign : List Deed → Option Node → Type 0
AreForeign deeds None = Unit {0}
AreForeign deeds (Some n) = AllByRecursion (λ d. AllByRecursion (λ l. l.origin ≡ n.id → ⊥) d.logs) deeds

-- a database that becomes a node was none
abbrev pub IsAlone : Option Node → Option Node → Type 0
IsAlone None own = Unit {0}
IsAlone (Some n) own = own ≡ None

-- A commit of a database: each deed is formed, a node that the database becomes has logged nothing, the deeds log
-- nothing of the node's own, and a node becomes no other one.
pub record IsFormedCommit (c : Commit) (p : Place) : Type 0 where
  pub deeds : AllByRecursion IsFormedDeed c.deeds
  pub fresh : logs_in c.becomes ≡ []
  pub foreign : AreForeign c.deeds (option_or c.becomes p.node)
  pub alone : IsAlone c.becomes p.node

-- what is stored is at most the limit of stored numbers
pub record IsSmall (p : Place) : Type 0 where
  pub stamp : p.stamp < stored_limit
  pub xids : p.xids.ceiling < stored_limit
  pub numbers : p.numbers.ceiling < stored_limit

pub record IsSpelled (p : Place) : Type 0 where
  pub small : IsSmall p
  pub written : AllByRecursion IsWritten p.actions
  pub filled : AllByRecursion (λ f. AreFormed f.1.rows) p.fillings
  pub logged : AllByRecursion (λ l. IsWritten l.action) (logs_in p.node)
  -- what the node of the database logged of its own are actions of the database
  pub owned : AreOwn p.actions p.node
  pub narrow : AllByRecursion (λ t. t.1 ≤ most_columns) p.tables
  -- each action has a number of its own
  pub few : length p.actions < p.numbers.next
  -- without first rows the ceilings are where they began
  pub bare : p.stamp ≡ 0 → (p.xids.ceiling ≡ 1) × (p.numbers.ceiling ≡ 1)
