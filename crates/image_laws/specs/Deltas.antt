-- Actions that are applied one after the other, in the order of their numbers.
use Rattle.std.specs.Prelude.{◌≡◌, ℕ, ◌<◌, true, false, List, [], ◌∷◌}
use Rattle.std.specs.List.{AllByRecursion}
use Rattle.slon_model.specs.Rows.{Rows, Action, apply}
use Rattle.slon_model.specs.Snapshots.{Snapshot, sees}
use Rattle.slon_model.specs.Deeds.{Node, Logged}
use Rattle.slon_model.specs.Logs.{logged}
use Rattle.stream_laws.specs.Nodes.{IsAmong}

-- the first of the list comes first
abbrev pub applied : List Action → Rows → Rows
applied [] rows = rows
applied (a ∷ rest) rows = applied rest (apply a.change rows)

-- each has a lower number than those behind it
abbrev pub AreInOrder : List Action → Type 0
AreInOrder [] = Unit {0}
AreInOrder (a ∷ rest) = AllByRecursion (λ b. a.number < b.number) rest × AreInOrder rest

-- the entry is on the table, and the new snapshot sees its transaction and the old one does not
pub record IsBetween (table : List ℕ) (old new : Snapshot) (l : Logged) : Type 0 where
  pub on : l.action.table ≡ table
  pub seen : sees new l.action.xid ≡ true
  pub unseen : sees old l.action.xid ≡ false

-- Exactly the actions on a table in the log of a node that the new snapshot sees and the old one does not, in the order
-- of their numbers.
pub record IsRead (n : Node) (table : List ℕ) (old new : Snapshot) (actions : List Action) : Type 0 where
  pub in_order : AreInOrder actions
  pub all : (l : Logged) → IsAmong l (logged n) → IsBetween table old new l → IsAmong l.action actions
  pub only : (a : Action) → IsAmong a actions →
      (l : Logged) × IsAmong l (logged n) × (l.action ≡ a) × IsBetween table old new l
