-- How many replies tell that a store failed.
use Rattle.std.specs.Prelude.{◌≡◌, ◌+◌, ◌≤◌, ℕ, if◌then◌else◌, Bool, false, List, [], ◌∷◌, length, Some, None}
use Rattle.std.specs.Str.{bytes_eq}
use Rattle.slon_base.specs.Shelf.{Promise}
use Rattle.slon_model.specs.declared.command.Command.{Command}
use Rattle.slon_model.specs.declared.reply.Refusal.TheVariants as refused
use Rattle.slon_model.specs.declared.reply.Reply.{Reply}
use Rattle.slon_model.specs.declared.reply.Reply.TheVariants.{Refused, InDoubt}
use Rattle.slon_model.specs.Names.{Named, find_named}
use Rattle.slon_model.specs.Deciding.{Choice}
use Rattle.slon_model.specs.World.{Happening}
use Rattle.app_store.specs.Base.{Base}
use Rattle.store_rows.specs.Spending.{IsAtMost}
use Rattle.cluster_engine.specs.Agreed.{Clustered}
use Rattle.cluster_engine.specs.Calls.{arms_later, happened}

-- the reply tells of a fault or a doubt of this database
abbrev pub tells_of : List ℕ → Reply → Bool
tells_of name (Refused (refused.Fault database count)) = bytes_eq name database
tells_of name (InDoubt database answer) = bytes_eq name database
tells_of name others = false

-- how many replies of a history tell of one
abbrev pub failures : List ℕ → List Happening → ℕ
failures name [] = 0
failures name (h ∷ hs) = if tells_of name h.reply then failures name hs + 1 else failures name hs

-- the place of the database of this name in the order of their making
abbrev pub place_of : List ℕ → Named Base → ℕ
place_of name [] = 0
place_of name (b ∷ bs) = if bytes_eq name b.0 then 0 else place_of name bs + 1

-- The replies that tell of a fault or a doubt of a database, and the calls of its store that can still fail, are
-- together at most as many as the shelf told of the store. No reply tells of a database that is not there.
pub record IsWithin (promise : ℕ → Promise) (history : List Happening) (cluster : Clustered) : Type 0 where
  -- each store that was given is that of a database
  pub placed : cluster.given ≡ length cluster.bases
  pub absent : (name : List ℕ) → find_named name cluster.bases ≡ None → failures name history ≡ 0
  pub present : (name : List ℕ) (b : Base) (n : ℕ) → find_named name cluster.bases ≡ Some b →
      (promise (place_of name cluster.bases)).can_fail ≡ Some n →
      (left : ℕ) × (failures name history + left ≤ n) × IsAtMost left b.kept.can_fail

-- a command that has no store fail later keeps to that, whatever came of it
abbrev pub Pays : (ℕ → Promise) → Command → Clustered → Reply → Clustered → Type 0
Pays promise command old reply new = arms_later command ≡ false → (choice : Choice) (history : List Happening) →
    IsWithin promise history old → IsWithin promise (happened command reply choice ∷ history) new
