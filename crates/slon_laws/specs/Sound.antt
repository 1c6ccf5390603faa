-- What holds of every database that is reached by steps.
use Rattle.std.specs.Prelude.{◌≡◌, ℕ, ◌<◌, ◌≤◌, ◌&&◌, ◌==◌, if◌then◌else◌, Bool, true, false, List, [], ◌∷◌, map, None}
use Rattle.std.specs.List.{AllByRecursion}
use Rattle.std.specs.Str.{bytes_eq}
use Rattle.slon_model.specs.Names.{Named, find_named}
use Rattle.slon_model.specs.Rows.{Action, Change, change_key, touches, member}
use Rattle.slon_model.specs.Place.{Place, Counter, Filling, filling_of}
use Rattle.slon_model.specs.Snapshots.{Rising}

-- two changes have a row in common
abbrev pub meets : Change → Change → Bool
meets one other = touches (change_key one) other

-- two actions are on one row
abbrev pub conflicts : Action → Action → Bool
conflicts a b = bytes_eq a.table b.table && meets a.change b.change

-- P holds of each two actions, the earlier one first
abbrev pub Pairs : (Action → Action → Type 0) → List Action → Type 0
Pairs P [] = Unit {0}
Pairs P (b ∷ rest) = AllByRecursion (λ a. P a b) rest × Pairs P rest

-- while the transaction of an action is open, no other one writes its row
abbrev pub IsLocked : List ℕ → Action → Action → Type 0
IsLocked xids a b = conflicts a b ≡ true → member a.xid xids ≡ true → a.xid ≡ b.xid

-- one of the two commits stands before the other in the order of their coming
abbrev pub before : ℕ → ℕ → List ℕ → Bool
before x y [] = false
before x y (c ∷ cs) = if c == y then member x cs else before x y cs

-- of two committed actions on one row the earlier one committed first
abbrev pub IsOrdered : List ℕ → Action → Action → Type 0
IsOrdered commits a b =
    conflicts a b ≡ true → (a.xid ≡ b.xid → ⊥) → member a.xid commits ≡ true → member b.xid commits ≡ true →
    before a.xid b.xid commits ≡ true

-- the ids under these names
abbrev pub ids_of : Named ℕ → List ℕ
ids_of os = map (λ o. o.1) os

-- no name stands twice
abbrev pub AreNamedOnce : {X : Type 0} → Named X → Type 0
AreNamedOnce [] = Unit {0}
AreNamedOnce (e ∷ es) = (find_named e.0 es ≡ None) × AreNamedOnce es

-- What holds of the actions, the commits, what tables were filled with, the open transactions and the counters.
pub record SoundOf (actions : List Action) (commits : List ℕ) (fillings : Named Filling) (opens : Named ℕ)
    (xids numbers : Counter) : Type 0 where
  -- ids and numbers are below the next ones, and these at most at the durable ceilings
  pub known : AllByRecursion (λ a. a.xid < xids.next) actions
  pub opened : (x : ℕ) → member x (ids_of opens) ≡ true → x < xids.next
  pub ended : (x : ℕ) → member x commits ≡ true → x < xids.next
  pub numbered : AllByRecursion (λ a. a.number < numbers.next) actions
  pub xids_below : xids.next ≤ xids.ceiling
  pub numbers_below : numbers.next ≤ numbers.ceiling
  -- no transaction is open and committed
  pub apart : (x : ℕ) → member x (ids_of opens) ≡ true → member x commits ≡ true → ⊥
  pub running : Rising (ids_of opens)
  pub named : AreNamedOnce opens
  -- rows are locked, so that committed actions are in order
  pub locked : Pairs (IsLocked (ids_of opens)) actions
  pub ordered : Pairs (IsOrdered commits) actions
  pub rising : Pairs (λ a b. a.number < b.number) actions
  -- tables were filled before the actions that open transactions did on them
  pub filled : AllByRecursion (λ f. f.1.first ≤ numbers.next) fillings
  pub behind : AllByRecursion
      (λ a. member a.xid (ids_of opens) ≡ true → (filling_of a.table fillings).first ≤ a.number) actions

abbrev pub Sound : Place → Type 0
Sound p = SoundOf p.actions p.commits p.fillings p.opens p.xids p.numbers
