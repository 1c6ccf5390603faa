-- The ways in which a step on several databases changes one of them.
use Rattle.std.specs.Prelude.{◌≡◌, ℕ, Bool, false, List, [], ◌∷◌, Option, Some, None}
use Rattle.slon_model.specs.Names.{Named, find_named, put_named}
use Rattle.slon_model.specs.Place.{Place, fallen}
use Rattle.slon_model.specs.Moves.{is_last_stamp}
use Rattle.slon_model.specs.Sessions.{Commit, committing, in_doubt, stood_at}
use Rattle.slon_laws.specs.Spelled.{IsFormedCommit}

-- It makes a commit of which F holds, it goes down, or such a commit of it is in doubt.
pub data Turned (F : Commit → Place → Type 0) (p q : Place) : Type 0 where
  Commits : (c : Commit) → F c p → q ≡ committing c p → Turned F p q
  Falls : (count : ℕ) → q ≡ fallen count p → Turned F p q
  Doubts : (c : Commit) (stands : Bool) → F c p → q ≡ in_doubt c stands p → Turned F p q

-- R of the databases of a session is kept by each of them
abbrev pub Carries : (Commit → Place → Type 0) → (Named Place → Type 0) → Type 0
Carries F R =
    (name : List ℕ) (p q : Place) (ps : Named Place) → find_named name ps ≡ Some p → Turned F p q → R ps →
    R (put_named name q ps)

-- F holds of each of these commits, each with its database as the ones before it leave that
abbrev pub HoldsAt : (Commit → Place → Type 0) → Commit → Option Place → Type 0
HoldsAt F c None = Unit {0}
HoldsAt F c (Some p) = F c p

abbrev pub AllHold : (Commit → Place → Type 0) → List Commit → Named Place → Type 0
AllHold F [] ps = Unit {0}
AllHold F (c ∷ cs) ps =
    HoldsAt F c (find_named c.name ps) × AllHold F cs (stood_at c (find_named c.name ps) ps)

-- what a commit stores is within the limit
abbrev pub IsWithin : Commit → Place → Type 0
IsWithin c p = is_last_stamp p ≡ false

-- and the rows that it fills tables with, and what it logs, have their forms
abbrev pub IsFormed : Commit → Place → Type 0
IsFormed c p = IsWithin c p × IsFormedCommit c p
