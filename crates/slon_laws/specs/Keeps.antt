-- What every way in which a database goes on leads to.
use Rattle.std.specs.Prelude.{ℕ, Bool, Option}
use Rattle.slon_model.specs.Tasks.{Task}
use Rattle.slon_model.specs.Place.{Place, fallen, doubted}
use Rattle.slon_model.specs.Moves.{Move, prepared, done}
use Rattle.slon_model.specs.Sessions.{Commit, committing}
use Rattle.slon_laws.specs.Allowed.{MayMove}

-- From P each allowed move of such a task, and what comes before it, leads to Q, and a fault and a doubt keep Q.
pub record KeepsTasks (IsOne : Task → Type 0) (P Q : Place → Type 0) : Type 0 where
  pub stays : (p : Place) → P p → Q p
  pub prepares : (task : Task) (move : Move) (p : Place) → MayMove task p move → P p → Q (prepared move p)
  pub moves : (task : Task) (move : Move) (p : Place) → IsOne task → MayMove task p move → P p → Q (done move p)
  pub falls : (count : ℕ) (p : Place) → Q p → Q (fallen count p)
  pub wavers : (stands : Bool) (p : Place) → Q p → Q (doubted stands p)

-- The same, and so does every commit of a script or a turn of which F holds, and a promise of one that is in doubt.
pub record Keeps (F : Commit → Place → Type 0) (IsOne : Task → Type 0) (P Q : Place → Type 0) : Type 0 where
  pub tasks : KeepsTasks IsOne P Q
  pub commits : (c : Commit) (p : Place) → F c p → Q p → Q (committing c p)
  pub promises : (node : Option ℕ) (p : Place) → Q p → Q (record p { promised = node })
