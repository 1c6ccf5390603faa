-- What each move, a fault and a doubt keep is kept by every step.
use Rattle.std.proofs.Common.{Bool, true, false, cond, sym, subst}
use Rattle.std.specs.List.{AllByRecursion}
use Rattle.slon_model.specs.Tasks.{Task}
use Rattle.slon_model.specs.Place.{Place}
use Rattle.slon_model.specs.Moves.{prepared, done}
use Rattle.slon_model.specs.Deciding.{Choice, AtFault, Wavers, decide, move_of, place_by}
use Rattle.slon_model.specs.Sessions.{Commit, committing}
use Rattle.slon_model.proofs.Names.{all_put, all_found}
use Rattle.slon_laws.specs.Keeps.{Keeps, KeepsTasks}
use Rattle.slon_laws.specs.Turning.{Turned, Commits, Falls, Doubts, Carries}
use Rattle.slon_laws.proofs.Decides.{allowed}

either : (P : Place → Type 0) (b : Bool) (p q : Place) → P p → P q → P (cond b p q)
either P true p q one other = one
either P false p q one other = other

pub kept_task : {IsOne : Task → Type 0} {P Q : Place → Type 0} → KeepsTasks IsOne P Q →
    (task : Task) (p : Place) (choice : Choice) → IsOne task × P p → Q (place_by task p choice)
kept_task {Q = Q} k task p (AtFault count also) is =
    k.falls count _
    (either Q also (prepared (move_of (decide task p)) p) p
    (k.prepares task (move_of (decide task p)) p (allowed task p) is.1) (k.stays p is.1))
kept_task {Q = Q} k task p (Wavers stands) is =
    k.wavers stands _
    (either Q stands (done (move_of (decide task p)) p) p
    (k.moves task (move_of (decide task p)) p is.0 (allowed task p) is.1) (k.stays p is.1))
kept_task k task p others is = k.moves task (move_of (decide task p)) p is.0 (allowed task p) is.1

pub kept : {F : Commit → Place → Type 0} {IsOne : Task → Type 0} {P Q : Place → Type 0} → Keeps F IsOne P Q →
    (task : Task) (p : Place) (choice : Choice) → IsOne task × P p → Q (place_by task p choice)
kept k = kept_task k.tasks

-- a step on several databases keeps it of each of them
pub turned_keeps : {F : Commit → Place → Type 0} {IsOne : Task → Type 0} {P Q : Place → Type 0} → Keeps F IsOne P Q →
    (p q : Place) → Turned F p q → Q p → Q q
turned_keeps {Q = Q} k p q (Commits c first is) was = subst Q (sym is) (k.commits c p first was)
turned_keeps {Q = Q} k p q (Falls count is) was = subst Q (sym is) (k.tasks.falls count p was)
turned_keeps {Q = Q} k p q (Doubts c stands first is) was =
    subst Q (sym is)
    (k.promises _ _ (k.tasks.wavers stands _ (either Q stands (committing c p) p (k.commits c p first was) was)))

pub carried : {F : Commit → Place → Type 0} {IsOne : Task → Type 0} {P Q : Place → Type 0} → Keeps F IsOne P Q →
    Carries F (λ ps. AllByRecursion (λ e. Q e.1) ps)
carried {Q = Q} k name p q ps found turned all =
    all_put Q name q ps (turned_keeps k p q turned (all_found Q name p ps all found)) all
