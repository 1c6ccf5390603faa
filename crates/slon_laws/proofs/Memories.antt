-- A database that changes leaves the scripts of the session, and what is switched.
use Rattle.std.proofs.Common.{◌≡◌, ℕ, ◌&&◌, not, List, Option, Some, None, true, false, cond, refl, ap}
use Rattle.slon_model.specs.Place.{Place, is_running}
use Rattle.slon_model.specs.Sessions.{Memory, remembered, forgotten}
use Rattle.slon_model.specs.Turns.{switches_of}

pub record IsKept (m n : Memory) : Type 0 where
  pub scripts : n.scripts ≡ m.scripts
  pub switches : switches_of n ≡ switches_of m

pub remembered_kept : (name : List ℕ) (was : Option Place) (q : Place) (m : Memory) →
    IsKept m (remembered name was q m)
remembered_kept name None q m = record { scripts = refl; switches = refl }
remembered_kept name (Some p) q m =
    elim (is_running q.standing && not (is_running p.standing)) as (λ b. IsKept m (cond b (forgotten name m) m)) [
      | true ↦ record { scripts = refl; switches = refl }
      | false ↦ record { scripts = refl; switches = refl }
    ]

-- one that does not come up leaves all of it
pub down_kept : (name : List ℕ) (was : Option Place) (q : Place) (m : Memory) → is_running q.standing ≡ false →
    remembered name was q m ≡ m
down_kept name None q m down = refl
down_kept name (Some p) q m down =
    ap (λ b. cond (b && not (is_running p.standing)) (forgotten name m) m) down
