-- Snapshots of one database as moments: how many transactions had ended there.
use Rattle.std.specs.Prelude.{◌≡◌, ℕ, ◌-◌, ◌<◌, ◌≤◌, nat_lt, Bool, false, length}
use Rattle.std.specs.Prelude.{Option, Some, None}
use Rattle.std.specs.List.{AllByRecursion}
use Rattle.slon_model.specs.Snapshots.{Snapshot, sees}
use Rattle.slon_model.specs.Deeds.{Node, stream}
use Rattle.slon_model.specs.Place.{Place, taken}

-- how many transactions a snapshot sees as ended; the one with the id 0 counts as ended before all
abbrev pub count_of : Snapshot → ℕ
count_of k = k.xmax - length k.running

-- it is among the first k that ended
abbrev pub is_ended : Option ℕ → ℕ → Bool
is_ended None k = false
is_ended (Some m) k = nat_lt m k

-- The snapshot was taken in the database whose transactions ended in this order: it sees those that had ended by then,
-- and `now` is the number of those that have ended by now.
pub record IsTaken (order : ℕ → Option ℕ) (now : ℕ) (k : Snapshot) : Type 0 where
  pub past : count_of k ≤ now
  pub sees : (x : ℕ) → sees k x ≡ is_ended (order x) (count_of k)

-- Each transaction that has ended has its moment, the number of those that had ended before it; `now` of them have.
pub record IsOrder (order : ℕ → Option ℕ) (now : ℕ) : Type 0 where
  pub bounded : (x m : ℕ) → order x ≡ Some m → m < now
  pub onto : (m : ℕ) → m < now → (x : ℕ) × (order x ≡ Some m)
  pub apart : (x y m : ℕ) → order x ≡ Some m → order y ≡ Some m → x ≡ y

-- There is an order in which transactions of the database ended, and the snapshot of now, and that of each event of the
-- node, was taken in it.
pub record HasMoments (p : Place) (n : Node) : Type 0 where
  pub order : ℕ → Option ℕ
  pub is : IsOrder order (count_of (taken p))
  pub now : IsTaken order (count_of (taken p)) (taken p)
  pub events : AllByRecursion (λ e. IsTaken order (count_of (taken p)) e.taken) (stream n)
