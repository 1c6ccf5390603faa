-- What a node fetched and keeps, as the rules know it.
use Rattle.std.specs.Prelude.{◌≡◌, ◌==◌, if◌then◌else◌, ℕ, Option, Some, None}
use Rattle.std.specs.Ordering.{nat_cmp}
use Rattle.std.specs.BTreeMap.{get}
use Rattle.slon_model.specs.Maps.{Map, entry_at}
use Rattle.slon_model.specs.Sessions.{Fetch}
use Rattle.remote_worker.specs.declared.fetches.Fetches.{Fetches}
use Rattle.remote_worker.specs.declared.fetches.Kept.{Kept}
use Rattle.remote_worker.specs.declared.worker.Fetched.{Fetched}
use Rattle.remote_worker.specs.declared.worker.Worker.{Worker}
use Rattle.remote_worker.specs.Loading.{HasFound}

-- what a worker fetched
pub record IsKeptOf (w : Worker Fetched) (kept : Kept) : Type 0 where
  pub number : kept.number ≡ w.state.number
  pub load : kept.load ≡ w.state.load

-- what is kept of an origin
unfoldable pub kept_at : ℕ → Fetches → Option Kept
kept_at origin fetches = get nat_cmp fetches.kept origin

-- it was fetched for the event of this number
abbrev pub for_number : ℕ → Option Kept → Option Kept
for_number number None = None
for_number number (Some kept) = if kept.number == number then Some kept else None

-- ---- by the rules

abbrev pub FitsFetch : ℕ → Option Fetch → Option Kept → Type 0
FitsFetch origin None None = Unit {0}
FitsFetch origin (Some f) (Some kept) = (f.number ≡ kept.number) × HasFound origin f.found kept.load
FitsFetch origin f kept = ⊥

-- so it is of each origin
abbrev pub FitsFetches : Map Fetch → Fetches → Type 0
FitsFetches m fetches = (origin : ℕ) → FitsFetch origin (entry_at origin m) (kept_at origin fetches)
