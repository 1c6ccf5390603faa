-- What the nodes of databases have in memory: the events that wait, and what was fetched of them.
use Rattle.std.specs.Prelude.{◌≡◌, ◌==◌, ℕ, true, false, List, [], Option, Some, None}
use Rattle.std.specs.FinMap.{FinMap, get}
use Rattle.slon_base.specs.Keeper.{key_cmp}
use Rattle.slon_model.specs.Names.{Named, find_named}
use Rattle.slon_model.specs.Maps.{entry_at}
use Rattle.slon_model.specs.Place.{Place, is_running}
use Rattle.slon_model.specs.Sessions.{World, Memory}
use Rattle.slon_model.specs.Polls.{line_of, queue_at}
use Rattle.slon_model.specs.Working.{fetches_at}
use Rattle.event_store.specs.Queueing.{waiting}
use Rattle.app_store.specs.Base.{Base}
use Rattle.remote_worker.specs.declared.fetches.Fetches.{Fetches}
use Rattle.remote_worker.specs.Kept.{FitsFetch, FitsFetches, kept_at}
use Rattle.slon_turns.specs.declared.bounds.Bound.{Bound}
use Rattle.slon_turns.specs.declared.held.Held.{Held}
use Rattle.slon_turns.specs.Bounds.{AreBounds}
use Rattle.slon_turns.specs.Polling.{Waits}

-- what the nodes have in memory, by the names of their databases
abbrev pub Holdings : Type 0
Holdings = FinMap key_cmp Held

-- ---- at one database

-- what was fetched at the database of this name is what was fetched there by the rules
abbrev pub Keeps : List ℕ → Memory → Fetches → Type 0
Keeps name m fetches = FitsFetches (fetches_at name m) fetches

-- so it is of every origin but this one
abbrev pub KeepsBut : ℕ → List ℕ → Memory → Fetches → Type 0
KeepsBut origin name m fetches =
    (other : ℕ) → (origin == other) ≡ false →
    FitsFetch other (entry_at other (fetches_at name m)) (kept_at other fetches)

-- with what waits there
pub record Holds (name : List ℕ) (m : Memory) (held : Held) : Type 0 where
  pub waits : Waits name m held.queue
  pub keeps : Keeps name m held.fetches

-- Where the database is down nothing is said of what was fetched, which is forgotten as it comes up.
pub record Stays (name : List ℕ) (m : Memory) (base : Base) (held : Held) : Type 0 where
  pub waits : Waits name m held.queue
  pub keeps : base.memory.up ≡ true → Keeps name m held.fetches

-- ---- at the databases of a session

-- what was taken out under a name: where nothing is held nothing waits, nothing was fetched, and nothing is known
abbrev pub IsTaken : Option Held → Held → Type 0
IsTaken None held =
    ((origin : ℕ) → waiting origin held.queue ≡ []) × ((origin : ℕ) → kept_at origin held.fetches ≡ None)
    × (held.bounds.items ≡ [])
IsTaken (Some found) held = held ≡ found

-- what waits at the database of a name is what waits there by the rules
abbrev pub WaitsIn : List ℕ → Memory → Option Held → Type 0
WaitsIn name m None = (origin : ℕ) → line_of origin (queue_at name m) ≡ []
WaitsIn name m (Some held) = Waits name m held.queue

-- and what was fetched there
abbrev pub KeepsIn : List ℕ → Memory → Option Held → Type 0
KeepsIn name m None = (origin : ℕ) → entry_at origin (fetches_at name m) ≡ None
KeepsIn name m (Some held) = Keeps name m held.fetches

-- what is known there of the transactions of other nodes
abbrev pub bounds_in : Option Held → List Bound
bounds_in None = []
bounds_in (Some held) = held.bounds.items

-- so it is by the names of the databases
abbrev pub HoldBounds : World → Holdings → Type 0
HoldBounds w held = (name : List ℕ) → AreBounds w (bounds_in (get held name))

-- it is what was known there before
abbrev pub KeepBounds : Holdings → Holdings → Type 0
KeepBounds old new = (name : List ℕ) → bounds_in (get new name) ≡ bounds_in (get old name)

-- each database of this name is up; there may be none
abbrev pub IsUpIn : List ℕ → Named Base → Type 0
IsUpIn name bases = (b : Base) → find_named name bases ≡ Some b → b.memory.up ≡ true

-- So it is at every database that is up.
pub record HoldAll (w : World) (held : Holdings) : Type 0 where
  pub waits : (name : List ℕ) (p : Place) → find_named name w.places ≡ Some p → is_running p.standing ≡ true →
      WaitsIn name w.memory (get held name)
  pub keeps : (name : List ℕ) (p : Place) → find_named name w.places ≡ Some p → is_running p.standing ≡ true →
      KeepsIn name w.memory (get held name)
