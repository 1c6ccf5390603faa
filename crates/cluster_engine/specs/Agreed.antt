-- What the code keeps of a session, and when the rules agree with it.
use Rattle.std.specs.Prelude.{◌≡◌, ℕ, List, drop, Option, Some, None}
use Rattle.std.specs.List.{AllByRecursion}
use Rattle.std.specs.FinMap.{FinMap, get}
use Rattle.slon_base.specs.Keeper.{key_cmp}
use Rattle.slon_model.specs.Names.{Named, find_named}
use Rattle.slon_model.specs.Deeds.{Node}
use Rattle.slon_model.specs.Place.{Place}
use Rattle.slon_model.specs.Sessions.{World, Memory, Running}
use Rattle.slon_model.specs.Turns.{Switches, switches_of}
use Rattle.slon_model.specs.World.{Happening, Leads, start}
use Rattle.slon_laws.specs.Fetches.{KeepFormed}
use Rattle.slon_laws.specs.Older.{IsOlder}
use Rattle.slon_laws.specs.Sound.{Sound}
use Rattle.slon_laws.specs.Spelled.{IsSpelled}
use Rattle.slon_laws.specs.Worlds.{AllPlaces}
use Rattle.stream_laws.specs.Facts.{IsRegular}
use Rattle.app_store.specs.Base.{Base}
use Rattle.slonik_exec.specs.Databases.{FitsAll}
use Rattle.slon_turns.specs.declared.bounds.Bound.{Bound}
use Rattle.slon_turns.specs.Holding.{Holdings, IsUpIn, KeepsIn, WaitsIn, bounds_in}
use Rattle.cluster_engine.specs.declared.scripts.Started.{Started}

-- the scripts that run, by their names
abbrev pub Scripts : Type 0
Scripts = FinMap key_cmp Started

-- What the code keeps of a session besides its databases: its scripts, what is switched, and what its nodes have in
-- memory: the events that wait, and what was fetched of them.
pub record Remembered : Type 0 where
  pub scripts : Scripts
  pub switches : Switches
  pub held : Holdings

-- What the code keeps of a session: how many databases it allows, how many stores it was given, its databases in the
-- order of their making, and the rest.
pub record Clustered : Type 0 where
  pub limit : ℕ
  pub given : ℕ
  pub bases : Named Base
  pub memory : Remembered

-- A script that runs agrees with one of the rules. The numbers that it emitted, and since when it waits, are not kept.
pub record FitsRun (run : Running) (s : Started) : Type 0 where
  pub cluster : run.cluster ≡ s.script.cluster
  pub lines : run.lines ≡ s.script.nodes
  pub todo : run.todo ≡ drop s.done s.script.statements

abbrev pub FitsFound : Option Running → Option Started → Type 0
FitsFound None None = Unit {0}
FitsFound (Some run) (Some s) = FitsRun run s
FitsFound run s = ⊥

-- the scripts agree by their names
abbrev pub FitsScripts : Named Running → Scripts → Type 0
FitsScripts runs scripts = (name : List ℕ) → FitsFound (find_named name runs) (get scripts name)

-- what is in memory agrees; nothing is kept yet of the clock
pub record FitsMemory (m : Memory) (r : Remembered) : Type 0 where
  pub scripts : FitsScripts m.scripts r.scripts
  pub switches : switches_of m ≡ r.switches
  pub waits : (name : List ℕ) → WaitsIn name m (get r.held name)

-- The database of the node that is the origin: all its actions below the number are of transactions below the id.
pub record IsKnown (w : World) (b : Bound) : Type 0 where
  pub name : List ℕ
  pub place : Place
  pub found : find_named name w.places ≡ Some place
  pub node : Node
  pub is : place.node ≡ Some node
  pub own : node.id ≡ b.origin
  pub older : IsOlder b.number b.xid place

-- so it is of all that nodes know of the transactions of others
abbrev pub AllKnown : World → Holdings → Type 0
AllKnown w held = (name : List ℕ) → AllByRecursion (IsKnown w) (bounds_in (get held name))

-- The rules agree with what the code has of the session.
pub record Matches (w : World) (c : Clustered) : Type 0 where
  pub limit : w.limit ≡ c.limit
  pub fits : FitsAll w.places c.bases
  pub memory : FitsMemory w.memory c.memory
  -- what was fetched, where no database of the name is down
  pub keeps : (name : List ℕ) → IsUpIn name c.bases → KeepsIn name w.memory (get c.memory.held name)

-- They do, and what the code knows besides is so.
pub record Agrees (w : World) (c : Clustered) : Type 0 where
  pub limit : w.limit ≡ c.limit
  pub fits : FitsAll w.places c.bases
  pub memory : FitsMemory w.memory c.memory
  pub keeps : (name : List ℕ) → IsUpIn name c.bases → KeepsIn name w.memory (get c.memory.held name)
  pub known : AllKnown w c.memory.held

-- They do, a legal history led there, and the session and each database of it have what each such history leads to.
pub record Follows (w : World) (c : Clustered) : Type 0 where
  pub agrees : Agrees w c
  pub most : ℕ
  pub history : List Happening
  pub leads : Leads (start most) history w
  pub sound : AllPlaces Sound w
  pub spelled : AllPlaces IsSpelled w
  pub regular : IsRegular w
  pub formed : KeepFormed w
