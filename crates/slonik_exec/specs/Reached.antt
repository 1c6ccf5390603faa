-- How code reaches a database by a NODE line, and what that is by the rules.
use Rattle.std.specs.Prelude.{◌≡◌, ℕ, ◌<◌, ◌==◌, ◌&&◌, if◌then◌else◌, Bool, true, false, List, [], length}
use Rattle.std.specs.Prelude.{get_or, Option, Some, None, is_some, option_map, unwrap_or, Ok, Err}
use Rattle.std.specs.List.{position}
use Rattle.std.specs.Str.{bytes_eq}
use Rattle.slon_base.specs.declared.keeper.Keeper.{Ghosts}
use Rattle.slon_model.specs.declared.reply.Refusal.TheVariants as refused
use Rattle.slon_model.specs.Names.{Named, find_named}
use Rattle.slon_model.specs.Maps.{Map, entry_at}
use Rattle.slon_model.specs.Deeds.{Node}
use Rattle.slon_model.specs.Place.{Place, is_running}
use Rattle.slon_model.specs.Sessions.{World, Running, seat}
use Rattle.slon_model.specs.Reaching.{database_in, database_of_line, reach, down_among, any_down}
use Rattle.slon_model.specs.Membership.{first_node}
use Rattle.slon_model.specs.Turns.{at_node}
use Rattle.node_state.specs.declared.memory.Identity.{Identity}
use Rattle.app_store.specs.Base.{Base}
use Rattle.slonik_exec.specs.declared.databases.Named.{Named as NamedDatabase}
use Rattle.slonik_exec.specs.declared.reaching.Reached.{Reached}
use Rattle.slonik_exec.specs.declared.reaching.Reached.TheVariants.{At, Refused}
use Rattle.slonik_exec.specs.Databases.{FitsAll, IsQuiet}

-- ---- in the code

-- the name of a database in the NODE line of this id
abbrev pub name_on : ℕ → Map (List ℕ) → List ℕ
name_on id lines = database_in (unwrap_or (entry_at id lines) [])

-- the first database of a name is at this index, and is up
pub record IsUpAt {K : Type 0} {g : Ghosts K} (name : List ℕ) (databases : List (NamedDatabase K g)) (i : ℕ) :
    Type 0 where
  pub inside : i < length databases
  pub at : position (λ d. bytes_eq name d.name) databases ≡ Some i
  pub up : (d : NamedDatabase K g) → d ≡ get_or databases i d → d.database.state.up ≡ true

-- and it is a node
pub record IsNodeAt {K : Type 0} {g : Ghosts K} (name : List ℕ) (databases : List (NamedDatabase K g)) (i : ℕ) :
    Type 0 where
  pub here : IsUpAt name databases i
  pub node : (d : NamedDatabase K g) → d ≡ get_or databases i d → is_some d.database.state.node.identity ≡ true

-- the database at this index is the first one of its name, is up, and is a node
abbrev pub IsSeatAt : {K : Type 0} {g : Ghosts K} → List (NamedDatabase K g) → ℕ → Type 0
IsSeatAt {K} {g} databases i =
    (i < length databases) × ((d : NamedDatabase K g) → d ≡ get_or databases i d → IsNodeAt d.name databases i)

abbrev pub IsUpHere : {K : Type 0} {g : Ghosts K} → List ℕ → List (NamedDatabase K g) → Reached → Type 0
IsUpHere name databases (At i) = IsUpAt name databases i
IsUpHere name databases (Refused refusal) = Unit {0}

abbrev pub IsNodeHere : {K : Type 0} {g : Ghosts K} → List ℕ → List (NamedDatabase K g) → Reached → Type 0
IsNodeHere name databases (At i) = IsNodeAt name databases i
IsNodeHere name databases (Refused refusal) = Unit {0}

-- a refusal tells of no store
abbrev pub IsQuietly : Reached → Type 0
IsQuietly (At i) = Unit {0}
IsQuietly (Refused refusal) = IsQuiet refusal

-- no database is a node
abbrev pub AreFree : {K : Type 0} {g : Ghosts K} → List (NamedDatabase K g) → Type 0
AreFree {K} {g} databases =
    (i : ℕ) → i < length databases → (d : NamedDatabase K g) → d ≡ get_or databases i d →
    is_some d.database.state.node.identity ≡ false

-- what a database at this index is for a script of this cluster that looks for the node of this id
abbrev pub seat_in : ℕ → ℕ → List ℕ → Option Identity → Reached
seat_in i id cluster None = Refused (refused.NotInitialised id)
seat_in i id cluster (Some own) =
    if own.id == id && bytes_eq own.cluster cluster then At i else Refused (refused.OtherNode id)

-- ---- by the rules

-- the database of a NODE line
pub record OnLine (run : Running) (id : ℕ) (w : World) (name : List ℕ) : Type 0 where
  pub place : Place
  pub due : database_of_line run id w ≡ Ok (name, place)
  pub found : find_named name w.places ≡ Some place
  pub running : is_running place.standing ≡ true

abbrev pub LineIs : List ℕ → Running → ℕ → World → Reached → Type 0
LineIs name run id w (At i) = OnLine run id w name
LineIs name run id w (Refused refusal) = database_of_line run id w ≡ Err refusal

-- from all places that agree, and for every script with these NODE lines
abbrev pub FindsLine : Map (List ℕ) → ℕ → Named Base → Reached → Type 0
FindsLine lines id bases reached =
    (w : World) → FitsAll w.places bases → (run : Running) → run.lines ≡ lines →
    LineIs (name_on id lines) run id w reached

-- a database that is the node of a NODE line, of the cluster of the script
pub record SitsAt (run : Running) (id : ℕ) (w : World) (name : List ℕ) : Type 0 where
  pub place : Place
  pub node : Node
  pub due : reach run id w ≡ Ok (seat name place node)
  pub found : find_named name w.places ≡ Some place
  pub running : is_running place.standing ≡ true
  pub is : place.node ≡ Some node
  pub own : node.id ≡ id
  pub cluster : node.cluster ≡ run.cluster

abbrev pub NodeIs : List ℕ → Running → ℕ → World → Reached → Type 0
NodeIs name run id w (At i) = SitsAt run id w name
NodeIs name run id w (Refused refusal) = reach run id w ≡ Err refusal

-- What a script says of its nodes.
pub record Addresses : Type 0 where
  pub lines : Map (List ℕ)
  pub cluster : List ℕ

abbrev pub Reaches : Addresses → ℕ → Named Base → Reached → Type 0
Reaches a id bases reached =
    (w : World) → FitsAll w.places bases → (run : Running) → run.lines ≡ a.lines → run.cluster ≡ a.cluster →
    NodeIs (name_on id a.lines) run id w reached

-- ---- all databases

-- the first database that is down
abbrev pub IsDown : Named Base → Option (List ℕ) → Type 0
IsDown bases found = (w : World) → FitsAll w.places bases → down_among w.places ≡ option_map refused.Down found

-- the first node that is down
abbrev pub IsDownNode : Named Base → Option (List ℕ) → Type 0
IsDownNode bases found =
    (w : World) → FitsAll w.places bases → any_down w ≡ option_map refused.Down found

-- the first node
abbrev pub IsFirstNode : Named Base → Option ℕ → Type 0
IsFirstNode bases found = (w : World) → FitsAll w.places bases → first_node w ≡ found

-- whether a database is this node
abbrev pub HasNode : ℕ → Named Base → Bool → Type 0
HasNode node bases found = (w : World) → FitsAll w.places bases → is_some (at_node node w) ≡ found
