-- The owner of a set, by the code and by the rules.
use Rattle.std.specs.Prelude.{◌≡◌, ◌==◌, ◌&&◌, ◌||◌, ℕ, Bool, true, nat_lt, if◌then◌else◌, is_some, get_or}
use Rattle.std.specs.Prelude.{List, Option, Some, None, Ok, Err}
use Rattle.slon_base.specs.Keeper.{Kept}
use Rattle.slon_base.specs.declared.keeper.Keeper.{Ghosts}
use Rattle.store_rows.specs.Space.{AllOf}
use Rattle.slon_model.specs.declared.reply.Refusal.TheVariants as refused
use Rattle.slon_model.specs.Names.{Named, find_named}
use Rattle.slon_model.specs.Maps.{Map}
use Rattle.slon_model.specs.Deeds.{Node}
use Rattle.slon_model.specs.Place.{Place, is_running}
use Rattle.slon_model.specs.Reaching.{is_on_line, seat_at_place, claims, era_at, owner}
use Rattle.slon_model.specs.Sessions.{World, Running, Seat, seat}
use Rattle.node_store.specs.declared.looking.Reign.{Reign}
use Rattle.app_store.specs.Base.{Base}
use Rattle.slonik_exec.specs.declared.databases.Named.{Named as NamedDatabase}
use Rattle.slonik_exec.specs.declared.owning.Claim.{Claim}
use Rattle.slonik_exec.specs.declared.owning.Owner.{Owner}
use Rattle.slonik_exec.specs.declared.owning.Owner.TheVariants.{At, Nobody, Stopped}
use Rattle.slonik_exec.specs.Databases.{FitsAll, AreReady, TriesAll, Runs, bases_of}
use Rattle.slonik_exec.specs.Heard.{AreSame, BreaksDown}
use Rattle.slonik_exec.specs.Reached.{IsSeatAt}

-- ---- what a database claims

-- who leads a set, if it is this node
abbrev pub reign_of_node : ℕ → Option Reign → Option Reign
reign_of_node own None = None
reign_of_node own (Some r) = if r.origin == own then Some r else None

-- a database whose node leads a set is up, and a node
abbrev pub HasSeat : Base → Option Reign → Type 0
HasSeat b found = AllOf (λ r. (b.memory.up ≡ true) × (is_some b.memory.identity ≡ true)) found

-- by the rules: how the node of a seat leads a set, if it does
abbrev pub reign_at : ℕ → Option Seat → Option Reign
reign_at set None = None
reign_at set (Some s) = if claims set s then Some (record { origin = s.node.id; era = era_at set s }) else None

abbrev pub IsLed : ℕ → Place → Option Reign → Type 0
IsLed set p found = (name : List ℕ) → found ≡ reign_at set (seat_at_place name p p.node)

-- where a NODE line names the database
abbrev pub IsLedOn : Map (List ℕ) → ℕ → List ℕ → Place → Option Reign → Type 0
IsLedOn lines set name p found =
    found ≡ reign_at set (if is_on_line lines name then seat_at_place name p p.node else None)

-- ---- the best claim

-- one who leads a set comes before the owner that was found so far: the greater era counts, and then the lower id
abbrev pub is_before : Reign → Option Claim → Bool
is_before r None = true
is_before r (Some c) = nat_lt c.reign.era r.era || (r.era == c.reign.era && nat_lt r.origin c.reign.origin)

abbrev pub better_claim : Option Claim → Option Reign → ℕ → Option Claim
better_claim best None at = best
better_claim best (Some r) at = if is_before r best then Some (record { reign = r; at = at }) else best

-- ---- the owner

-- over every store
abbrev pub RunsOwned : Named Base → Owner → Named Base → Type 0
RunsOwned old (Stopped reply) new = Runs old reply new
RunsOwned old others new = TriesAll true None old new × AreSame old new

-- in the code: the first database of its name, which is up and a node
abbrev pub IsOwnerHere : {K : Type 0} {g : Ghosts K} → List (NamedDatabase K g) → Owner → Type 0
IsOwnerHere databases (At i) = IsSeatAt databases i
IsOwnerHere databases others = Unit {0}

-- By the rules: the database of this name is that of the owner.
pub record OwnsAt (set : ℕ) (run : Running) (w : World) (name : List ℕ) : Type 0 where
  pub place : Place
  pub node : Node
  pub due : owner run set w ≡ Ok (seat name place node)
  pub found : find_named name w.places ≡ Some place
  pub running : is_running place.standing ≡ true
  pub is : place.node ≡ Some node

-- the database at an index is the owner's; there is none; or the store of one failed
abbrev pub OwnerIs : {K : Type 0} {g : Ghosts K} → (K → Kept) → ℕ → Running → World → Owner →
    List (NamedDatabase K g) → Type 0
OwnerIs {K} {g} kept set run w (At i) databases =
    FitsAll w.places (bases_of kept databases)
    × ((d : NamedDatabase K g) → d ≡ get_or databases i d → OwnsAt set run w d.name)
OwnerIs kept set run w Nobody databases =
    FitsAll w.places (bases_of kept databases) × (owner run set w ≡ Err (refused.NoSet set))
OwnerIs kept set run w (Stopped reply) databases = BreaksDown w reply (bases_of kept databases)

-- from all databases that agree, for every script with these NODE lines
abbrev pub Owns : {K : Type 0} {g : Ghosts K} → (K → Kept) → ℕ → Map (List ℕ) → Named Base → Owner →
    List (NamedDatabase K g) → Type 0
Owns kept set lines old found databases =
    (w : World) (run : Running) → AreReady w old → run.lines ≡ lines → OwnerIs kept set run w found databases
