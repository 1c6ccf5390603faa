-- A turn of the slon of a node.
use Rattle.std.specs.Prelude.{◌≡◌, ℕ, Bool, true, List, get_or, Some, Result, Ok, Err}
use Rattle.std.specs.List.{position}
use Rattle.std.specs.Option.{option_map}
use Rattle.slon_base.specs.Keeper.{Kept}
use Rattle.slon_base.specs.declared.fault.Halt.{Halt as HaltOf}
use Rattle.slon_base.specs.declared.keeper.Keeper.{Ghosts}
use Rattle.slon_model.specs.declared.reply.Refusal.{Refusal}
use Rattle.slon_model.specs.declared.reply.Reply.{Reply}
use Rattle.slon_model.specs.Names.{Named, find_named}
use Rattle.slon_model.specs.Deeds.{Node}
use Rattle.slon_model.specs.Place.{Place, is_running}
use Rattle.slon_model.specs.Sessions.{World, Stated, seat}
use Rattle.slon_model.specs.Turns.{is_id, at_node, on_turn}
use Rattle.slon_model.specs.World.{is_of}
use Rattle.app_store.specs.Base.{Base}
use Rattle.slonik_exec.specs.declared.databases.Named.{Named as NamedDatabase}
use Rattle.slonik_exec.specs.declared.reaching.Reached.{Reached}
use Rattle.slonik_exec.specs.declared.reaching.Reached.TheVariants.{At, Refused}
use Rattle.slonik_exec.specs.Databases.{FitsAll, AreReady, bases_of, told_by}
use Rattle.slonik_exec.specs.Executing.{Comes}
use Rattle.slonik_exec.specs.Reached.{IsSeatAt}

-- ---- in the code

-- the database is this node, or would be by a commit in doubt
abbrev pub is_this : {K : Type 0} {g : Ghosts K} → ℕ → NamedDatabase K g → Bool
is_this node d = is_id node (option_map (λ i. i.id) d.database.state.node.identity)

abbrev pub IsSeatHere : {K : Type 0} {g : Ghosts K} → List (NamedDatabase K g) → Reached → Type 0
IsSeatHere databases (At i) = IsSeatAt databases i
IsSeatHere databases (Refused refusal) = Unit {0}

-- it is the first one that is this node
abbrev pub IsThisAt : {K : Type 0} {g : Ghosts K} → ℕ → List (NamedDatabase K g) → Reached → Type 0
IsThisAt node databases (At i) = position (is_this node) databases ≡ Some i
IsThisAt node databases (Refused refusal) = Unit {0}

-- ---- by the rules

-- the database of this name has its turn
pub record SitsOn (node : ℕ) (w : World) (name : List ℕ) : Type 0 where
  pub place : Place
  pub own : Node
  pub due : on_turn node w ≡ Ok (seat name place own)
  pub at : at_node node w ≡ Some (name, place)
  pub found : find_named name w.places ≡ Some place
  pub running : is_running place.standing ≡ true
  pub is : place.node ≡ Some own

abbrev pub TurnIs : {K : Type 0} {g : Ghosts K} → ℕ → World → List (NamedDatabase K g) → Reached → Type 0
TurnIs {K} {g} node w databases (At i) =
    (d : NamedDatabase K g) → d ≡ get_or databases i d → SitsOn node w d.name
TurnIs node w databases (Refused refusal) = on_turn node w ≡ Err refusal

-- from all places that agree, where these slons are on
abbrev pub HasTurn : {K : Type 0} {g : Ghosts K} → (K → Kept) → ℕ → List ℕ → List (NamedDatabase K g) → Reached →
    Type 0
HasTurn kept node started databases reached =
    (w : World) → FitsAll w.places (bases_of kept databases) → w.memory.started ≡ started →
    TurnIs node w databases reached

-- What a turn of the slon of a node comes to that the rules answer so: the store of no other database than its own is
-- told of.
pub record TakesTurn (node : ℕ) (w : World) (due : Result Stated Refusal) (reply : Reply) (new : Named Base) :
    Type 0 where
  pub comes : Comes w due reply new
  pub own : (name : List ℕ) (halt : HaltOf) → told_by reply ≡ Some (name, halt) → is_of name (at_node node w) ≡ true

-- from all databases that agree, where these slons are on
abbrev pub Turns : ℕ → List ℕ → (World → Result Stated Refusal) → Named Base → Reply → Named Base → Type 0
Turns node started due old reply new =
    (w : World) → AreReady w old → w.memory.started ≡ started → TakesTurn node w (due w) reply new
