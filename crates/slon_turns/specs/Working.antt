-- What a turn comes to by which a node fetches or applies an event of another one, on all databases of a session.
use Rattle.std.specs.Prelude.{◌≡◌, ◌||◌, ℕ, true, List, get_or, Option, Some, None, Result, Ok, Err}
use Rattle.std.specs.FinMap.{get}
use Rattle.slon_base.specs.declared.fault.Halt.{Halt as HaltOf}
use Rattle.slon_model.specs.declared.reply.Refusal.{Refusal}
use Rattle.slon_model.specs.declared.reply.Refusal.TheVariants as refused
use Rattle.slon_model.specs.declared.reply.Reply.{Reply}
use Rattle.slon_model.specs.declared.reply.Reply.TheVariants.{Accepted, Refused}
use Rattle.slon_model.specs.Names.{Named}
use Rattle.slon_model.specs.Events.{Event}
use Rattle.slon_model.specs.Following.{Found}
use Rattle.slon_model.specs.Place.{Place}
use Rattle.slon_model.specs.Sessions.{World, Memory, Seat, Stated, bind}
use Rattle.slon_model.specs.Turns.{Switches, at_node}
use Rattle.slon_model.specs.Working.{Carried, Fetched, applied_by, fetch_sources_of, fetched, fetched_by}
use Rattle.slon_model.specs.Working.{given_up, having_fetched, kept_fetch, settled, sources_of, taken_from}
use Rattle.slon_model.specs.Working.{with_fetch, worked}
use Rattle.slon_model.specs.World.{is_of, is_of_one}
use Rattle.slon_laws.specs.Fetches.{KeepFormed}
use Rattle.node_change.specs.Done.{CanApply}
use Rattle.node_state.specs.Known.{LearnsOfOther}
use Rattle.app_store.specs.Base.{Base}
use Rattle.node_store.specs.Bringing.{CanFill}
use Rattle.slon_base.specs.Keeper.{Kept as KeptStore}
use Rattle.slon_base.specs.declared.keeper.Keeper.{Ghosts}
use Rattle.slonik_exec.specs.declared.databases.Named.{Named as NamedDatabase}
use Rattle.slonik_exec.specs.Databases.{AreReady, bases_of, told_by}
use Rattle.slonik_exec.specs.Executing.{Comes}
use Rattle.slonik_exec.specs.Turning.{SitsOn}
use Rattle.slon_turns.specs.declared.held.Held.{Held}
use Rattle.slon_turns.specs.declared.working.Aim.{Aim}
use Rattle.slon_turns.specs.declared.working.Aim.TheVariants.{Fetch, Apply}
use Rattle.slon_turns.specs.Bounds.{AreBounds, AreLearned}
use Rattle.slon_turns.specs.Holding.{Holdings, HoldAll, HoldBounds, Holds, IsUpIn, Keeps, KeepsIn, WaitsIn, bounds_in}
use Rattle.slon_turns.specs.Polling.{Waits}
use Rattle.slon_turns.specs.Turning.{Kept}

-- ---- what a turn is to come to

-- What the node fetched is kept, or the event is applied.
pub data Due : Type 0 where
  ToKeep : (fetched : Fetched) → Due
  ToApply : (carried : Carried) → Due

abbrev pub stated_by : Due → Stated
stated_by (ToKeep x) = fetched_by x
stated_by (ToApply c) = applied_by c

abbrev pub stated_turn : Result Due Refusal → Result Stated Refusal
stated_turn due = bind due (λ x. Ok (stated_by x))

-- what is in memory where that is accepted
abbrev pub behind : Due → Memory → Memory
behind (ToKeep x) m = with_fetch x m
behind (ToApply c) m = taken_from c m

-- What a turn aims at, of an event of which origin.
pub record Goal : Type 0 where
  pub aim : Aim
  pub origin : ℕ

-- what was fetched is given up, where the turn is to apply it
abbrev pub gives_up : Aim → ℕ → Option (List ℕ × Place) → Memory → Memory
gives_up Fetch origin found m = m
gives_up Apply origin found m = given_up origin m found

-- what is in memory behind a turn with this reply, where the node is found so
abbrev pub left_after : Goal → Option (List ℕ × Place) → Result Due Refusal → Reply → Memory → Memory
left_after goal found (Ok x) (Accepted answer) m = behind x m
left_after goal found (Err (refused.Busy xid)) (Refused (refused.Busy other)) m =
    gives_up goal.aim goal.origin found m
left_after goal found due reply m = m

-- what is kept of the event, where the node is to apply it
abbrev pub recalled : Aim → List ℕ → Event → Memory → Option Found
recalled Fetch name e m = None
recalled Apply name e m = kept_fetch name e.origin e m

-- what a turn comes to at a seat, where this was found
abbrev pub end_by : Aim → Seat → Event → Found → Result Due Refusal
end_by Fetch s e f = Ok (ToKeep (having_fetched s e f))
end_by Apply s e f = bind (settled s e f) (λ c. Ok (ToApply c))

-- in a session
abbrev pub turned_to : Aim → ℕ → ℕ → World → Result Due Refusal
turned_to Fetch node origin w = bind (fetched node origin w) (λ x. Ok (ToKeep x))
turned_to Apply node origin w = bind (worked node origin w) (λ c. Ok (ToApply c))

abbrev pub turned : Goal → ℕ → World → Result Due Refusal
turned goal node w = turned_to goal.aim node goal.origin w

-- the nodes of which the databases are read besides that of the node
abbrev pub sources_to : Aim → ℕ → ℕ → World → List ℕ
sources_to Fetch node origin w = fetch_sources_of node origin w
sources_to Apply node origin w = sources_of node origin w

abbrev pub sources_in : Goal → ℕ → World → List ℕ
sources_in goal node w = sources_to goal.aim node goal.origin w

-- ---- what can be applied

-- the node at its seat can apply the event, and learns no more of it than it says
pub record CanTake (s : Seat) (e : Event) : Type 0 where
  pub can : CanApply s.node e
  pub learns : LearnsOfOther s.node e

-- what the rules have a node apply it can apply
abbrev pub TakesUp : ℕ → ℕ → World → Type 0
TakesUp node origin w = (c : Carried) → worked node origin w ≡ Ok c → CanTake c.seat c.event

-- and its tables can be filled with what comes with it
pub record CanCarry (c : Carried) : Type 0 where
  pub takes : CanTake c.seat c.event
  pub fills : CanFill c.seat.place c.brought.rows

abbrev pub CanTurn : Result Due Refusal → Type 0
CanTurn due = (c : Carried) → due ≡ Ok (ToApply c) → CanCarry c

-- ---- the turn

-- What the turn comes to: the reply and the databases, of which only those of the node and of the providers are told
-- of; and what is held at each database behind it.
pub record TakesWork (goal : Goal) (node : ℕ) (w : World) (held : Holdings) (reply : Reply) (new : Named Base)
    (left : Holdings) : Type 0 where
  pub comes : Comes w (stated_turn (turned goal node w)) reply new
  pub own : (name : List ℕ) (halt : HaltOf) → told_by reply ≡ Some (name, halt) →
      (is_of name (at_node node w) || is_of_one name (sources_in goal node w) w) ≡ true
  pub waits : (name : List ℕ) → WaitsIn name w.memory (get held name) →
      WaitsIn name (left_after goal (at_node node w) (turned goal node w) reply w.memory) (get left name)
  pub keeps : (name : List ℕ) → KeepsIn name w.memory (get held name) → IsUpIn name new →
      KeepsIn name (left_after goal (at_node node w) (turned goal node w) reply w.memory) (get left name)

-- from all databases that agree, where this is so, and where the node can apply what it is to apply
abbrev pub Works : Goal → ℕ → Switches → Kept → Reply → Kept → Type 0
Works goal node on old reply new =
    (w : World) → AreReady w old.bases → w.memory.started ≡ on.started → w.memory.cuts ≡ on.cuts →
    HoldAll w old.held → HoldBounds w old.held → TakesUp node goal.origin w → KeepFormed w →
    TakesWork goal node w old.held reply new.bases new.held

-- what is known at each database behind it
abbrev pub Learns : Goal → ℕ → Switches → Kept → Holdings → Type 0
Learns goal node on old left =
    (w : World) → AreReady w old.bases → w.memory.started ≡ on.started → w.memory.cuts ≡ on.cuts →
    HoldAll w old.held → HoldBounds w old.held →
    (name : List ℕ) → AreLearned w goal.origin (bounds_in (get old.held name)) (bounds_in (get left name))

-- ---- with what the node holds taken out

-- what the turn comes to, and what is held at the node
pub record Carries (goal : Goal) (node : ℕ) (w : World) (name : List ℕ) (reply : Reply) (new : Named Base)
    (left : Held) : Type 0 where
  pub comes : Comes w (stated_turn (turned goal node w)) reply new
  pub own : (other : List ℕ) (halt : HaltOf) → told_by reply ≡ Some (other, halt) →
      (is_of other (at_node node w) || is_of_one other (sources_in goal node w) w) ≡ true
  pub waits : Waits name (left_after goal (at_node node w) (turned goal node w) reply w.memory) left.queue
  pub keeps : IsUpIn name new →
      Keeps name (left_after goal (at_node node w) (turned goal node w) reply w.memory) left.fetches

-- A turn of the node of a database: its index, what it aims at, and which nodes are cut off.
pub record Turn : Type 0 where
  pub node : ℕ
  pub goal : Goal
  pub index : ℕ
  pub cuts : List (ℕ × ℕ)

abbrev pub CarriesOut : {K : Type 0} {g : Ghosts K} → (K → KeptStore) → Turn →
    List (NamedDatabase K g) × Held → Reply → List (NamedDatabase K g) × Held → Type 0
CarriesOut {K} {g} kept t old reply new =
    (w : World) (d : NamedDatabase K g) → AreReady w (bases_of kept old.0) → w.memory.cuts ≡ t.cuts →
    AreBounds w old.1.bounds.items → d ≡ get_or old.0 t.index d → SitsOn t.node w d.name → Holds d.name w.memory old.1 →
    TakesUp t.node t.goal.origin w → KeepFormed w →
    Carries t.goal t.node w d.name reply (bases_of kept new.0) new.1

abbrev pub LearnsAt : {K : Type 0} {g : Ghosts K} → (K → KeptStore) → Turn → List (NamedDatabase K g) × Held → Held →
    Type 0
LearnsAt {K} {g} kept t old left =
    (w : World) (d : NamedDatabase K g) → AreReady w (bases_of kept old.0) → w.memory.cuts ≡ t.cuts →
    AreBounds w old.1.bounds.items → d ≡ get_or old.0 t.index d → SitsOn t.node w d.name → Holds d.name w.memory old.1 →
    AreLearned w t.goal.origin old.1.bounds.items left.bounds.items
