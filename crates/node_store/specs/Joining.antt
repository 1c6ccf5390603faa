-- What a step does that commits in two databases: a node emits the event that stores a node, and another database
-- becomes that node.
use Rattle.std.specs.Prelude.{◌≡◌, ℕ, ◌+◌, ◌==◌, if◌then◌else◌, Bool, true, false, List, [], ◌∷◌, Option}
use Rattle.std.specs.Prelude.{Some, None, Result, Ok, Err}
use Rattle.std.specs.Prelude.{is_some}
use Rattle.slon_base.specs.declared.fault.Halt.{Halt as HaltOf}
use Rattle.slon_base.specs.declared.fault.Halt.TheVariants.{TooBig, Doubt}
use Rattle.slon_model.specs.declared.fault.DbFault.{DbFault}
use Rattle.slon_model.specs.declared.fault.DbFault.TheVariants.{Halt}
use Rattle.node_rows.specs.declared.body.Body.TheVariants.{StoreNode}
use Rattle.slon_base.specs.Keeper.{Store, Kept}
use Rattle.slon_model.specs.Maps.{entry_at}
use Rattle.slon_model.specs.Snapshots.{Snapshot}
use Rattle.slon_model.specs.Deeds.{Node, knowledge, progress, with_deeds}
use Rattle.slon_model.specs.Place.{Place, fallen, taken}
use Rattle.slon_model.specs.Moves.{is_last_stamp}
use Rattle.slon_model.specs.Membership.{becoming, joining}
use Rattle.slon_model.specs.Sessions.{Commit, Running, committing, in_doubt, has_late, tells}
use Rattle.slon_model.specs.World.{halt_in}
use Rattle.store_rows.specs.Spending.{Rests}
use Rattle.node_change.specs.declared.side.Side.{Side}
use Rattle.node_change.specs.declared.side.Side.TheVariants.{From, To}
use Rattle.node_change.specs.declared.side.Failed.{Failed}
use Rattle.node_state.specs.declared.memory.NodeMemory.{NodeMemory}
use Rattle.store_rows.specs.Steps.{IsOutside}
use Rattle.store_rows.specs.declared.stop.Stop.{Stop}
use Rattle.store_rows.specs.declared.stop.Stop.TheVariants.{TooBig as StopTooBig}
use Rattle.node_state.specs.Known.{Learns}
use Rattle.app_store.specs.Base.{Base, GoesDown}
use Rattle.app_store.specs.Steps.{Finishes}
use Rattle.app_store.specs.declared.transact.Made.TheVariants.{Done as MadeDone, InDoubt as MadeInDoubt}
use Rattle.app_store.specs.Fits.{Fits, Ready}
use Rattle.app_store.specs.Parts.{FellTo}
use Rattle.app_store.specs.Serves.{is_memory}
use Rattle.node_store.specs.declared.joining.Joined.{Joined}
use Rattle.node_store.specs.declared.joining.Joined.TheVariants.{Done, EventInDoubt, NodeInDoubt}
use Rattle.node_store.specs.declared.joining.Fell.{Fell}
use Rattle.node_store.specs.Acting.{Tries, Emitter, WritesEvents, WritesNode, next_event, emission, behind, are_late}
use Rattle.node_store.specs.Finishing.{Becomes, GivesUp, IsHalted}

-- the database of the event node, and that which becomes a node
pub record Pair : Type 0 where
  pub from : Base
  pub to : Base

abbrev pub base_at : Side → Pair → Base
base_at From pair = pair.from
base_at To pair = pair.to

-- ---- over every store

abbrev pub trouble_of : Side → Side → DbFault → Option HaltOf
trouble_of From From fault = halt_in fault
trouble_of To To fault = halt_in fault
trouble_of side other fault = None

-- what is told of the store of one of them: a commit in doubt is a doubt
abbrev pub trouble_at : Side → Result (ℕ × Joined) Fell → Option HaltOf
trouble_at side (Err f) = trouble_of side f.side f.fault
trouble_at From (Ok (number, EventInDoubt)) = Some Doubt
trouble_at To (Ok (number, NodeInDoubt)) = Some Doubt
trouble_at side (Ok others) = None

-- the stop tells of no failure, of no row that is not in its form, and of no number of an event
abbrev pub is_calm_halt : Option HaltOf → Bool
is_calm_halt None = true
is_calm_halt (Some (TooBig space)) = space == 1
is_calm_halt others = false

abbrev pub is_done : Joined → Bool
is_done Done = true
is_done others = false

-- neither store failed, and none was left with a transaction to take back
abbrev pub is_calm : Result (ℕ × Joined) Fell → Bool
is_calm (Ok x) = is_done x.1
is_calm (Err f) = is_calm_halt (halt_in f.fault)

-- What is promised of both over every store. A fault that is counted and not told is one of the transaction that was
-- rolled back, since the other database failed.
pub record ActsBoth (old : Pair) (result : Result (ℕ × Joined) Fell) (new : Pair) : Type 0 where
  pub first : Tries (trouble_at From result) old.from new.from
  pub second : Tries (trouble_at To result) old.to new.to
  pub quiet : is_calm result ≡ true →
      Rests old.from.kept.faults new.from.kept.faults × Rests old.to.kept.faults new.to.kept.faults

-- ---- what came of it

-- The two databases by the rules, and the two commits.
pub record Both : Type 0 where
  pub from : Place
  pub to : Place
  pub event : Commit
  pub becomes : Commit

abbrev pub place_at : Side → Both → Place
place_at From both = both.from
place_at To both = both.to

-- the databases agree with these places
pub record FitBoth (p q : Place) (new : Pair) : Type 0 where
  pub from : Fits p new.from
  pub to : Fits q new.to

-- which of them would store a number above the limit, and in which space: the stamps are looked at first
abbrev pub excess_both : Both → Option (Side × ℕ)
excess_both both =
    if is_last_stamp both.from then Some (From, 1)
    else (if is_last_stamp both.to then Some (To, 1) else (if has_late both.event.deeds then Some (From, 10) else None))

-- one of them is felled, and the other stays
abbrev pub FellOne : Side → Both → Pair → Type 0
FellOne From both new = FitBoth (fallen both.from.told both.from) both.to new
FellOne To both new = FitBoth both.from (fallen both.to.told both.to) new

-- the store of one failed, and the other stays
abbrev pub BrokeOne : Side → Both → DbFault → Pair → Type 0
BrokeOne From both fault new = FellTo both.from both.from fault new.from × Fits both.to new.to
BrokeOne To both fault new = Fits both.from new.from × FellTo both.to both.to fault new.to

-- What came of them: both stand; or the first is in doubt, and the second not made; or the second is in doubt; or a
-- number would be too big; or the store of one failed, and neither stands.
pub data JoinsAs (both : Both) (number : ℕ) (result : Result (ℕ × Joined) Fell) (new : Pair) : Type 0 where
  BothStood : result ≡ Ok (number, Done) → excess_both both ≡ None →
      FitBoth (committing both.event both.from) (committing both.becomes both.to) new → JoinsAs both number result new
  FirstWavered : (stands : Bool) → result ≡ Ok (number, EventInDoubt) → excess_both both ≡ None →
      FitBoth (in_doubt both.event stands both.from) both.to new → JoinsAs both number result new
  SecondWavered : (stands : Bool) → result ≡ Ok (number, NodeInDoubt) → excess_both both ≡ None →
      FitBoth (committing both.event both.from) (in_doubt both.becomes stands both.to) new →
      JoinsAs both number result new
  OneBurst : (side : Side) (space : ℕ) → result ≡ Err (record { side = side; fault = Halt (TooBig space) }) →
      excess_both both ≡ Some (side, space) → FellOne side both new → JoinsAs both number result new
  OneBroke : (side : Side) (fault : DbFault) → result ≡ Err (record { side = side; fault = fault }) →
      BrokeOne side both fault new → JoinsAs both number result new

-- A node that joins: its id and its comment.
pub record Joiner : Type 0 where
  pub id : ℕ
  pub comment : List ℕ

abbrev pub joiner : ℕ → List ℕ → Joiner
joiner id comment = record { id = id; comment = comment }

-- What the rules say of it: the two databases and their names, the event node, and the script.
pub record Stage : Type 0 where
  pub from : Place
  pub to : Place
  pub node : Node
  pub from_name : List ℕ
  pub to_name : List ℕ
  pub run : Running

abbrev pub both_of : Joiner → Stage → Both
both_of j s =
    let event = emission s.from_name s.from s.node (tells (StoreNode j.id j.comment) ∷ []) in
    record {
      from = s.from;
      to = s.to;
      event = event;
      becomes = becoming s.to_name (joining j.id (with_deeds event.deeds s.node) s.run);
    }

-- They agree with it: the one is the node, and of the cluster of the script, and the other is none.
pub record IsReady (j : Joiner) (s : Stage) (old : Pair) : Type 0 where
  pub from : Ready s.from old.from
  pub to : Ready s.to old.to
  pub is : s.from.node ≡ Some s.node
  pub none : s.to.node ≡ None
  pub cluster : s.run.cluster ≡ s.node.cluster
  pub learns : Learns s.node (next_event s.from s.node (StoreNode j.id j.comment))
  pub fresh : is_some (entry_at j.id (knowledge s.node).config.nodes) ≡ false

-- memory ran out
abbrev pub is_short : Result (ℕ × Joined) Fell → Bool
is_short (Ok x) = false
is_short (Err f) = is_memory (halt_in f.fault)

-- From all places that agree, unless there was no memory.
abbrev pub Joins : Joiner → Pair → Result (ℕ × Joined) Fell → Pair → Type 0
Joins j old result new =
    (s : Stage) → IsReady j s old → is_short result ≡ false →
    JoinsAs (both_of j s) (progress s.node.id (knowledge s.node) + 1) result new

-- ---- in the stores

-- the new node, the script, and what its store holds
pub record Newcomer : Type 0 where
  pub id : ℕ
  pub run : Running
  pub held : Store

-- the stamps of both transactions
pub record Stamps : Type 0 where
  pub from : ℕ
  pub to : ℕ

-- a number of the event node would be too big; or there was no memory, or the store failed
abbrev pub StopsEvent : Emitter → Side → Stop → Type 0
StopsEvent e From (StopTooBig space) = (space ≡ 10) × (are_late e.place e.node e.parts ≡ true)
StopsEvent e side stop = IsOutside stop

-- what is pending in both stores, or why one of them stopped
abbrev pub WritesBoth : Emitter → Newcomer → Stamps → Result (ℕ × NodeMemory) Failed → Kept → Kept → Type 0
WritesBoth e new stamps (Ok found) from to =
    WritesEvents e stamps.from (Ok found.0) from
    × WritesNode (joining new.id (behind e.place e.node e.parts) new.run) new.held stamps.to (Ok found.1) to
WritesBoth e new stamps (Err f) from to = StopsEvent e f.side f.stop

-- ---- the end of both transactions

-- the event stands, and the memory of its node goes on
pub record HasStood (stamp : ℕ) (old new : Base) : Type 0 where
  pub finishes : Finishes old.kept new.kept (Ok MadeDone)
  pub memory : new.memory ≡ record old.memory { stamp = stamp }

-- the event is in doubt
pub record IsDoubted (stamp : ℕ) (old new : Base) : Type 0 where
  pub finishes : Finishes old.kept new.kept (Ok MadeInDoubt)
  pub down : GoesDown old.memory (record new.memory { doubt = old.memory.doubt })
  pub doubt : new.memory.doubt ≡ Some stamp

-- a database whose transaction is not made
pub record IsSpared (old new : Base) : Type 0 where
  pub gives_up : GivesUp old.kept new.kept
  pub memory : new.memory ≡ old.memory

abbrev pub HaltsOne : Side → DbFault → Stamps → Pair → Pair → Type 0
HaltsOne From fault stamps old new = IsHalted old.from fault new.from × IsSpared old.to new.to
HaltsOne To fault stamps old new = HasStood stamps.from old.from new.from × IsHalted old.to fault new.to

abbrev pub EndsBoth : NodeMemory → Stamps → Pair → Result Joined Fell → Pair → Type 0
EndsBoth kept stamps old (Ok Done) new =
    HasStood stamps.from old.from new.from × Becomes kept stamps.to old.to (Ok false) new.to
EndsBoth kept stamps old (Ok EventInDoubt) new = IsDoubted stamps.from old.from new.from × IsSpared old.to new.to
EndsBoth kept stamps old (Ok NodeInDoubt) new =
    HasStood stamps.from old.from new.from × Becomes kept stamps.to old.to (Ok true) new.to
EndsBoth kept stamps old (Err f) new = HaltsOne f.side f.fault stamps old new

-- ---- with a snapshot

-- What is emitted, and the node that joins.
pub record Emitted : Type 0 where
  pub seen : Snapshot
  pub joiner : Joiner
  pub cluster : List ℕ

-- The same as `Joins`, of places whose snapshot is this one, and of a cluster of this name.
abbrev pub JoinsWith : Emitted → Pair → Result (ℕ × Joined) Fell → Pair → Type 0
JoinsWith e old result new =
    (s : Stage) → IsReady e.joiner s old → e.seen ≡ taken s.from → e.cluster ≡ s.node.cluster →
    is_short result ≡ false → JoinsAs (both_of e.joiner s) (progress s.node.id (knowledge s.node) + 1) result new
