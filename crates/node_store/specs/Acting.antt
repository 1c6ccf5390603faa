-- What a step on several databases does to one of them: one transaction of its store, with a commit.
use Rattle.std.specs.Prelude.{◌≡◌, ℕ, ◌+◌, ◌<◌, ◌≤◌, ◌⊎◌, ◌||◌, if◌then◌else◌, Bool, true, false, List, [], ◌∷◌, length}
use Rattle.std.specs.Prelude.{map, is_some, Option, Some, None, Result, Ok, Err, unwrap_or, option_map}
use Rattle.std.specs.FinMap.{get}
use Rattle.slon_base.specs.Charges.{KeepsTold}
use Rattle.slon_base.specs.Keeper.{Store, Kept, put_at}
use Rattle.slon_base.specs.Codec.{number_bytes}
use Rattle.slon_base.specs.declared.fault.Halt.{Halt as HaltOf}
use Rattle.slon_base.specs.declared.fault.Halt.TheVariants.{TooBig}
use Rattle.slon_model.specs.declared.fault.DbFault.{DbFault}
use Rattle.slon_model.specs.declared.fault.DbFault.TheVariants.{Halt}
use Rattle.slon_model.specs.declared.reply.Answer.{Answer}
use Rattle.slon_model.specs.declared.reply.Answer.TheVariants.{Done, Emitted}
use Rattle.slon_model.specs.declared.reply.Answered.{Answered}
use Rattle.slon_model.specs.declared.reply.Answered.TheVariants.{Sure, InDoubt}
use Rattle.node_rows.specs.declared.body.Body.{Body}
use Rattle.slon_model.specs.Snapshots.{Snapshot}
use Rattle.slon_model.specs.Events.{Event}
use Rattle.slon_model.specs.Deeds.{Node, Deed, Doing, Emits, Hears, brought_in, knowledge, progress}
use Rattle.slon_model.specs.Deeds.{with_deeds}
use Rattle.slon_model.specs.Place.{Place, fallen, taken, deed}
use Rattle.slon_model.specs.Moves.{is_last_stamp}
use Rattle.slon_model.specs.Membership.{becoming, first_of_cluster}
use Rattle.slon_model.specs.Reaching.{commit_of, emitting}
use Rattle.slon_model.specs.Sessions.{Commit, Emission, Running, committing, in_doubt, has_late, is_late, seat}
use Rattle.slon_model.specs.Tasks.{Task, ToCommit}
use Rattle.store_rows.specs.Spending.{Stays, Spends, Rests}
use Rattle.store_rows.specs.Space.{IsPending}
use Rattle.store_rows.specs.Steps.{IsOutside}
use Rattle.store_rows.specs.declared.stop.Stop.{Stop}
use Rattle.store_rows.specs.declared.stop.Stop.TheVariants.{TooBig as StopTooBig}
use Rattle.node_change.specs.Becoming.{IsNode}
use Rattle.node_change.specs.Done.{HasDone}
use Rattle.node_state.specs.declared.memory.NodeMemory.{NodeMemory}
use Rattle.node_state.specs.declared.memory.Identity.{Identity}
use Rattle.node_state.specs.Held.{HoldsNode, is_own}
use Rattle.node_state.specs.declared.memory.Member.{Member}
use Rattle.node_state.specs.declared.memory.Members.{Members}
use Rattle.node_state.specs.Known.{IsKnown, Learns, learned_member, learned_name}
use Rattle.app_store.specs.Base.{Base, Memory}
use Rattle.app_store.specs.Fits.{Fits, Ready}
use Rattle.app_store.specs.Parts.{FellTo}
use Rattle.app_store.specs.Serves.{Caused, Falls, IsNeeded, NeedsStamp, is_failure, is_memory, trouble}
use Rattle.app_store.specs.Spelled.{meta, stamp_key}

-- a task that makes one transaction of the store and nothing before it, as such a step does
abbrev pub acting : Task
acting = ToCommit []

-- A number that is too big is that of an event, or the stamp; and the database is down.
abbrev pub IsTooBig : Option HaltOf → Memory → Type 0
IsTooBig (Some (TooBig space)) m = ((space ≡ 10) ⊎ ((space ≡ 1) × IsNeeded NeedsStamp m)) × (m.up ≡ false)
IsTooBig others m = Unit {0}

-- What is promised over every store of work on a database with this trouble at its store.
pub record Tries (trouble : Option HaltOf) (old new : Base) : Type 0 where
  pub later : old.kept.faults ≤ new.kept.faults
  pub caused : Caused acting old.kept trouble new.kept
  pub sure : is_failure trouble ≡ false → new.kept.doubts ≡ old.kept.doubts
  pub still : Stays old.kept.can_fail new.kept.can_fail
  pub spends : Spends (is_failure trouble) old.kept.can_fail new.kept.can_fail
  pub falls : Falls trouble new.memory
  pub told : KeepsTold old.kept.told new.kept.told
  pub big : IsTooBig trouble new.memory

-- And that it counts no fault where none is told.
pub record Acts (trouble : Option HaltOf) (old new : Base) : Type 0 where
  pub tries : Tries trouble old new
  pub quiet : is_failure trouble ≡ false → Rests old.kept.faults new.kept.faults

-- the space in which the commit would store a number above the limit, if there is one
abbrev pub excess_at : Commit → Place → Option ℕ
excess_at c p = if is_last_stamp p then Some 1 else (if has_late c.deeds then Some 10 else None)

-- What came of a commit: it stands; or it is in doubt, and stands or not; or a number of it would be too big; or the
-- store failed, and it does not stand.
pub data ActsAs (c : Commit) (answer : Answer) (p : Place) (result : Result Answered DbFault) (new : Base) : Type 0
  where
    Stood : result ≡ Ok (Sure answer) → excess_at c p ≡ None → Fits (committing c p) new →
        ActsAs c answer p result new
    Wavered : (stands : Bool) → result ≡ Ok (InDoubt answer) → excess_at c p ≡ None →
        Fits (in_doubt c stands p) new → ActsAs c answer p result new
    Burst : (space : ℕ) → result ≡ Err (Halt (TooBig space)) → excess_at c p ≡ Some space →
        Fits (fallen p.told p) new → ActsAs c answer p result new
    Broke : (fault : DbFault) → result ≡ Err fault → is_last_stamp p ≡ false → FellTo p p fault new →
        ActsAs c answer p result new

-- A node that is made.
pub record NewNode : Type 0 where
  pub id : ℕ
  pub cluster : List ℕ
  pub comment : List ℕ

abbrev pub node_of : ℕ → List ℕ → List ℕ → NewNode
node_of id cluster comment = record { id = id; cluster = cluster; comment = comment }

-- ---- events

-- the id of the node that is kept
abbrev pub own_id : Option Identity → ℕ
own_id identity = unwrap_or (option_map (λ i. i.id) identity) 0

-- what the emission of an event answers
abbrev pub emitted : ℕ → ℕ × Bool → Answered
emitted own e = if e.1 then InDoubt (Emitted own e.0) else Sure (Emitted own e.0)

-- the next event of a node, with this body
abbrev pub next_event : Place → Node → Body → Event
next_event p n body =
    record { origin = n.id; number = progress n.id (knowledge n) + 1; taken = taken p; body = body }

-- the deed by which a node emits that, with the rows that tables get
abbrev pub emitting_deed : Place → Node → Emission → Deed
emitting_deed p n m = deed p m.rows [] (Emits (next_event p n m.body))

-- the node behind these events, one after the other
abbrev pub behind : Place → Node → List Emission → Node
behind p n [] = n
behind p n (m ∷ ms) = behind p (with_deeds (emitting_deed p n m ∷ []) n) ms

-- the number of one of them is above the limit
abbrev pub are_late : Place → Node → List Emission → Bool
are_late p n [] = false
are_late p n (m ∷ ms) =
    is_late (Some (next_event p n m.body)) || are_late p (with_deeds (emitting_deed p n m ∷ []) n) ms

-- the node learns no more of each of them than its body says
abbrev pub LearnsAll : Place → Node → List Emission → Type 0
LearnsAll p n [] = Unit {0}
LearnsAll p n (m ∷ ms) =
    Learns n (next_event p n m.body) × LearnsAll p (with_deeds (emitting_deed p n m ∷ []) n) ms

-- what is kept of a table of a set behind events with these bodies, one after the other
abbrev pub learned_member_all : List Body → List ℕ → Option Member → Option Member
learned_member_all [] name before = before
learned_member_all (body ∷ more) name before = learned_member_all more name (learned_member body name before)

abbrev pub learned_name_all : List Body → List ℕ → Bool → Bool
learned_name_all [] name before = before
learned_name_all (body ∷ more) name before = learned_name_all more name (learned_name body name before)

-- the tables of sets are kept as such events change them
pub record HasLearned (bodies : List Body) (old new : Members) : Type 0 where
  pub members : (name : List ℕ) → get new.live name ≡ learned_member_all bodies name (get old.live name)
  pub names : (name : List ℕ) →
      is_some (get new.names name) ≡ learned_name_all bodies name (is_some (get old.names name))

abbrev pub bodies_in : List Emission → List Body
bodies_in ms = map (λ m. m.body) ms

abbrev pub emission : List ℕ → Place → Node → List Emission → Commit
emission name p n ms = commit_of (seat name p n) ms

-- From every place that fits, whose node learns no more of these events than that: they are emitted in one commit.
abbrev pub Announces : List Body → Base → Result Answered DbFault → Base → Type 0
Announces bodies old result new =
    (p : Place) (n : Node) → Ready p old → p.node ≡ Some n → is_memory (trouble result) ≡ false →
    (name : List ℕ) (ms : List Emission) → bodies_in ms ≡ bodies → LearnsAll p n ms →
    ActsAs (emission name p n ms) (emitting (seat name p n) ms).answer p result new

-- the same of a place whose snapshot is this one
abbrev pub AnnouncesAt : Snapshot → List Body → Base → Result Answered DbFault → Base → Type 0
AnnouncesAt seen bodies old result new =
    (p : Place) (n : Node) → Ready p old → p.node ≡ Some n → is_memory (trouble result) ≡ false →
    seen ≡ taken p → (name : List ℕ) (ms : List Emission) → bodies_in ms ≡ bodies → LearnsAll p n ms →
    ActsAs (emission name p n ms) (emitting (seat name p n) ms).answer p result new

-- ---- new nodes

-- what a database answers that becomes a node
abbrev pub joined : Bool → Answered
joined doubt = if doubt then InDoubt Done else Sure Done

-- From every place that fits and is no node: it becomes the first node of a cluster of this name, in one commit.
abbrev pub FoundsNode : NewNode → Base → Result Answered DbFault → Base → Type 0
FoundsNode w old result new =
    (p : Place) → Ready p old → p.node ≡ None → is_memory (trouble result) ≡ false → (name : List ℕ) (run : Running) →
    run.cluster ≡ w.cluster → ActsAs (becoming name (first_of_cluster w.id w.comment run)) Done p result new

-- what is pending behind that, with the next stamp and what is kept of the node; or there was no memory, or the store
-- failed
abbrev pub WritesNode : Node → Store → ℕ → Result NodeMemory Stop → Kept → Type 0
WritesNode n m stamp (Ok kept) new =
    (store : Store) × (new.pending ≡ Some (Some (put_at meta stamp_key (number_bytes stamp) store))) × IsNode n m store
    × IsKnown (Some n) kept.identity kept.members
WritesNode n m stamp (Err stop) new = IsOutside stop

-- the same, of what is pending before it is kept
abbrev pub KeepsNode : Node → Store → List ℕ → Result NodeMemory Stop → Kept → Type 0
KeepsNode n store stamp (Ok kept) new =
    (new.pending ≡ Some (Some (put_at meta stamp_key stamp store))) × IsKnown (Some n) kept.identity kept.members
KeepsNode n store stamp (Err stop) new = IsOutside stop

-- ---- events in a store

-- The store holds the node behind these events, of which the last one has this number, and the spaces of the database
-- are as before.
pub record HasEmittedAll (p : Place) (n : Node) (ms : List Emission) (number : ℕ) (m new : Store) : Type 0 where
  pub held : HoldsNode (Some (behind p n ms)) new
  pub own : (space : ℕ) → is_own space ≡ true → new space ≡ m space
  pub small : are_late p n ms ≡ false
  pub number_is : number ≡ progress n.id (knowledge (behind p n ms))

-- What a node emits: the place, the node, its events, and what its store holds before them.
pub record Emitter : Type 0 where
  pub place : Place
  pub node : Node
  pub parts : List Emission
  pub held : Store

-- these are its bodies, its snapshot and its id, and it learns no more of them
pub record IsTold (own : ℕ) (seen : Snapshot) (bodies : List Body) (e : Emitter) : Type 0 where
  pub own_is : e.node.id ≡ own
  pub seen_is : seen ≡ taken e.place
  pub bodies_are : bodies_in e.parts ≡ bodies
  pub some : 0 < length e.parts
  pub learns : LearnsAll e.place e.node e.parts
  pub holds : HoldsNode (Some e.node) e.held

-- what is pending behind its events; or a number would be too big; or there was no memory, or the store failed
abbrev pub EmitsEach : Emitter → Result ℕ Stop → Kept → Type 0
EmitsEach e (Ok number) new = IsPending (HasEmittedAll e.place e.node e.parts number e.held) new
EmitsEach e (Err (StopTooBig space)) new = (space ≡ 10) × (are_late e.place e.node e.parts ≡ true)
EmitsEach e (Err stop) new = IsOutside stop

-- the same with the next stamp
abbrev pub WritesEvents : Emitter → ℕ → Result ℕ Stop → Kept → Type 0
WritesEvents e stamp (Ok number) new =
    (store : Store) × (new.pending ≡ Some (Some (put_at meta stamp_key (number_bytes stamp) store)))
    × HasEmittedAll e.place e.node e.parts number e.held store
WritesEvents e stamp (Err (StopTooBig space)) new = (space ≡ 10) × (are_late e.place e.node e.parts ≡ true)
WritesEvents e stamp (Err stop) new = IsOutside stop

-- ---- one thing that a node does, by which it gives tables no rows of its own

-- what is pending behind it, with the next stamp; or there was no memory, or the store failed
abbrev pub WritesAs : (Store → Type 0) → ℕ → Result (Unit {0}) Stop → Kept → Type 0
WritesAs P stamp (Ok u) new =
    (store : Store) × (new.pending ≡ Some (Some (put_at meta stamp_key (number_bytes stamp) store))) × P store
WritesAs P stamp (Err stop) new = IsOutside stop

abbrev pub WritesDone : Node → Store → Doing → ℕ → Result (Unit {0}) Stop → Kept → Type 0
WritesDone n m doing = WritesAs (HasDone n doing m)

abbrev pub does : List ℕ → Place → Doing → Commit
does name p doing = record { name = name; becomes = None; deeds = deed p [] (brought_in doing).logs doing ∷ [] }

-- From every place that fits and is a node: it hears these confirmations, in one commit.
abbrev pub HearsAll : List (ℕ × ℕ × ℕ) → Base → Result Answered DbFault → Base → Type 0
HearsAll confirms old result new =
    (p : Place) (n : Node) → Ready p old → p.node ≡ Some n → is_memory (trouble result) ≡ false → (name : List ℕ) →
    ActsAs (does name p (Hears confirms)) Done p result new
