-- What the calls on the databases of a session do.
use Rattle.std.specs.Prelude.{◌≡◌, ℕ, ◌+◌, ◌&&◌, if◌then◌else◌, is_some, nat_lt, Bool, true, false, List, [], ◌∷◌}
use Rattle.std.specs.Prelude.{◌++◌, not, length, Some, None, Result, Ok, Err, OnErr}
use Rattle.std.specs.FinMap.{remove}
use Rattle.std.specs.List.{AllByRecursion}
use Rattle.slon_base.specs.Counts.{Rose}
use Rattle.slon_base.specs.Keeper.{Kept}
use Rattle.slon_base.specs.declared.charge.Charge.TheVariants.{Off}
use Rattle.node_keeper.specs.Fused.{told_so}
use Rattle.slon_model.specs.declared.fault.DbFault.{DbFault}
use Rattle.slon_model.specs.declared.fault.DbFault.TheVariants.{NotEmpty}
use Rattle.slon_model.specs.declared.command.Command.{Command}
use Rattle.slon_model.specs.declared.command.Command.TheVariants.{Database}
use Rattle.slon_model.specs.declared.reply.Answer.TheVariants.{Done}
use Rattle.slon_model.specs.declared.reply.Answered.{Answered}
use Rattle.slon_model.specs.declared.reply.Refusal.TheVariants as refused
use Rattle.slon_model.specs.declared.reply.Reply.{Reply}
use Rattle.slon_model.specs.declared.reply.Reply.TheVariants.{Accepted, Refused, InDoubt}
use Rattle.slon_model.specs.Names.{find_named, put_named}
use Rattle.slon_model.specs.Tasks.{Task, Act, ToRead, ToStop, ToJoin, Subject, OnNew, OnOne, OnAll, subject_of}
use Rattle.slon_model.specs.Tasks.{words_of}
use Rattle.slon_model.specs.Deciding.{Choice, Fate}
use Rattle.slon_model.specs.World.{World, Happening, Step, due, reply_of, MayEnd, reply_by, world_by}
use Rattle.app_store.specs.Base.{Base}
use Rattle.app_store.specs.Handed.{Hands}
use Rattle.app_store.specs.Serves.{Serves, Founds, arms, is_memory, trouble, settled}
use Rattle.slonik_exec.specs.Databases.{Runs}
use Rattle.cluster_engine.specs.Agreed.{Remembered, Clustered, Agrees, AllKnown, Follows, Matches}

-- ---- commands

-- the command is for one database
abbrev pub is_one : Subject → Bool
is_one (OnOne database task) = true
is_one others = false

-- it begins a script
abbrev pub is_reading : Subject → Bool
is_reading (OnAll (ToRead name reading)) = true
is_reading others = false

-- it takes no memory
abbrev pub takes_none : Subject → Bool
takes_none (OnAll (ToStop node)) = true
takes_none (OnAll (ToJoin node other)) = true
takes_none others = false

-- the command is to make a database
abbrev pub is_making : Subject → Bool
is_making (OnNew name) = true
is_making others = false

-- it has the store of its database fail later, or not any more
abbrev pub arms_on : Subject → Bool
arms_on (OnOne database task) = arms task
arms_on others = false

abbrev pub arms_later : Command → Bool
arms_later command = arms_on (subject_of command)

abbrev pub happened : Command → Reply → Choice → Happening
happened command reply choice = record { command = command; reply = reply; choice = choice }

-- ---- a command

-- what is held at a database that came up is gone
abbrev pub recalled : List ℕ → Base → Base → Remembered → Remembered
recalled name was now r =
    record r { held = if now.memory.up && not was.memory.up then remove r.held name else r.held }

-- the first database of the name is another
abbrev pub with_base : List ℕ → Base → Base → Clustered → Clustered
with_base name was now c =
    record c { bases = put_named name now c.bases; memory = recalled name was now c.memory }

-- whether there may be a new database of the name
abbrev pub grant : List ℕ → Clustered → Reply
grant name c =
    if is_some (find_named name c.bases) then Refused (refused.NameUsed name) else
    (if nat_lt (length c.bases) c.limit then Accepted Done else Refused (refused.Full c.limit))

-- The database of a name serves the task of a command, and the reply is what it answers.
pub record IsServed (command : Command) (old : Clustered) (reply : Reply) (new : Clustered) : Type 0 where
  pub name : List ℕ
  pub task : Task
  pub before : Base
  pub behind : Base
  pub result : Result Answered DbFault
  pub about : subject_of command ≡ OnOne name task
  pub found : find_named name old.bases ≡ Some before
  pub serves : Serves task before result behind
  pub hands : Hands task before result
  pub memory : is_memory (trouble result) ≡ false
  pub told : reply ≡ reply_of (words_of (OnOne name task)) result
  pub same : new ≡ with_base name before behind old

-- what an act comes to from a world, and that a world agrees after it
pub record ActsOn (act : Act) (w : World) (reply : Reply) (new : Clustered) : Type 0 where
  pub fate : Fate
  pub may : MayEnd act fate w
  pub told : reply ≡ reply_by act fate w
  pub agrees : Matches (world_by act fate w) new

-- Scripts go on: over every store what is told of each database, and from each world that agrees what the rules allow.
pub record IsActed (act : Act) (old : Clustered) (reply : Reply) (new : Clustered) : Type 0 where
  pub runs : Runs old.bases reply new.bases
  pub limit : new.limit ≡ old.limit
  pub given : new.given ≡ old.given
  pub goes : (w : World) → Follows w old → ActsOn act w reply new
  -- what is learned was so before it
  pub learns : (w : World) → Follows w old → AllKnown w new.memory.held

-- What a command does: the making of a database is granted or refused; or no database has the name; in both cases
-- nothing is changed. Or the database of the name serves the task, the reply is what it answers, and all others stay
-- as they were. Or scripts go on.
pub data Moves (command : Command) (old : Clustered) (reply : Reply) (new : Clustered) : Type 0 where
  Grants : (name : List ℕ) → subject_of command ≡ OnNew name → reply ≡ grant name old → new ≡ old →
      Moves command old reply new
  Misses : (name : List ℕ) (task : Task) → subject_of command ≡ OnOne name task → find_named name old.bases ≡ None →
      reply ≡ Refused (refused.NoDatabase name) → new ≡ old → Moves command old reply new
  Asks : IsServed command old reply new → Moves command old reply new
  Acts : (act : Act) → subject_of command ≡ OnAll act → IsActed act old reply new → Moves command old reply new

-- a step that the rules allow, with this reply, to a world that agrees
pub record GoesOn (command : Command) (w : World) (reply : Reply) (new : Clustered) : Type 0 where
  pub choice : Choice
  pub world : World
  pub step : Step w (happened command reply choice) world
  pub agrees : Agrees world new

-- From each world that agrees a new database is granted or refused as is due, and any other command leads by a step
-- that the rules allow to a world that agrees.
abbrev pub StepsOn : Subject → Command → World → Reply → Clustered → Type 0
StepsOn (OnNew name) command w reply new = (reply ≡ due w command) × Agrees w new
StepsOn others command w reply new = GoesOn command w reply new

abbrev pub Steps : Command → Clustered → Reply → Clustered → Type 0
Steps command old reply new = (w : World) → Follows w old → StepsOn (subject_of command) command w reply new

-- From each world that agrees a command leads by a step that the rules allow to a world that agrees.
abbrev pub Obeys : Command → Clustered → Reply → Clustered → Type 0
Obeys command old reply new = (w : World) → Follows w old → GoesOn command w reply new

-- the count of faults of the database of this name rose, and it is this one
pub record FaultRose (name : List ℕ) (count : ℕ) (old new : Clustered) : Type 0 where
  pub before : Base
  pub behind : Base
  pub was : find_named name old.bases ≡ Some before
  pub is : find_named name new.bases ≡ Some behind
  pub rose : Rose before.kept.faults behind.kept.faults
  pub count_is : count ≡ behind.kept.faults

-- the counts of faults and of doubts of the database of this name rose
pub record DoubtRose (name : List ℕ) (old new : Clustered) : Type 0 where
  pub before : Base
  pub behind : Base
  pub was : find_named name old.bases ≡ Some before
  pub is : find_named name new.bases ≡ Some behind
  pub faults : Rose before.kept.faults behind.kept.faults
  pub doubts : Rose before.kept.doubts behind.kept.doubts

-- a fault or a doubt is told of a database only where its counts rose
abbrev pub ReplyCaused : Reply → Clustered → Clustered → Type 0
ReplyCaused (Refused (refused.Fault database count)) old new = FaultRose database count old new
ReplyCaused (InDoubt database answer) old new = DoubtRose database old new
ReplyCaused others old new = Unit {0}

-- the reply tells of no fault and of no doubt
abbrev pub is_sure_reply : Reply → Bool
is_sure_reply (Refused (refused.Fault database count)) = false
is_sure_reply (InDoubt database answer) = false
is_sure_reply others = true

-- no store of a database can fail
abbrev pub AllCertain : Clustered → Type 0
AllCertain c = AllByRecursion (λ b. b.1.kept.can_fail ≡ Some 0) c.bases

abbrev pub StaysCertain : Command → Clustered → Reply → Clustered → Type 0
StaysCertain command old reply new = AllCertain old →
    (is_sure_reply reply ≡ true) × (arms_later command ≡ false → AllCertain new)

-- no store of a database has counted a fault
abbrev pub AllQuiet : Clustered → Type 0
AllQuiet c = AllByRecursion (λ b. b.1.kept.faults ≡ 0) c.bases

-- where none has after a command, none had before it, and the reply tells of none
abbrev pub StaysQuiet : Reply → Clustered → Clustered → Type 0
StaysQuiet reply old new = AllQuiet new → (is_sure_reply reply ≡ true) × AllQuiet old

-- ---- the making of a database

-- what the making of a database made of its store
pub record Made (kept : Kept) (result : Result (Unit {0}) DbFault) (b : Base) : Type 0 where
  pub founds : Founds kept (settled result) b
  pub down : OnErr result (b.memory.up ≡ false)

abbrev pub making_reply : List ℕ → Result (Unit {0}) DbFault → Reply
making_reply name result = reply_of (words_of (OnNew name)) (settled result)

-- the store held a row
abbrev pub is_not_empty : DbFault → Bool
is_not_empty NotEmpty = true
is_not_empty others = false

abbrev pub was_not_empty : Result (Unit {0}) DbFault → Bool
was_not_empty (Ok u) = false
was_not_empty (Err fault) = is_not_empty fault

abbrev pub with_more : List ℕ → Base → Clustered → Clustered
with_more name b c = record c { given = c.given + 1; bases = c.bases ++ (name, b) ∷ [] }

-- a database behind the others
abbrev pub with_base_behind : List ℕ → Base → Clustered → Clustered
with_base_behind name b c = record c { bases = c.bases ++ (name, b) ∷ [] }

-- a store more was given, of which no database was made
abbrev pub with_given : Clustered → Clustered
with_given c = record c { given = c.given + 1 }

-- what is told of a store behind a fuse that is told to fail no call
abbrev pub fused : Kept → Kept
fused kept = told_so Off kept.can_fail kept

-- A database over a store that holds a row is refused, and not kept. Any other is kept behind the others, and is down
-- unless it was made.
pub data Adopts (name : List ℕ) (kept : Kept) (old : Clustered) (reply : Reply) (new : Clustered) : Type 0 where
  Rejects : (b : Base) → Made (fused kept) (Err NotEmpty) b → reply ≡ Refused (refused.NotEmpty name) →
      new ≡ with_given old →
      Adopts name kept old reply new
  Keeps : (b : Base) (result : Result (Unit {0}) DbFault) → Made (fused kept) result b →
      is_memory (trouble (settled result)) ≡ false →
      was_not_empty result ≡ false → reply ≡ making_reply name result → new ≡ with_more name b old →
      Adopts name kept old reply new

-- From each world that agrees and grants the database its making is a step that the rules allow.
abbrev pub Makes : List ℕ → Clustered → Reply → Clustered → Type 0
Makes name old reply new = (w : World) → Agrees w old → due w (Database name) ≡ Accepted Done →
    GoesOn (Database name) w reply new

-- a fault or a doubt is told of the new database only where the counts of its store rose
abbrev pub MakingReplyCaused : List ℕ → Kept → Reply → Clustered → Clustered → Type 0
MakingReplyCaused name kept (Refused (refused.Fault database count)) old new =
    (database ≡ name) × (b : Base) × (new ≡ with_more name b old) × Rose kept.faults b.kept.faults
    × (count ≡ b.kept.faults)
MakingReplyCaused name kept (InDoubt database answer) old new =
    (database ≡ name) × (b : Base) × (new ≡ with_more name b old) × Rose kept.faults b.kept.faults
    × Rose kept.doubts b.kept.doubts
MakingReplyCaused name kept others old new = Unit {0}

abbrev pub MakesCertain : Kept → Clustered → Reply → Clustered → Type 0
MakesCertain kept old reply new = kept.can_fail ≡ Some 0 →
    (is_sure_reply reply ≡ true) × (AllCertain old → AllCertain new)
