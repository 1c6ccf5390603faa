-- What a task does to a database: from a place that fits, by a step that the rules allow, to a place that fits.
use Rattle.std.specs.Prelude.{◌⊎◌, ◌+◌, ◌≤◌, ◌≡◌, ℕ, Bool, true, false, Option, Some, None, Result, Ok, Err}
use Rattle.slon_base.specs.Charges.{KeepsTold}
use Rattle.slon_base.specs.Counts.{Rose}
use Rattle.slon_base.specs.Keeper.{Kept, Store, nothing}
use Rattle.slon_base.specs.declared.fault.Halt.{Halt}
use Rattle.slon_base.specs.declared.fault.Halt.TheVariants.{Fault, Doubt, TooBig, NoMemory}
use Rattle.slon_model.specs.declared.numbering.Numbering.{Numbering}
use Rattle.slon_model.specs.declared.numbering.Numbering.TheVariants.{Xids, Actions}
use Rattle.slon_model.specs.declared.fault.DbFault.{DbFault}
use Rattle.slon_model.specs.declared.fault.DbFault.TheVariants.{NotEmpty, Down, IsUp, Halt as Halts}
use Rattle.slon_base.specs.declared.charge.Charge.{Charge}
use Rattle.slon_base.specs.declared.charge.Charge.TheVariants.{Off, After as ChargeAfter, AtCommit as ChargeAtCommit}
use Rattle.slon_model.specs.declared.command.Crash.{Crash as CrashKind}
use Rattle.slon_model.specs.declared.command.Crash.TheVariants.{Now, After, AtCommit}
use Rattle.slon_model.specs.declared.reply.Answer.TheVariants.{Done}
use Rattle.slon_model.specs.declared.reply.Answered.{Answered}
use Rattle.slon_model.specs.declared.reply.Answered.TheVariants.{Sure, InDoubt}
use Rattle.slon_model.specs.Tasks.{Task, ToFound, ToMake, ToOpen, ToWrite, ToCommit, ToCrash, ToRise, Subject, OnOne}
use Rattle.slon_model.specs.Place.{Place, Counter, bare_place, block}
use Rattle.slon_model.specs.Moves.{stored_limit}
use Rattle.slon_model.specs.Deciding.{Choice, Takes, place_by}
use Rattle.slon_model.specs.World.{halt_in}
use Rattle.app_store.specs.Base.{Memory, Base}
use Rattle.app_store.specs.Fits.{Fits, Ready}
use Rattle.store_rows.specs.Spending.{Stays, Spends, Rests}
use Rattle.app_store.specs.Works.{HasPair}

-- ---- why a call stopped

abbrev pub halts : {T : Type 0} → Result T DbFault → Option Halt
halts (Ok x) = None
halts (Err fault) = halt_in fault

abbrev pub is_memory : Option Halt → Bool
is_memory (Some NoMemory) = true
is_memory others = false

-- a store failed, or a commit of its
abbrev pub is_failure : Option Halt → Bool
is_failure (Some (Fault count)) = true
is_failure (Some Doubt) = true
is_failure others = false

-- what is told of a store: a commit in doubt is a doubt
abbrev pub trouble : Result Answered DbFault → Option Halt
trouble (Ok (Sure answer)) = None
trouble (Ok (InDoubt answer)) = Some Doubt
trouble (Err fault) = halt_in fault

-- what a method answers, as an answer to its task
abbrev pub answered : {T : Type 0} → (T → Answered) → Result T DbFault → Result Answered DbFault
answered answer (Ok x) = Ok (answer x)
answered answer (Err fault) = Err fault

-- the same where a doubt is told as a fault
abbrev pub settled : Result (Unit {0}) DbFault → Result Answered DbFault
settled (Ok u) = Ok (Sure Done)
settled (Err (Halts Doubt)) = Ok (InDoubt Done)
settled (Err fault) = Err fault

-- ---- steps

-- what comes of a place, and a place that fits after it
abbrev pub Comes : Task → Place → Result Answered DbFault → Base → Type 0
Comes task p result new = (choice : Choice) × Takes task p choice result × Fits (place_by task p choice) new

-- From any place that fits a task leads by a step that the rules allow to a place that fits, unless there was no
-- memory.
abbrev pub Goes : Task → Base → Result Answered DbFault → Base → Type 0
Goes task old result new = (p : Place) → Ready p old → is_memory (trouble result) ≡ false → Comes task p result new

-- a task that may have a transaction of the store before its effect
abbrev pub prepares : Task → Bool
prepares (ToOpen name) = true
prepares (ToWrite w) = true
prepares ToRise = true
prepares others = false

-- A fault is told with the count of the store, which rose, and a commit is in doubt only where the store counted a
-- doubt too; no fault is told of a commit of the effect.
abbrev pub Caused : Task → Kept → Option Halt → Kept → Type 0
Caused task old (Some (Fault count)) new =
    Rose old.faults new.faults × (count ≡ new.faults) × (prepares task ≡ false → new.doubts ≡ old.doubts)
Caused task old (Some Doubt) new = Rose old.faults new.faults × Rose old.doubts new.doubts
Caused task old others new = Unit {0}

-- a task that has the store fail later, or not any more
abbrev pub arms : Task → Bool
arms (ToCrash Now) = false
arms (ToCrash later) = true
arms others = false

-- a stop at the store takes the database down
abbrev pub Falls : Option Halt → Memory → Type 0
Falls None m = Unit {0}
Falls (Some NoMemory) m = Unit {0}
Falls others m = m.up ≡ false

-- what a database that is up tells its fuse as it crashes
abbrev pub armed_by : CrashKind → Charge → Charge
armed_by Now charge = charge
armed_by (After calls keep) charge = ChargeAfter calls keep
armed_by (AtCommit keep) charge = ChargeAtCommit keep

-- what the fuse of a database is told by a task with this answer: a crash arms it, and one that was down and is to come
-- up tells it to fail no call
abbrev pub charged : Task → Result Answered DbFault → Charge → Charge
charged (ToCrash crash) (Ok (Sure answer)) charge = armed_by crash charge
charged ToRise (Err IsUp) charge = charge
charged ToRise others charge = Off
charged others result charge = charge

-- a database that is down says so, and nothing is changed
abbrev pub is_rising : Task → Bool
is_rising ToFound = true
is_rising ToRise = true
is_rising others = false

abbrev pub StaysDown : Task → Base → Result Answered DbFault → Base → Type 0
StaysDown task old result new = old.memory.up ≡ false → is_rising task ≡ false → (result ≡ Err Down) × (new ≡ old)

-- ---- the limit of stored numbers

abbrev pub counter_in : Numbering → Memory → Counter
counter_in Xids m = m.xids
counter_in Actions m = m.numbers

-- What a task may have to store that is above the limit: nothing; the stamp of one more transaction; or that or a
-- ceiling, where the next draw lifts it.
pub data Need : Type 0 where
  NeedsNothing : Need
  NeedsStamp : Need
  NeedsNext : (kind : Numbering) → Need

abbrev pub need_of : Task → Need
need_of (ToMake table columns) = NeedsStamp
need_of (ToOpen name) = NeedsNext Xids
need_of (ToWrite w) = NeedsNext Actions
need_of (ToCommit name) = NeedsStamp
need_of others = NeedsNothing

abbrev pub IsNeeded : Need → Memory → Type 0
IsNeeded NeedsNothing m = ⊥
IsNeeded NeedsStamp m = stored_limit ≤ m.stamp + 1
IsNeeded (NeedsNext kind) m =
    ((counter_in kind m).next ≡ (counter_in kind m).ceiling)
    × ((stored_limit ≤ m.stamp + 1) ⊎ (stored_limit ≤ (counter_in kind m).ceiling + block))

-- that a number is too big is said only where this holds of the database, which keeps its numbers as it goes down
abbrev pub IsBig : Need → Option Halt → Memory → Type 0
IsBig need (Some (TooBig space)) m = (space ≡ 1) × IsNeeded need m × (m.up ≡ false)
IsBig need others m = Unit {0}

-- What every method of a database promises of its task.
pub record Serves (task : Task) (old : Base) (result : Result Answered DbFault) (new : Base) : Type 0 where
  pub goes : Goes task old result new
  pub later : old.kept.faults ≤ new.kept.faults
  pub caused : Caused task old.kept (trouble result) new.kept
  -- a bound on the failures to come is kept, and a failure takes one from it
  pub still : arms task ≡ false → Stays old.kept.can_fail new.kept.can_fail
  pub spends : Spends (is_failure (trouble result)) old.kept.can_fail new.kept.can_fail
  -- a fault that the store counted is told, but for that of a rollback as the database comes up
  pub quiet : is_rising task ≡ false → is_failure (trouble result) ≡ false → Rests old.kept.faults new.kept.faults
  pub falls : Falls (trouble result) new.memory
  -- what the fuse was told goes on
  pub told : KeepsTold (charged task result old.kept.told) new.kept.told
  pub down : StaysDown task old result new
  pub big : IsBig (need_of task) (trouble result) new.memory

-- what a database promises of a command; the making of one is none of its tasks
abbrev pub ServesOn : Subject → Base → Result Answered DbFault → Base → Type 0
ServesOn (OnOne database task) old result new = Serves task old result new
ServesOn others old result new = Unit {0}

-- ---- the making of a database

-- over a store that tells that it holds nothing
abbrev pub Begins : Kept → Result Answered DbFault → Base → Type 0
Begins kept result new =
    kept.held ≡ Some nothing → is_memory (trouble result) ≡ false → Comes ToFound bare_place result new

-- the store holds a row, or it failed first, or there was no memory
abbrev pub IsRefusal : Result Answered DbFault → Type 0
IsRefusal (Ok answer) = ⊥
IsRefusal (Err fault) = (fault ≡ NotEmpty) ⊎ ((count : ℕ) × (fault ≡ Halts (Fault count))) ⊎ (fault ≡ Halts NoMemory)

-- a store that tells that it holds a pair is refused, if it does not fail first, and holds what it held
abbrev pub Rejects : Kept → Result Answered DbFault → Base → Type 0
Rejects kept result new = (m : Store) → HasPair m → kept.held ≡ Some m → IsRefusal result × (new.kept.held ≡ Some m)

pub record Founds (kept : Kept) (result : Result Answered DbFault) (new : Base) : Type 0 where
  pub begins : Begins kept result new
  pub rejects : Rejects kept result new
  pub later : kept.faults ≤ new.kept.faults
  pub caused : Caused ToFound kept (trouble result) new.kept
  pub still : Stays kept.can_fail new.kept.can_fail
  pub spends : Spends (is_failure (trouble result)) kept.can_fail new.kept.can_fail
  pub told : KeepsTold kept.told new.kept.told
  pub big : IsBig NeedsNothing (trouble result) new.memory
