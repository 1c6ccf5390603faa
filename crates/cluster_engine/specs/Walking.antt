-- What a step of a script comes to.
use Rattle.std.specs.Prelude.{◌≡◌, ◌+◌, ◌<◌, ℕ, if◌then◌else◌, Bool, true, false, List, [], ◌∷◌, length, take, drop}
use Rattle.std.specs.Prelude.{None, Result, IsOkAnd}
use Rattle.std.specs.FinMap.{insert}
use Rattle.slonik_script.specs.declared.script.Script.{Script}
use Rattle.slonik_script.specs.declared.script.Statement.{Statement}
use Rattle.slon_model.specs.declared.reply.Refusal.TheVariants as refused
use Rattle.slon_model.specs.declared.reply.Reply.{Reply}
use Rattle.slon_model.specs.declared.reply.Reply.TheVariants.{Refused}
use Rattle.slon_model.specs.Names.{Named, find_named}
use Rattle.slon_model.specs.Tasks.{Act}
use Rattle.slon_model.specs.Sessions.{World, Memory, Running, Outcome, stand, after_outcome}
use Rattle.slon_model.specs.Turns.{switches_of}
use Rattle.slon_model.specs.Scripts.{Stepping, going_on, without_script, statement_step, step_todo}
use Rattle.slon_model.specs.World.{outcome, CanFail, broken_at, wavering, doubt_reply, is_left}
use Rattle.app_store.specs.Base.{Base}
use Rattle.slonik_exec.specs.Databases.{FitsAll, AreReady}
use Rattle.cluster_engine.specs.Agreed.{Scripts, FitsRun, FitsScripts}
use Rattle.cluster_engine.specs.declared.scripts.Started.{Started}
use Rattle.cluster_engine.specs.declared.scripts.Walked.{Walked}

-- ---- what concerns no database

-- the reply that is due, no commit, and this memory
pub record IsQuietly (o : Outcome) (reply : Reply) (IsLeft : Memory → Type 0) : Type 0 where
  pub told : reply ≡ o.reply
  pub commits : o.commits ≡ []
  pub falls : o.falls ≡ None
  pub memory : IsLeft o.memory

-- scripts that agree, nothing is switched, and the same waits
pub record LeavesScripts (old : Memory) (scripts : Scripts) (new : Memory) : Type 0 where
  pub agree : FitsScripts new.scripts scripts
  pub switches : switches_of new ≡ switches_of old
  pub queues : new.queues ≡ old.queues
  pub fetches : new.fetches ≡ old.fetches

abbrev pub KeepsTo : Memory → Outcome → Reply → Scripts → Type 0
KeepsTo old o reply new = IsQuietly o reply (LeavesScripts old new)

-- from every world whose scripts agree
abbrev pub Keeps : Act → Scripts → Reply → Scripts → Type 0
Keeps act old reply new =
    (w : World) → FitsScripts w.memory.scripts old → KeepsTo w.memory (outcome act w) reply new

-- ---- a statement

-- A statement comes to what is due: it stands, and the script goes on or ends; or the store of a database failed, and
-- nothing stands; or the commit behind a number of others is in doubt, those before it stand, and those behind it are
-- not made. The script ends after a fault and after a doubt.
pub data Fares (s : Stepping) (w : World) (o : Outcome) (walked : Walked) (new : Named Base) : Type 0 where
  Stood : walked.reply ≡ o.reply →
      o.memory ≡ (if walked.goes_on then going_on s o.commits w.memory else without_script s.name w.memory) →
      FitsAll (after_outcome o w).places new → Fares s w o walked new
  Broke : (name : List ℕ) (count : ℕ) → walked.goes_on ≡ false → walked.reply ≡ Refused (refused.Fault name count) →
      is_left s.run.todo ≡ true → CanFail count (find_named name w.places) →
      FitsAll (broken_at name count (find_named name w.places) w).places new → Fares s w o walked new
  Wavered : (before : ℕ) (stands : Bool) → walked.goes_on ≡ false → before < length o.commits →
      walked.reply ≡ doubt_reply (drop before o.commits) o.reply →
      FitsAll (wavering (drop before o.commits) stands (stand (take before o.commits) w)).places new →
      Fares s w o walked new

-- the next statement of a script that runs
pub record IsNext (script : Script) (statement : Statement) (s : Stepping) : Type 0 where
  pub cluster : s.run.cluster ≡ script.cluster
  pub lines : s.run.lines ≡ script.nodes
  pub todo : s.run.todo ≡ statement ∷ s.rest

-- from all databases that agree, in every script that has this statement next
abbrev pub Walks : Script → Statement → Named Base → Walked → Named Base → Type 0
Walks script statement old walked new =
    (w : World) (s : Stepping) → AreReady w old → IsNext script statement s →
    Fares s w (statement_step s w statement) walked new

-- ---- the next statement, or the end

abbrev pub stepping : List ℕ → Running → Started → Stepping
stepping name run s = record { name = name; run = run; rest = drop (s.done + 1) s.script.statements }

abbrev pub WalksOn : Started → Named Base → Walked → Named Base → Type 0
WalksOn started old walked new =
    (w : World) (name : List ℕ) (run : Running) → AreReady w old → FitsRun run started →
    Fares (stepping name run started) w (step_todo name run run.todo w) walked new

-- A script was taken out of these, and its next statement came to that: where the script goes on, it stands among them
-- again with one statement more that was run.
abbrev pub IsPutBack : {E : Type 0} → List ℕ → Started → Scripts → Result Walked E → Reply → Scripts → Type 0
IsPutBack name started old walked reply new =
    IsOkAnd walked (λ went. (reply ≡ went.reply) × (went.goes_on ≡ false → new ≡ old) × (went.goes_on ≡ true →
    new ≡ insert old name (record { script = started.script; done = started.done + 1 })))
