-- What an order of a script comes to on the databases of a session.
use Rattle.std.specs.Prelude.{◌≡◌, ◌<◌, ℕ, Bool, true, List, length, take, drop, Option, Some, None, Result, Ok, Err}
use Rattle.slon_model.specs.declared.reply.Refusal.{Refusal}
use Rattle.slon_model.specs.declared.reply.Refusal.TheVariants as refused
use Rattle.slon_model.specs.declared.reply.Reply.{Reply}
use Rattle.slon_model.specs.declared.reply.Reply.TheVariants.{Accepted, Refused}
use Rattle.slon_model.specs.Names.{Named, find_named}
use Rattle.slon_model.specs.Reaching.{any_down}
use Rattle.slon_model.specs.Sessions.{World, Running, Stated, Excess, stood, stand, felled, excess_of, first_refusal}
use Rattle.slon_model.specs.World.{CanFail, broken_at, wavering, doubt_reply}
use Rattle.app_store.specs.Base.{Base}
use Rattle.slonik_exec.specs.Databases.{FitsAll, AreReady, TriesAll, Runs}
use Rattle.slonik_exec.specs.Heard.{AreSame, BreaksDown}
use Rattle.slonik_exec.specs.Reached.{Addresses}

-- What a statement comes to that the rules answer so: it is refused; its commits stand; a number of one of them would
-- be too big; the store of one database failed, and none stands; or the commit behind a number of others is in doubt,
-- those before it stand, and those behind it are not made.
pub data Comes (w : World) (due : Result Stated Refusal) (reply : Reply) (new : Named Base) : Type 0 where
  Refuses : (refusal : Refusal) → due ≡ Err refusal → reply ≡ Refused refusal → FitsAll w.places new →
      Comes w due reply new
  Stands : (stated : Stated) → due ≡ Ok stated → excess_of stated.commits w.places ≡ None →
      reply ≡ Accepted stated.answer → FitsAll (stood stated.commits w.places) new → Comes w due reply new
  Bursts : (stated : Stated) (e : Excess) → due ≡ Ok stated → excess_of stated.commits w.places ≡ Some e →
      reply ≡ Refused (refused.TooBig e.space) → FitsAll (felled (Some e.name) w).places new → Comes w due reply new
  Breaks : (name : List ℕ) (count : ℕ) → reply ≡ Refused (refused.Fault name count) →
      CanFail count (find_named name w.places) → FitsAll
      (broken_at name count (find_named name w.places) w).places new →
      Comes w due reply new
  Wavers : (stated : Stated) (before : ℕ) (stands : Bool) → due ≡ Ok stated →
      excess_of stated.commits w.places ≡ None → before < length stated.commits →
      reply ≡ doubt_reply (drop before stated.commits) (Accepted stated.answer) →
      FitsAll (wavering (drop before stated.commits) stands (stand (take before stated.commits) w)).places new →
      Comes w due reply new

-- From all databases that agree, for every script of this cluster with these NODE lines.
abbrev pub Executes : Addresses → (Running → World → Result Stated Refusal) → Named Base → Reply → Named Base → Type 0
Executes caller due old reply new =
    (w : World) (run : Running) → AreReady w old → run.lines ≡ caller.lines → run.cluster ≡ caller.cluster →
    Comes w (due run w) reply new

-- ---- checks

-- The statement ends here: it is refused by the first check that refuses it; or the store of a database failed.
pub data EndsIn (w : World) (checks : List (Option Refusal)) (reply : Reply) (new : Named Base) : Type 0 where
  RefusedIn : (refusal : Refusal) → first_refusal checks ≡ Some refusal → reply ≡ Refused refusal →
      FitsAll w.places new → EndsIn w checks reply new
  BrokenIn : BreaksDown w reply new → EndsIn w checks reply new

-- no check refuses it, or it ends
abbrev pub ChecksIn : World → List (Option Refusal) → Option Reply → Named Base → Type 0
ChecksIn w checks None new = (first_refusal checks ≡ None) × FitsAll w.places new
ChecksIn w checks (Some reply) new = EndsIn w checks reply new

-- from all databases that agree and whose nodes are up
abbrev pub ChecksAll : (World → List (Option Refusal)) → Named Base → Option Reply → Named Base → Type 0
ChecksAll checks old found new = (w : World) → AreReady w old → any_down w ≡ None → ChecksIn w (checks w) found new

-- over every store: nothing failed, and all is kept as it was; or the reply tells what did
abbrev pub RunsFound : Named Base → Option Reply → Named Base → Type 0
RunsFound old None new = TriesAll true None old new × AreSame old new
RunsFound old (Some reply) new = Runs old reply new
