-- What a statement comes to that does all its work at one database, which is a node.
use Rattle.std.specs.Prelude.{◌≡◌, ◌==◌, ℕ, Bool, false, List, [], ◌∷◌, Option, Some, None, Result, Ok, Err}
use Rattle.slon_base.specs.Counts.{Rose}
use Rattle.slon_base.specs.declared.fault.Halt.{Halt as HaltOf}
use Rattle.slon_model.specs.declared.reply.Answer.{Answer}
use Rattle.slon_model.specs.declared.reply.Refusal.{Refusal}
use Rattle.slon_model.specs.declared.reply.Refusal.TheVariants as refused
use Rattle.slon_model.specs.declared.reply.Reply.{Reply}
use Rattle.slon_model.specs.declared.reply.Reply.TheVariants.{Accepted, Refused, InDoubt}
use Rattle.slon_model.specs.Deeds.{Node}
use Rattle.slon_model.specs.Place.{Place, fallen}
use Rattle.slon_model.specs.Sessions.{Seat, Stated, Commit, committing, in_doubt, seat, first_refusal}
use Rattle.node_state.specs.declared.memory.Identity.{Identity}
use Rattle.app_store.specs.Base.{Base}
use Rattle.app_store.specs.Fits.{Fits, Ready}
use Rattle.node_store.specs.Acting.{Acts, excess_at}
use Rattle.slonik_exec.specs.Databases.{told_by, trouble_here}

-- ---- over every store

-- what a reply tells of the store of a database
abbrev pub trouble_in : List ℕ → Reply → Option HaltOf
trouble_in name reply = trouble_here (told_by reply) name

-- No reply tells of another database than this one.
abbrev pub IsOf : List ℕ → Reply → Type 0
IsOf name reply = (other : List ℕ) (halt : HaltOf) → told_by reply ≡ Some (other, halt) → other ≡ name

-- what is promised of work at the database of this name that ends with this reply
pub record Answers (name : List ℕ) (old : Base) (reply : Reply) (new : Base) : Type 0 where
  pub acts : Acts (trouble_in name reply) old new
  pub own : IsOf name reply

-- ---- by the rules

-- one commit of this database
pub record OneCommit (name : List ℕ) (due : Result Stated Refusal) (answer : Answer) (c : Commit) : Type 0 where
  pub is : due ≡ Ok (record { answer = answer; commits = c ∷ [] })
  pub named : c.name ≡ name

-- It is refused; its one commit stands; a number of that would be too big; the store failed, and it does not stand; or
-- it is in doubt.
pub data ComesAt (name : List ℕ) (p : Place) (due : Result Stated Refusal) (reply : Reply) (new : Base) : Type 0 where
  RefusesAt : (refusal : Refusal) → due ≡ Err refusal → reply ≡ Refused refusal → Fits p new →
      ComesAt name p due reply new
  StandsAt : (answer : Answer) (c : Commit) → OneCommit name due answer c → excess_at c p ≡ None →
      reply ≡ Accepted answer → Fits (committing c p) new → ComesAt name p due reply new
  BurstsAt : (answer : Answer) (c : Commit) (space : ℕ) → OneCommit name due answer c → excess_at c p ≡ Some space →
      reply ≡ Refused (refused.TooBig space) → Fits (fallen p.told p) new → ComesAt name p due reply new
  BreaksAt : (count : ℕ) → reply ≡ Refused (refused.Fault name count) → Rose p.told count →
      Fits (fallen count p) new → ComesAt name p due reply new
  WaversAt : (answer : Answer) (c : Commit) (stands : Bool) → OneCommit name due answer c →
      excess_at c p ≡ None → reply ≡ InDoubt name answer → Fits (in_doubt c stands p) new →
      ComesAt name p due reply new

-- from every place that is this node
abbrev pub AtNode : List ℕ → (Seat → Result Stated Refusal) → Base → Reply → Base → Type 0
AtNode name due old reply new =
    (p : Place) (n : Node) → Ready p old → p.node ≡ Some n → ComesAt name p (due (seat name p n)) reply new

-- ---- checks

-- the memory of a database says that it is the node of this id
abbrev pub is_id : ℕ → Option Identity → Bool
is_id id None = false
is_id id (Some own) = id == own.id

-- The statement ends here: it is refused by the first check that refuses it; or the store failed.
pub data EndsAt (name : List ℕ) (p : Place) (checks : List (Option Refusal)) (reply : Reply) (new : Base) : Type 0 where
  RefusedAt : (refusal : Refusal) → first_refusal checks ≡ Some refusal → reply ≡ Refused refusal → Fits p new →
      EndsAt name p checks reply new
  BrokenAt : (count : ℕ) → reply ≡ Refused (refused.Fault name count) → Rose p.told count → Fits (fallen count p) new →
      EndsAt name p checks reply new

-- no check refuses it, or it ends
abbrev pub ChecksAt : List ℕ → Place → List (Option Refusal) → Option Reply → Base → Type 0
ChecksAt name p checks None new = (first_refusal checks ≡ None) × Fits p new
ChecksAt name p checks (Some reply) new = EndsAt name p checks reply new

abbrev pub AtSeat : List ℕ → (Seat → List (Option Refusal)) → Base → Option Reply → Base → Type 0
AtSeat name checks old found new =
    (p : Place) (n : Node) → Ready p old → p.node ≡ Some n → ChecksAt name p (checks (seat name p n)) found new

-- over every store: nothing failed, and all is kept as it was; or the reply tells what did
abbrev pub Checks : List ℕ → Base → Option Reply → Base → Type 0
Checks name old None new = Acts None old new × (new.memory ≡ old.memory)
Checks name old (Some reply) new = Answers name old reply new
