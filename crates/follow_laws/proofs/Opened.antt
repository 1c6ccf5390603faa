-- A write that a database accepts is on no table that its node keeps.
use Rattle.std.proofs.Common.{◌≡◌, ℕ, Bool, true, false, cond, Option, Some, None, refl, not, is_some}
use Rattle.std.specs.Prelude.{◌==◌}
use Rattle.std.specs.FinMap.{get}
use Rattle.slon_model.specs.declared.command.Crash.TheVariants.{Now, After, AtCommit}
use Rattle.slon_model.specs.declared.fault.DbFault.{DbFault}
use Rattle.slon_model.specs.declared.fault.DbFault.TheVariants.{BadWidth, Locked, NoTable, NoTransaction}
use Rattle.slon_model.specs.declared.reply.Answer.TheVariants.{Acted}
use Rattle.slon_model.specs.Names.{find_named}
use Rattle.slon_model.specs.Rows.{Change, Put, Remove, Row, Set, change_key}
use Rattle.slon_model.specs.Tasks.{Write, Task, ToFound, ToMake, ToOpen, ToWrite, ToCommit, ToAbort, ToList, ToTell}
use Rattle.slon_model.specs.Tasks.{ToCrash, ToRise}
use Rattle.slon_model.specs.Place.{Place, Standing, IsRunning, IsFallen, IsDoubtful, holder, seen_rows}
use Rattle.slon_model.specs.Moves.{Move, Writes, is_beyond}
use Rattle.slon_model.specs.Deciding.{Decision, Refuses, Accepts, Overflows, limited, refused_if, with_found, fits}
use Rattle.slon_model.specs.Deciding.{by_row, closed_at, decide, decide_by, decide_down, decide_row, decide_up}
use Rattle.slon_model.specs.Deciding.{decide_write, move_of, unless_closed, unless_held}

-- a write is on no closed table
abbrev pub IsOpenMove : Place → Move → Type 0
IsOpenMove p (Writes xid table change) = closed_at table p.node ≡ None
IsOpenMove p others = Unit {0}

abbrev IsOpen : Place → Decision → Type 0
IsOpen p (Accepts answer move) = IsOpenMove p move
IsOpen p others = Unit {0}

unless : (p : Place) (b : Bool) (fault : DbFault) (d : Decision) → IsOpen p d → IsOpen p (refused_if b fault d)
unless p true fault d is = tt
unless p false fault d is = is

when_found : {X : Type 0} (p : Place) (o : Option X) (fault : DbFault) (go : X → Decision) →
    ((x : X) → IsOpen p (go x)) → IsOpen p (with_found o fault go)
when_found p None fault go each = tt
when_found p (Some x) fault go each = each x

held : (p : Place) (xid : ℕ) (o : Option ℕ) (d : Decision) → IsOpen p d → IsOpen p (unless_held xid o d)
held p xid None d is = is
held p xid (Some other) d is = unless p (not (other == xid)) (Locked other) d is

rowed : (p : Place) (change : Change) (d : Decision) (o : Option Row) → IsOpen p d → IsOpen p (by_row change d o)
rowed p (Put key row) d None is = is
rowed p (Put key row) d (Some old) is = tt
rowed p (Set key columns) d None is = tt
rowed p (Set key columns) d (Some old) is = is
rowed p (Remove key) d None is = tt
rowed p (Remove key) d (Some old) is = is

closed : (p : Place) (o : Option DbFault) (d : Decision) → (o ≡ None → IsOpen p d) → IsOpen p (unless_closed o d)
closed p None d is = is refl
closed p (Some fault) d is = tt

open_write : (w : Write) (p : Place) → IsOpen p (decide_write w p)
open_write w p =
    when_found p (find_named w.name p.opens) NoTransaction _ (λ xid.
    when_found p (find_named w.table p.tables) NoTable _ (λ width.
    unless p (not (fits w.change width)) (BadWidth width) _
    (closed p (closed_at w.table p.node) (decide_row xid w p) (λ none.
    held p xid (holder w.table (change_key w.change) p) _
    (rowed p w.change (Accepts (Acted p.numbers.next) (Writes xid w.table w.change))
    (get (seen_rows xid p w.table) (change_key w.change)) none)))))

open_up : (task : Task) (p : Place) → IsOpen p (decide_up task p)
open_up (ToMake table columns) p = unless p (is_some (find_named table p.tables)) _ _ tt
open_up (ToOpen name) p = unless p (is_some (find_named name p.opens)) _ _ tt
open_up (ToWrite w) p = open_write w p
open_up (ToCommit name) p = when_found p (find_named name p.opens) _ _ (λ xid. tt)
open_up (ToAbort name) p = when_found p (find_named name p.opens) _ _ (λ xid. tt)
open_up (ToList table) p = when_found p (find_named table p.tables) _ _ (λ width. tt)
open_up ToTell p = tt
open_up (ToCrash Now) p = tt
open_up (ToCrash (After calls keep)) p = tt
open_up (ToCrash (AtCommit keep)) p = tt
open_up ToFound p = tt
open_up ToRise p = tt

open_down : (task : Task) (p : Place) (s : Standing) → IsOpen p (decide_down task s)
open_down ToFound p s = tt
open_down ToRise p s = tt
open_down others p s = tt

open_by : (s : Standing) (task : Task) (p : Place) → IsOpen p (decide_by s task p)
open_by IsRunning task p = open_up task p
open_by IsFallen task p = open_down task p IsFallen
open_by (IsDoubtful stands) task p = open_down task p (IsDoubtful stands)

limited_open : (p : Place) (d : Decision) → IsOpen p d → IsOpen p (limited p d)
limited_open p (Accepts answer move) is =
    elim (is_beyond move p) as (λ b. IsOpen p (cond b Overflows (Accepts answer move))) [
      | true ↦ tt
      | false ↦ is
    ]
limited_open p (Refuses fault) is = tt
limited_open p Overflows is = tt

-- the move that a database decides on
pub open_move : (task : Task) (p : Place) → IsOpenMove p (move_of (decide task p))
open_move task p = by (decide task p) (limited_open p (decide_by p.standing task p) (open_by p.standing task p))
  where
    by : (d : Decision) → IsOpen p d → IsOpenMove p (move_of d)
    by (Accepts answer move) is = is
    by (Refuses fault) is = tt
    by Overflows is = tt
