-- Each decision has an allowed move, and an answer below the next numbers after it.
use Rattle.std.proofs.Common.{◌≡◌, ℕ, Bool, true, false, cond, Option, Some, None, is_some, refl}
use Rattle.std.proofs.Common.{arith}
use Rattle.std.specs.Prelude.{◌==◌, not}
use Rattle.std.specs.FinMap.{get}
use Rattle.std.proofs.lemmas.Bool.{true≢false, eqb-true}
use Rattle.slon_model.specs.declared.command.Crash.TheVariants.{Now, After, AtCommit}
use Rattle.slon_model.specs.declared.fault.DbFault.{DbFault}
use Rattle.slon_model.specs.declared.fault.DbFault.TheVariants.{NoTable, NoTransaction, BadWidth, Locked}
use Rattle.slon_model.specs.declared.reply.Answer.{Answer}
use Rattle.slon_model.specs.declared.reply.Answer.TheVariants.{Acted}
use Rattle.slon_model.specs.declared.numbering.Numbering.{Numbering}
use Rattle.slon_model.specs.declared.numbering.Numbering.TheVariants.{Xids, Actions}
use Rattle.slon_model.specs.Names.{find_named}
use Rattle.slon_model.specs.Rows.{Row, Change, Put, Set, Remove, change_key}
use Rattle.slon_lemmas.proofs.Tests.{none_of}
use Rattle.slon_model.specs.Tasks.{Write, Task, ToFound, ToMake, ToOpen, ToWrite, ToCommit, ToAbort, ToList, ToTell}
use Rattle.slon_model.specs.Tasks.{ToCrash, ToRise}
use Rattle.slon_model.specs.Deeds.{Node}
use Rattle.slon_model.specs.Place.{Place, Standing, IsRunning, IsFallen, IsDoubtful, counter, with_counter, lifted}
use Rattle.slon_model.specs.Place.{stamped, raised, holder, seen_rows}
use Rattle.slon_model.specs.Moves.{Move, Writes, done, is_beyond}
use Rattle.slon_model.specs.Deciding.{Decision, Refuses, Accepts, Overflows, limited, refused_if, with_found, fits}
use Rattle.slon_model.specs.Deciding.{unless_held, by_row, decide_row, decide_write, decide_up, decide_down, decide_by}
use Rattle.slon_model.specs.Deciding.{decide, settled, move_of, closed_at, unless_closed, status_of}
use Rattle.slon_laws.specs.Allowed.{IsFree, Allows, MayMove, IsNext}

-- ---- numbers that rise

-- what holds with the ceiling as it is, and with it lifted, holds of what a draw finds
pub either_raised : (P : Place → Type 0) (kind : Numbering) (p : Place) → P p →
    P (stamped (with_counter kind (lifted (counter kind p)) p)) → P (raised kind p)
either_raised P kind p same up =
    elim ((counter kind p).next == (counter kind p).ceiling)
    as (λ b. P (cond b (stamped (with_counter kind (lifted (counter kind p)) p)) p)) [
      | true ↦ up
      | false ↦ same
    ]

-- the next numbers, the tables, the actions and the transactions stay
pub record IsSame (p q : Place) : Type 0 where
  pub xid : q.xids.next ≡ p.xids.next
  pub number : q.numbers.next ≡ p.numbers.next
  pub tables : q.tables ≡ p.tables
  pub actions : q.actions ≡ p.actions
  pub commits : q.commits ≡ p.commits
  pub opens : q.opens ≡ p.opens

lifted_same : (kind : Numbering) (p : Place) → IsSame p (stamped (with_counter kind (lifted (counter kind p)) p))
lifted_same Xids p = record { xid = refl; number = refl; tables = refl; actions = refl; commits = refl; opens = refl }
lifted_same Actions p =
    record { xid = refl; number = refl; tables = refl; actions = refl; commits = refl; opens = refl }

pub raised_same : (kind : Numbering) (p : Place) → IsSame p (raised kind p)
raised_same kind p =
    either_raised (IsSame p) kind p (record {
      xid = refl;
      number = refl;
      tables = refl;
      actions = refl;
      commits = refl;
      opens = refl;
    }) (lifted_same kind p)

-- ---- decisions

pub record Decided (task : Task) (p : Place) (answer : Answer) (move : Move) : Type 0 where
  pub allowed : Allows task p move
  pub next : IsNext (done move p) answer

abbrev pub Decides : Task → Place → Decision → Type 0
Decides task p (Refuses fault) = Unit {0}
Decides task p (Accepts answer move) = Decided task p answer move
Decides task p Overflows = Unit {0}

unless : (task : Task) (p : Place) (b : Bool) (fault : DbFault) (d : Decision) → (b ≡ false → Decides task p d) →
    Decides task p (refused_if b fault d)
unless task p true fault d goes = tt
unless task p false fault d goes = goes refl

when_found : {X : Type 0} (task : Task) (p : Place) (o : Option X) (fault : DbFault) (go : X → Decision) →
    ((x : X) → o ≡ Some x → Decides task p (go x)) → Decides task p (with_found o fault go)
when_found task p None fault go goes = tt
when_found task p (Some x) fault go goes = goes x refl

not_false : (b : Bool) → not b ≡ false → b ≡ true
not_false true is = refl
not_false false is = absurd (true≢false is)

held : (task : Task) (p : Place) (xid : ℕ) (o : Option ℕ) (d : Decision) → (IsFree xid o → Decides task p d) →
    Decides task p (unless_held xid o d)
held task p xid None d goes = goes tt
held task p xid (Some other) d goes =
    unless task p (not (other == xid)) (Locked other) d
    (λ same. goes (eqb-true other xid (not_false (other == xid) same)))

rowed : (task : Task) (p : Place) (change : Change) (d : Decision) (o : Option Row) → Decides task p d →
    Decides task p (by_row change d o)
rowed task p (Put key row) d None is = is
rowed task p (Put key row) d (Some old) is = tt
rowed task p (Set key columns) d None is = record { allowed = tt; next = tt }
rowed task p (Set key columns) d (Some old) is = is
rowed task p (Remove key) d None is = record { allowed = tt; next = tt }
rowed task p (Remove key) d (Some old) is = is

closed : (task : Task) (p : Place) (o : Option DbFault) (d : Decision) → Decides task p d →
    Decides task p (unless_closed o d)
closed task p None d is = is
closed task p (Some fault) d is = tt

decides_write : (w : Write) (p : Place) → Decides (ToWrite w) p (decide_write w p)
decides_write w p =
    when_found (ToWrite w) p (find_named w.name p.opens) NoTransaction _ (λ xid opened.
    when_found (ToWrite w) p (find_named w.table p.tables) NoTable _ (λ width found.
    unless (ToWrite w) p (not (fits w.change width)) (BadWidth width) _ (λ fit.
    closed (ToWrite w) p (closed_at w.table p.node) (decide_row xid w p) (
    held (ToWrite w) p xid (holder w.table (change_key w.change) p) _ (λ free.
    rowed (ToWrite w) p w.change (Accepts (Acted p.numbers.next) (Writes xid w.table w.change))
    (get (seen_rows xid p w.table) (change_key w.change)) (record {
      allowed = record {
        name = w.name;
        opened = opened;
        width = width;
        found = found;
        fit = not_false (fits w.change width) fit;
        free = free;
        formed = λ formed. (formed.1, formed.2);
      };
      next = let same = (raised_same Actions p).number in omega (arith, same);
    }))))))

status_next : (q : Place) (n : Option Node) → IsNext q (status_of n)
status_next q None = tt
status_next q (Some n) = tt

decides_up : (task : Task) (p : Place) → Decides task p (decide_up task p)
decides_up (ToMake table columns) p =
    unless (ToMake table columns) p (is_some (find_named table p.tables)) _ _
    (λ none. record { allowed = λ formed. formed; next = tt })
decides_up (ToOpen name) p =
    unless (ToOpen name) p (is_some (find_named name p.opens)) _ _
    (λ none. record {
      allowed = none_of (find_named name p.opens) none;
      next = let same = (raised_same Xids p).xid in
          omega (arith, same);
    })
decides_up (ToWrite w) p = decides_write w p
decides_up (ToCommit name) p =
    when_found (ToCommit name) p (find_named name p.opens) _ _ (λ xid found. record { allowed = found; next = tt })
decides_up (ToAbort name) p =
    when_found (ToAbort name) p (find_named name p.opens) _ _ (λ xid found. record { allowed = tt; next = tt })
decides_up (ToList table) p =
    when_found (ToList table) p (find_named table p.tables) _ _ (λ width found. record { allowed = tt; next = tt })
decides_up ToTell p = record { allowed = tt; next = status_next p p.node }
decides_up (ToCrash Now) p = record { allowed = tt; next = tt }
decides_up (ToCrash (After calls keep)) p = record { allowed = tt; next = tt }
decides_up (ToCrash (AtCommit keep)) p = record { allowed = tt; next = tt }
decides_up ToFound p = tt
decides_up ToRise p = tt

settled_next : (q : Place) (s : Standing) → IsNext q (settled s)
settled_next q IsRunning = tt
settled_next q IsFallen = tt
settled_next q (IsDoubtful true) = tt
settled_next q (IsDoubtful false) = tt

decides_down : (task : Task) (p : Place) (s : Standing) → Decides task p (decide_down task s)
decides_down ToFound p s = record { allowed = tt; next = tt }
decides_down ToRise p s = record { allowed = tt; next = settled_next (done (move_of (decide_down ToRise s)) p) s }
decides_down (ToMake table columns) p s = tt
decides_down (ToOpen name) p s = tt
decides_down (ToWrite w) p s = tt
decides_down (ToCommit name) p s = tt
decides_down (ToAbort name) p s = tt
decides_down (ToList table) p s = tt
decides_down ToTell p s = tt
decides_down (ToCrash crash) p s = tt

decides_by : (s : Standing) (task : Task) (p : Place) → Decides task p (decide_by s task p)
decides_by IsRunning task p = decides_up task p
decides_by IsFallen task p = decides_down task p IsFallen
decides_by (IsDoubtful stands) task p = decides_down task p (IsDoubtful stands)

-- what is known of a decision, after the test of the limit too
pub record Known (task : Task) (p : Place) (answer : Answer) (move : Move) : Type 0 where
  pub may : MayMove task p move
  pub next : IsNext (done move p) answer

abbrev pub Knows : Task → Place → Decision → Type 0
Knows task p (Accepts answer move) = Known task p answer move
Knows task p others = Unit {0}

knows_limited : (task : Task) (p : Place) (d : Decision) → Decides task p d → Knows task p (limited p d)
knows_limited task p (Accepts answer move) is =
    elim (is_beyond move p) as (λ b. is_beyond move p ≡ b → Knows task p (cond b Overflows (Accepts answer move))) [
      | true ↦ λ beyond. tt
      | false ↦ λ within. record { may = record { allows = is.allowed; within = within }; next = is.next }
    ] refl
knows_limited task p (Refuses fault) is = tt
knows_limited task p Overflows is = tt

pub decides : (task : Task) (p : Place) → Knows task p (decide task p)
decides task p = knows_limited task p (decide_by p.standing task p) (decides_by p.standing task p)

pub allowed : (task : Task) (p : Place) → MayMove task p (move_of (decide task p))
allowed task p = of (decide task p) (decides task p)
  where
    of : (d : Decision) → Knows task p d → MayMove task p (move_of d)
    of (Accepts answer move) is = is.may
    of (Refuses fault) is = record { allows = tt; within = refl }
    of Overflows is = record { allows = tt; within = refl }
