-- What a database decides on a task: a refusal, or an answer with the move that is its effect.
use Rattle.std.specs.Prelude.{◌≡◌, ℕ, ◌==◌, ◌&&◌, if◌then◌else◌, not, nat_le, is_some, Bool, true, false, List, [], ◌∷◌}
use Rattle.std.specs.Prelude.{length, Option, Some, None, Result, Ok, Err}
use Rattle.std.specs.List.{list_all}
use Rattle.std.specs.FinMap.{get, entries}
use Rattle.slon_base.specs.Counts.{Rose}
use Rattle.slon_base.specs.declared.fault.Halt.TheVariants.{Fault, TooBig}
use Rattle.slon_model.specs.declared.fault.DbFault.{DbFault}
use Rattle.slon_model.specs.declared.fault.DbFault.TheVariants.{Locked, Down, IsUp, TableExists, NameUsed, NoTable}
use Rattle.slon_model.specs.declared.fault.DbFault.TheVariants.{NoTransaction, Duplicate, NotOrigin, SetLocked}
use Rattle.slon_model.specs.declared.fault.DbFault.TheVariants.{BadWidth, Halt}
use Rattle.slon_model.specs.declared.command.Crash.TheVariants.{Now}
use Rattle.slon_model.specs.declared.reply.Answer.{Answer}
use Rattle.slon_model.specs.declared.reply.Answer.TheVariants.{Done, Opened, Acted, Unchanged, Committed, Listed, Kept}
use Rattle.slon_model.specs.declared.reply.Answer.TheVariants.{Lost, Status as StatusIs}
use Rattle.slon_model.specs.declared.reply.Answered.{Answered}
use Rattle.slon_model.specs.declared.reply.Answered.TheVariants.{Sure, InDoubt}
use Rattle.slon_model.specs.Names.{find_named}
use Rattle.slon_model.specs.Rows.{Row, Change, Put, Set, Remove, change_key}
use Rattle.slon_model.specs.Tasks.{Write, Task, ToFound, ToMake, ToOpen, ToWrite, ToCommit, ToAbort, ToList, ToTell}
use Rattle.slon_model.specs.Tasks.{ToCrash, ToRise}
use Rattle.slon_model.specs.Config.{set_of, is_origin, is_locked}
use Rattle.slon_model.specs.Deeds.{Node, Knowledge, knowledge, view_of}
use Rattle.slon_model.specs.Place.{Place, Standing, IsRunning, IsDoubtful, standing_rows, seen_rows, holder}
use Rattle.slon_model.specs.Place.{own_count, progress_of, kept_of, fallen, doubted}
use Rattle.slon_model.specs.Moves.{Move, Stays, Founds, Tables, Begins, Writes, Commits, Aborts, Falls, Rises, prepared}
use Rattle.slon_model.specs.Moves.{done, commits_at, is_beyond}

-- A task is refused; or it is answered, with the move that is its effect; or a number that it would store is too big.
pub data Decision : Type 0 where
  Refuses : (fault : DbFault) → Decision
  Accepts : (answer : Answer) (move : Move) → Decision
  Overflows : Decision

-- refused where the test holds
abbrev pub refused_if : Bool → DbFault → Decision → Decision
refused_if true fault d = Refuses fault
refused_if false fault d = d

-- refused where nothing was found
abbrev pub with_found : {X : Type 0} → Option X → DbFault → (X → Decision) → Decision
with_found None fault go = Refuses fault
with_found (Some x) fault go = go x

-- ---- writes

-- columns that get new values are from 2, as the key is column 1, to the width
abbrev pub are_columns : List (ℕ × List ℕ) → ℕ → Bool
are_columns columns width = list_all (λ c. nat_le 2 c.0 && nat_le c.0 width) columns

-- a new row has a value for each column
abbrev pub fits : Change → ℕ → Bool
fits (Put key row) width = length (key ∷ row) == width
fits (Set key columns) width = are_columns columns width
fits (Remove key) width = true

-- no write on a table of a set that the node subscribes to, nor on one of its own set that is locked
abbrev pub closed_set : ℕ → Knowledge → Option ℕ → Option DbFault
closed_set own k None = None
closed_set own k (Some set) =
    if is_some (view_of set k) then Some (NotOrigin set)
    else (if is_origin own set k.config && is_locked set k.config then Some (SetLocked set) else None)

abbrev pub closed_at : List ℕ → Option Node → Option DbFault
closed_at table None = None
closed_at table (Some n) = let k = knowledge n in closed_set n.id k (set_of table k.config)

abbrev pub unless_closed : Option DbFault → Decision → Decision
unless_closed None d = d
unless_closed (Some fault) d = Refuses fault

-- refused where another open transaction wrote the row
abbrev pub unless_held : ℕ → Option ℕ → Decision → Decision
unless_held xid None d = d
unless_held xid (Some other) d = refused_if (not (other == xid)) (Locked other) d

-- a new row must not be there; a row that is changed must be there, or nothing is done
abbrev pub by_row : Change → Decision → Option Row → Decision
by_row (Put key row) accepted None = accepted
by_row (Put key row) accepted (Some old) = Refuses Duplicate
by_row others accepted None = Accepts Unchanged Stays
by_row others accepted (Some old) = accepted

-- by the row as the transaction sees it
abbrev pub decide_row : ℕ → Write → Place → Decision
decide_row xid w p =
    unless_held xid (holder w.table (change_key w.change) p)
    (by_row w.change (Accepts (Acted p.numbers.next) (Writes xid w.table w.change))
    (get (seen_rows xid p w.table) (change_key w.change)))

abbrev pub decide_write : Write → Place → Decision
decide_write w p =
    with_found (find_named w.name p.opens) NoTransaction
    (λ xid. with_found (find_named w.table p.tables) NoTable
    (λ width. refused_if (not (fits w.change width)) (BadWidth width)
    (unless_closed (closed_at w.table p.node) (decide_row xid w p))))

-- ---- each task

-- the node that a database is, with its log, how far it is, and of which sets it keeps progress
abbrev pub status_of : Option Node → Answer
status_of None = StatusIs 0 0 [] []
status_of (Some n) = StatusIs n.id (knowledge n).log (progress_of n) (kept_of n)

-- while the database is up
abbrev pub decide_up : Task → Place → Decision
decide_up (ToMake table columns) p =
    refused_if (is_some (find_named table p.tables)) TableExists (Accepts Done (Tables table columns))
decide_up (ToOpen name) p =
    refused_if (is_some (find_named name p.opens)) NameUsed (Accepts (Opened p.xids.next) (Begins name))
decide_up (ToWrite w) p = decide_write w p
decide_up (ToCommit name) p =
    with_found (find_named name p.opens) NoTransaction (λ xid. Accepts (Committed (own_count xid p)) (Commits name xid))
decide_up (ToAbort name) p = with_found (find_named name p.opens) NoTransaction (λ xid. Accepts Done (Aborts name))
decide_up (ToList table) p =
    with_found (find_named table p.tables) NoTable (λ width. Accepts (Listed (entries (standing_rows p table))) Stays)
decide_up ToTell p = Accepts (status_of p.node) Stays
decide_up (ToCrash Now) p = Accepts Done Falls
decide_up (ToCrash later) p = Accepts Done Stays
decide_up others p = Refuses IsUp

-- whether a commit that was in doubt stands
abbrev pub settled : Standing → Answer
settled (IsDoubtful true) = Kept
settled (IsDoubtful false) = Lost
settled others = Done

-- while it is down
abbrev pub decide_down : Task → Standing → Decision
decide_down ToFound standing = Accepts Done Founds
decide_down ToRise standing = Accepts (settled standing) Rises
decide_down others standing = Refuses Down

abbrev pub decide_by : Standing → Task → Place → Decision
decide_by IsRunning task p = decide_up task p
decide_by others task p = decide_down task others

-- a number above the limit of stored numbers would be stored
abbrev pub limited : Place → Decision → Decision
limited p (Accepts answer move) = if is_beyond move p then Overflows else Accepts answer move
limited p others = others

abbrev pub decide : Task → Place → Decision
decide task p = limited p (decide_by p.standing task p)

-- What is answered, and the move. A number that is too big takes the database down.
abbrev pub result_of : Decision → Result Answer DbFault
result_of (Refuses fault) = Err fault
result_of (Accepts answer move) = Ok answer
result_of Overflows = Err (Halt (TooBig 1))

abbrev pub move_of : Decision → Move
move_of (Refuses fault) = Stays
move_of (Accepts answer move) = move
move_of Overflows = Falls

-- ---- what may come of it

-- What comes of a step on several databases: all its commits stand; or the store of this database fails, with this
-- count of faults, and none stands; or the commit behind this number of others is in doubt: those stand, those behind
-- it do not, and it stands or not.
pub data Fate : Type 0 where
  AllStand : Fate
  Breaks : (name : List ℕ) (count : ℕ) → Fate
  DoubtsAt : (before : ℕ) (stands : Bool) → Fate

-- What comes of a command: what is due; or its store fails, with this count of faults, and what comes before the effect
-- stands or not; or the commit of the effect is in doubt, and stands or not; or what comes of a step on several
-- databases.
pub data Choice : Type 0 where
  AsDue : Choice
  AtFault : (count : ℕ) (also : Bool) → Choice
  Wavers : (stands : Bool) → Choice
  Among : (fate : Fate) → Choice

-- The task may call on the store of a database that stands so and is this node. What a database is that is no node is
-- told without a call.
abbrev pub calls_up : Task → Option Node → Bool
calls_up (ToMake table columns) _ = true
calls_up (ToOpen name) _ = true
calls_up (ToWrite w) _ = true
calls_up (ToCommit name) _ = true
calls_up (ToList table) _ = true
calls_up ToTell found = is_some found
calls_up others _ = false

abbrev pub calls_down : Task → Bool
calls_down ToFound = true
calls_down ToRise = true
calls_down others = false

abbrev pub may_call : Standing → Option Node → Task → Bool
may_call IsRunning found task = calls_up task found
may_call others found task = calls_down task

abbrev pub May : Task → Place → Choice → Type 0
May task p AsDue = Unit {0}
May task p (AtFault count also) = (may_call p.standing p.node task ≡ true) × Rose p.told count
May task p (Wavers stands) = commits_at (move_of (decide task p)) p ≡ true
May task p (Among fate) = ⊥

abbrev pub sure : Result Answer DbFault → Result Answered DbFault
sure (Ok answer) = Ok (Sure answer)
sure (Err fault) = Err fault

abbrev pub unsure : Result Answer DbFault → Result Answered DbFault
unsure (Ok answer) = Ok (InDoubt answer)
unsure (Err fault) = Err fault

abbrev pub result_by : Task → Place → Choice → Result Answered DbFault
result_by task p (AtFault count also) = Err (Halt (Fault count))
result_by task p (Wavers stands) = unsure (result_of (decide task p))
result_by task p others = sure (result_of (decide task p))

abbrev pub place_by : Task → Place → Choice → Place
place_by task p (AtFault count also) = fallen count (if also then prepared (move_of (decide task p)) p else p)
place_by task p (Wavers stands) = doubted stands (if stands then done (move_of (decide task p)) p else p)
place_by task p others = done (move_of (decide task p)) p

-- How a database goes on at a task.
pub record Takes (task : Task) (p : Place) (choice : Choice) (result : Result Answered DbFault) : Type 0 where
  pub may : May task p choice
  pub told : result ≡ result_by task p choice
