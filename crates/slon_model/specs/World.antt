-- What the rules know after a history, the one reply that they give to a command, and the histories that they allow.
use Rattle.std.specs.Prelude.{◌≡◌, ◌<◌, ◌||◌, ℕ, if◌then◌else◌, nat_lt, is_some, Bool, true, false, List, [], ◌∷◌}
use Rattle.std.specs.Prelude.{◌++◌}
use Rattle.std.specs.Prelude.{length, take, drop, Option, Some, None, Result, Ok, Err, unwrap_or}
use Rattle.slon_base.specs.Counts.{Rose}
use Rattle.std.specs.List.{list_any}
use Rattle.slon_base.specs.declared.fault.Halt.{Halt as HaltOf}
use Rattle.slon_base.specs.declared.fault.Halt.TheVariants.{Doubt, NoMemory, Fault as HaltFault, BadRow as HaltBadRow}
use Rattle.slon_base.specs.declared.fault.Halt.TheVariants.{TooBig as HaltTooBig}
use Rattle.slon_model.specs.declared.fault.DbFault.{DbFault}
use Rattle.slon_model.specs.declared.fault.DbFault.TheVariants.{Locked, NotEmpty, Down, IsUp, TableExists, NameUsed}
use Rattle.slon_model.specs.declared.fault.DbFault.TheVariants.{NoTable, NoTransaction, Duplicate, NotOrigin, SetLocked}
use Rattle.slon_model.specs.declared.fault.DbFault.TheVariants.{BadWidth, Halt}
use Rattle.slon_model.specs.declared.command.Command.{Command}
use Rattle.slon_model.specs.declared.reply.Answer.TheVariants.{Done}
use Rattle.slon_model.specs.declared.reply.Answered.{Answered}
use Rattle.slon_model.specs.declared.reply.Answered.TheVariants.{Sure, InDoubt as AnsweredInDoubt}
use Rattle.slon_model.specs.declared.reply.Refusal.TheVariants as refused
use Rattle.slon_model.specs.declared.reply.Reply.{Reply}
use Rattle.slon_model.specs.declared.reply.Reply.TheVariants.{Accepted, Refused, InDoubt}
use Rattle.std.specs.Str.{bytes_eq}
use Rattle.slon_model.specs.Names.{find_named}
use Rattle.slon_model.specs.Tasks.{Task, ToFound, Act, ToRead, ToStep, ToForget, ToStart, ToStop, ToCut}
use Rattle.slon_model.specs.Tasks.{ToJoin, ToSync, ToListen, ToFetch, ToWork, Subject, OnNew, OnOne, OnAll, subject_of}
use Rattle.slon_model.specs.Tasks.{Words, words_of}
use Rattle.slon_model.specs.Place.{Place, is_running, bare_place, fallen}
use Rattle.slon_model.specs.Deciding.{Choice, AsDue, Among, Fate, AllStand, Breaks, DoubtsAt, decide, result_of, sure}
use Rattle.slon_model.specs.Deciding.{place_by, Takes}
pub use Rattle.slon_model.specs.Sessions.{World, start, changed, adopted}
use Rattle.slon_model.specs.Sessions.{Memory, Running, Commit, in_doubt, stand, with_memory, Outcome, after_outcome}
use Rattle.slon_model.specs.Scripts.{slonik_outcome, step_outcome, kill_outcome, without_script}
use Rattle.slon_model.specs.Turns.{at_node, start_outcome, stop_outcome, cut_outcome, join_outcome, sync_outcome}
use Rattle.slon_model.specs.Polls.{listen_outcome}
use Rattle.slon_model.specs.Working.{fetch_outcome, work_outcome, fetch_sources_of, sources_of}
use Rattle.slon_model.specs.Printed.{reply_line}

-- ---- replies

-- why a step stopped, where it did
abbrev pub halt_in : DbFault → Option HaltOf
halt_in (Halt halt) = Some halt
halt_in others = None

abbrev pub halted : List ℕ → HaltOf → Reply
halted database (HaltFault count) = Refused (refused.Fault database count)
halted database Doubt = InDoubt database Done
halted database (HaltBadRow space) = Refused (refused.BadRow space)
halted database (HaltTooBig space) = Refused (refused.TooBig space)
halted database NoMemory = Refused (refused.Down database)

-- the refusal of a command that names these words
abbrev pub refusal_of : Words → DbFault → Reply
refusal_of w (Locked xid) = Refused (refused.Locked xid)
refusal_of w NotEmpty = Refused (refused.NotEmpty w.database)
refusal_of w Down = Refused (refused.Down w.database)
refusal_of w IsUp = Refused (refused.IsUp w.database)
refusal_of w TableExists = Refused (refused.TableExists (unwrap_or w.table []))
refusal_of w NameUsed = Refused (refused.NameUsed (unwrap_or w.transaction []))
refusal_of w NoTable = Refused (refused.NoTable (unwrap_or w.table []))
refusal_of w NoTransaction = Refused (refused.NoTransaction (unwrap_or w.transaction []))
refusal_of w Duplicate = Refused refused.Duplicate
refusal_of w (NotOrigin set) = Refused (refused.NotOrigin set)
refusal_of w (SetLocked set) = Refused (refused.SetLocked set)
refusal_of w (BadWidth columns) = Refused (refused.BadWidth columns)
refusal_of w (Halt halt) = halted w.database halt

-- the reply of a database to a command
abbrev pub reply_of : Words → Result Answered DbFault → Reply
reply_of w (Ok (Sure answer)) = Accepted answer
reply_of w (Ok (AnsweredInDoubt answer)) = InDoubt w.database answer
reply_of w (Err fault) = refusal_of w fault

-- ---- what is due, and what comes after it

-- a new database: refused where the name is taken, and where the session has as many as it allows
abbrev pub database_due : List ℕ → World → Reply
database_due name w =
    if is_some (find_named name w.places) then Refused (refused.NameUsed name) else
    (if nat_lt (length w.places) w.limit then Accepted Done else Refused (refused.Full w.limit))

-- what a database replies, where the session has one of the name
abbrev pub ask : Words → Task → Option Place → Reply
ask words task None = Refused (refused.NoDatabase words.database)
ask words task (Some p) = reply_of words (sure (result_of (decide task p)))

-- What a script or a turn comes to.
abbrev pub outcome : Act → World → Outcome
outcome (ToRead name reading) = slonik_outcome name reading
outcome (ToStep name) = step_outcome name
outcome (ToForget name) = kill_outcome name
outcome (ToStart node) = start_outcome node
outcome (ToStop node) = stop_outcome node
outcome (ToCut node other) = cut_outcome node other
outcome (ToJoin node other) = join_outcome node other
outcome (ToSync node) = sync_outcome node
outcome (ToListen node server delivery) = listen_outcome node server delivery
outcome (ToFetch node origin) = fetch_outcome node origin
outcome (ToWork node origin) = work_outcome node origin

abbrev pub due_on : Subject → World → Reply
due_on (OnNew name) w = database_due name w
due_on (OnOne name task) w = ask (words_of (OnOne name task)) task (find_named name w.places)
due_on (OnAll act) w = (outcome act w).reply

-- The one reply that the rules give to a command.
abbrev pub due : World → Command → Reply
due w command = due_on (subject_of command) w

-- the command was accepted
abbrev pub is_accepted : Reply → Bool
is_accepted (Accepted answer) = true
is_accepted others = false

abbrev pub asked : List ℕ → Task → Option Place → World → World
asked name task None w = w
asked name task (Some p) w = changed name (place_by task p AsDue) w

abbrev pub after_on : Subject → World → World
after_on (OnNew name) w =
    if is_accepted (database_due name w) then adopted name (place_by ToFound bare_place AsDue) w else w
after_on (OnOne name task) w = asked name task (find_named name w.places) w
after_on (OnAll act) w = after_outcome (outcome act w) w

-- What the rules know after a command that is answered with what is due.
abbrev pub after : World → Command → World
after w command = after_on (subject_of command) w

-- ---- where a database fails in a script

abbrev pub is_left : {X : Type 0} → List X → Bool
is_left [] = false
is_left (x ∷ xs) = true

-- something is left to do
abbrev pub has_todo : Option Running → Bool
has_todo None = false
has_todo (Some run) = is_left run.todo

-- the database of this name is the node
abbrev pub is_of : List ℕ → Option (List ℕ × Place) → Bool
is_of name None = false
is_of name (Some e) = bytes_eq name e.0

-- it is one of these nodes
abbrev pub is_of_one : List ℕ → List ℕ → World → Bool
is_of_one name nodes w = list_any (λ node. is_of name (at_node node w)) nodes

-- a step may call on the store of each database, where something is left to do; a turn on that of its node, a poll on
-- that of the server too, and a turn that reads what comes with an event on those of the providers
abbrev pub may_break : Act → List ℕ → World → Bool
may_break (ToStep script) name w = has_todo (find_named script w.memory.scripts)
may_break (ToSync node) name w = is_of name (at_node node w)
may_break (ToListen node server delivery) name w = is_of name (at_node node w) || is_of name (at_node server w)
may_break (ToFetch node origin) name w =
    is_of name (at_node node w) || is_of_one name (fetch_sources_of node origin w) w
may_break (ToWork node origin) name w = is_of name (at_node node w) || is_of_one name (sources_of node origin w) w
may_break others name w = false

-- the script ends
abbrev pub memory_after : Act → Memory → Memory
memory_after (ToStep name) m = without_script name m
memory_after others m = m

-- the session after these commits, where a database failed then
abbrev pub spoilt : Act → List Commit → World → World
spoilt act commits w = stand commits (with_memory (memory_after act w.memory) w)

abbrev pub broken_at : List ℕ → ℕ → Option Place → World → World
broken_at name count None w = w
broken_at name count (Some p) w = changed name (fallen count p) w

abbrev pub wavering_at : Commit → Bool → Option Place → World → World
wavering_at c stands None w = w
wavering_at c stands (Some p) w = changed c.name (in_doubt c stands p) w

-- the first of these commits is in doubt, and the others are not made
abbrev pub wavering : List Commit → Bool → World → World
wavering [] stands w = w
wavering (c ∷ cs) stands w = wavering_at c stands (find_named c.name w.places) w

abbrev pub doubt_reply : List Commit → Reply → Reply
doubt_reply (c ∷ cs) (Accepted answer) = InDoubt c.name answer
doubt_reply others reply = reply

-- a database that is up fails with a count that rose
abbrev pub CanFail : ℕ → Option Place → Type 0
CanFail count None = ⊥
CanFail count (Some p) = (is_running p.standing ≡ true) × Rose p.told count

abbrev pub MayEnd : Act → Fate → World → Type 0
MayEnd act AllStand w = Unit {0}
MayEnd act (Breaks name count) w = (may_break act name w ≡ true) × CanFail count (find_named name w.places)
MayEnd act (DoubtsAt before stands) w = before < length (outcome act w).commits

abbrev pub reply_by : Act → Fate → World → Reply
reply_by act AllStand w = (outcome act w).reply
reply_by act (Breaks name count) w = Refused (refused.Fault name count)
reply_by act (DoubtsAt before stands) w = doubt_reply (drop before (outcome act w).commits) (outcome act w).reply

abbrev pub world_by : Act → Fate → World → World
world_by act AllStand w = after_outcome (outcome act w) w
world_by act (Breaks name count) w = broken_at name count (find_named name w.places) (spoilt act [] w)
world_by act (DoubtsAt before stands) w =
    let commits = (outcome act w).commits in
    wavering (drop before commits) stands (spoilt act (take before commits) w)

-- ---- histories

-- A command, its reply, and what came of it.
pub record Happening : Type 0 where
  pub command : Command
  pub reply : Reply
  pub choice : Choice

-- The database of a name goes on, and answers.
pub record Serving (w : World) (h : Happening) (v : World) : Type 0 where
  pub name : List ℕ
  pub task : Task
  pub place : Place
  pub result : Result Answered DbFault
  pub about : subject_of h.command ≡ OnOne name task
  pub found : find_named name w.places ≡ Some place
  pub takes : Takes task place h.choice result
  pub told : h.reply ≡ reply_of (words_of (OnOne name task)) result
  pub is : v ≡ changed name (place_by task place h.choice) w

-- A script goes on, on all databases.
pub record Acting (w : World) (h : Happening) (v : World) : Type 0 where
  pub act : Act
  pub fate : Fate
  pub about : subject_of h.command ≡ OnAll act
  pub chosen : h.choice ≡ Among fate
  pub may : MayEnd act fate w
  pub told : h.reply ≡ reply_by act fate w
  pub is : v ≡ world_by act fate w

-- How a history goes on: a new database is granted and begins, or is refused; a command finds no database of the name;
-- or that database goes on; or a script does.
pub data Step (w : World) (h : Happening) (v : World) : Type 0 where
  Grants : (name : List ℕ) (result : Result Answered DbFault) → subject_of h.command ≡ OnNew name →
      database_due name w ≡ Accepted Done →
      Takes ToFound bare_place h.choice result → h.reply ≡ reply_of (words_of (OnNew name)) result →
      v ≡ adopted name (place_by ToFound bare_place h.choice) w → Step w h v
  Denies : (name : List ℕ) → subject_of h.command ≡ OnNew name → is_accepted (database_due name w) ≡ false →
      h.choice ≡ AsDue → h.reply ≡ database_due name w → v ≡ w → Step w h v
  Misses : (name : List ℕ) (task : Task) → subject_of h.command ≡ OnOne name task → find_named name w.places ≡ None →
      h.choice ≡ AsDue → h.reply ≡ Refused (refused.NoDatabase name) → v ≡ w → Step w h v
  Asks : Serving w h v → Step w h v
  Acts : Acting w h v → Step w h v

-- A history, the newest happening first, may have happened since the start and leads to this world.
abbrev pub Leads : World → List Happening → World → Type 0
Leads from [] w = w ≡ from
Leads from (h ∷ hs) w = (v : World) × Leads from hs v × Step v h w

-- A history in which each reply is the one that is due leads to this world.
abbrev pub IsDue : World → List Happening → World → Type 0
IsDue from [] w = w ≡ from
IsDue from (h ∷ hs) w = (v : World) × IsDue from hs v × (h.reply ≡ due v h.command) × (w ≡ after v h.command)

-- its commands in order
abbrev pub commands_of : List Happening → List Command
commands_of [] = []
commands_of (h ∷ hs) = commands_of hs ++ h.command ∷ []

-- its replies in order
abbrev pub replies_of : List Happening → List Reply
replies_of [] = []
replies_of (h ∷ hs) = replies_of hs ++ h.reply ∷ []

-- its printed form: a line a reply
abbrev pub lines_of : List Happening → List (List ℕ)
lines_of [] = []
lines_of (h ∷ hs) = lines_of hs ++ reply_line h.reply ∷ []
