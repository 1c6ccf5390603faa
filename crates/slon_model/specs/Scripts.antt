-- Scripts: they are read, forgotten, and run a statement at a time.
use Rattle.std.specs.Prelude.{ℕ, if◌then◌else◌, is_some, max, List, [], ◌∷◌, length, codes, Option, Some, None}
use Rattle.std.specs.Prelude.{Result, Ok, Err}
use Rattle.slonik_script.specs.declared.script.Command.{Command as Order}
use Rattle.slonik_script.specs.declared.script.Command.TheVariants as order
use Rattle.slonik_script.specs.declared.script.Script.{Script}
use Rattle.slonik_script.specs.declared.script.Statement.{Statement}
use Rattle.slonik_script.specs.declared.script.Statement.TheVariants.{Single, Try as Tries}
use Rattle.slon_model.specs.declared.reading.Reading.{Reading}
use Rattle.slon_model.specs.declared.reading.Reading.TheVariants.{Read, Wrong}
use Rattle.slon_model.specs.declared.reply.Answer.{Answer}
use Rattle.slon_model.specs.declared.reply.Answer.TheVariants.{Done, Statements, Echoed, Ended}
use Rattle.slon_model.specs.declared.reply.Refusal.{Refusal}
use Rattle.slon_model.specs.declared.reply.Refusal.TheVariants as refused
use Rattle.slon_model.specs.declared.reply.Reply.{Reply}
use Rattle.slon_model.specs.declared.reply.Reply.TheVariants.{Accepted, Refused}
use Rattle.slon_model.specs.Names.{find_named, without}
use Rattle.slon_model.specs.Maps.{Map, with_entry, number_at}
use Rattle.slon_model.specs.Events.{Event}
use Rattle.slon_model.specs.Deeds.{Deed, emitted_by}
use Rattle.slon_model.specs.Sessions.{World, Memory, Running, Commit, Stated, Outcome, Excess, no_change, excess_of}
use Rattle.slon_model.specs.Membership.{comment_of, init_cluster, store_node, drop_node, store_path, drop_path}
use Rattle.slon_model.specs.Membership.{sync_node}
use Rattle.slon_model.specs.Sets.{create_set, drop_set, set_add_table}
use Rattle.slon_model.specs.Subscribing.{subscribing, subscribe_set, unsubscribe_set}

-- ---- one statement

-- the first word of a statement that cannot be run yet
abbrev pub first_word : Order → List ℕ
first_word (order.LockSet id origin) = codes "lock"
first_word (order.UnlockSet id origin) = codes "unlock"
first_word (order.MoveSet set old new) = codes "move"
first_word (order.Failover failed backup) = codes "failover"
first_word (order.WaitForEvent origin confirmed wait_on timeout) = codes "wait"
first_word others = codes "sleep"

-- What a command of a script comes to that answers by what nodes do.
abbrev pub ordered : Order → Running → World → Result Stated Refusal
ordered (order.InitCluster id comment) = init_cluster id comment
ordered (order.StoreNode id event_node comment) = store_node id event_node comment
ordered (order.DropNode id event_node) = drop_node id event_node
ordered (order.StorePath server client conninfo retry) = store_path server client conninfo
ordered (order.DropPath server client) = drop_path server client
ordered (order.CreateSet id origin comment) = create_set id origin comment
ordered (order.DropSet id origin) = drop_set id origin
ordered (order.SetAddTable set origin id name key comment) =
    set_add_table origin (record { set_id = set; id = id; name = name; comment = comment_of comment })
ordered (order.SubscribeSet set provider receiver forward) = subscribe_set (subscribing set provider receiver forward)
ordered (order.UnsubscribeSet set receiver) = unsubscribe_set set receiver
ordered (order.Sync id) = sync_node id
ordered others = λ run w. Err (refused.NotBuilt (first_word others))

-- ---- what a script remembers

-- the last number that was emitted at each node
abbrev pub noted_event : Option Event → Map ℕ → Map ℕ
noted_event None last = last
noted_event (Some e) last = with_entry e.origin (max e.number (number_at e.origin last)) last

abbrev pub noted_deeds : List Deed → Map ℕ → Map ℕ
noted_deeds [] last = last
noted_deeds (d ∷ ds) last = noted_event (emitted_by d.doing) (noted_deeds ds last)

abbrev pub noted : List Commit → Map ℕ → Map ℕ
noted [] last = last
noted (c ∷ cs) last = noted cs (noted_deeds c.deeds last)

abbrev pub with_script : List ℕ → Running → Memory → Memory
with_script name run m = record m { scripts = (name, run) ∷ without name m.scripts }

abbrev pub without_script : List ℕ → Memory → Memory
without_script name m = record m { scripts = without name m.scripts }

-- A step of a script: its name, the script, and the statements behind this one.
pub record Stepping : Type 0 where
  pub name : List ℕ
  pub run : Running
  pub rest : List Statement

-- the script goes on behind this statement, after these commits
abbrev pub going_on : Stepping → List Commit → Memory → Memory
going_on s commits m =
    with_script s.name (record s.run { todo = s.rest; last = noted commits s.run.last; since = None }) m

-- the script ends
abbrev pub ending : List ℕ → World → Reply → Outcome
ending name w reply = record { reply = reply; commits = []; falls = None; memory = without_script name w.memory }

-- ---- a step

-- A statement is done, or a number would be too big, which ends the script too.
abbrev pub done_by : Stepping → World → Stated → Option Excess → Outcome
done_by s w stated None =
    record {
      reply = Accepted stated.answer;
      commits = stated.commits;
      falls = None;
      memory = going_on s stated.commits w.memory;
    }
done_by s w stated (Some e) =
    record {
      reply = Refused (refused.TooBig e.space);
      commits = [];
      falls = Some e.name;
      memory = without_script s.name w.memory;
    }

-- a refusal ends the script
abbrev pub single : Stepping → World → Result Stated Refusal → Outcome
single s w (Err refusal) = ending s.name w (Refused refusal)
single s w (Ok stated) = done_by s w stated (excess_of stated.commits w.places)

-- without commits
abbrev pub quiet : Answer → Stated
quiet answer = record { answer = answer; commits = [] }

abbrev pub order_step : Stepping → World → Order → Outcome
order_step s w (order.Echo text) = single s w (Ok (quiet (Echoed text)))
order_step s w (order.Exit status) = ending s.name w (Accepted (Ended status))
order_step s w others = single s w (ordered others s.run w)

abbrev pub statement_step : Stepping → World → Statement → Outcome
statement_step s w (Single order) = order_step s w order
statement_step s w (Tries block) = single s w (Err (refused.NotBuilt (codes "try")))

abbrev pub step_todo : List ℕ → Running → List Statement → World → Outcome
step_todo name run [] w = ending name w (Accepted (Ended 0))
step_todo name run (statement ∷ rest) w =
    statement_step (record { name = name; run = run; rest = rest }) w statement

abbrev pub step_of : List ℕ → Option Running → World → Outcome
step_of name None w = no_change w (Refused (refused.NoScript name))
step_of name (Some run) w = step_todo name run run.todo w

-- `step NAME`: 94, and then the next statement
abbrev pub step_outcome : List ℕ → World → Outcome
step_outcome name w = step_of name (find_named name w.memory.scripts) w

-- `slonik NAME <<`: 93, and then what is wrong with the script
abbrev pub running : Script → Running
running s = record { cluster = s.cluster; lines = s.nodes; todo = s.statements; last = []; since = None }

abbrev pub read_as : List ℕ → Reading → World → Outcome
read_as name (Wrong refusal) w = no_change w (Refused (refused.Script refusal))
read_as name (Read s) w =
    record {
      reply = Accepted (Statements (length s.statements));
      commits = [];
      falls = None;
      memory = with_script name (running s) w.memory;
    }

abbrev pub slonik_outcome : List ℕ → Reading → World → Outcome
slonik_outcome name reading w =
    if is_some (find_named name w.memory.scripts) then no_change w (Refused (refused.ScriptUsed name))
    else read_as name reading w

-- `kill NAME`: 94
abbrev pub kill_of : List ℕ → Option Running → World → Outcome
kill_of name None w = no_change w (Refused (refused.NoScript name))
kill_of name (Some run) w = ending name w (Accepted Done)

abbrev pub kill_outcome : List ℕ → World → Outcome
kill_outcome name w = kill_of name (find_named name w.memory.scripts) w
