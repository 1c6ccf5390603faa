-- What holds of every statement and every turn, of its commits and of what waits and is kept behind it, holds of every
-- command.
use Rattle.std.proofs.Common.{◌≡◌, ℕ, Bool, true, false, cond, List, [], ◌∷◌, Option, Some, None, Result, Ok, Err}
use Rattle.std.proofs.Common.{is_some, refl, sym, subst}
use Rattle.slonik_script.specs.declared.script.Command.{Command as Order}
use Rattle.slonik_script.specs.declared.script.Command.TheVariants as order
use Rattle.slonik_script.specs.declared.script.Statement.{Statement}
use Rattle.slonik_script.specs.declared.script.Statement.TheVariants.{Single, Try as Tries}
use Rattle.slon_model.specs.declared.command.Delivery.{Delivery}
use Rattle.slon_model.specs.declared.command.Delivery.TheVariants.{Once, Lost, Again}
use Rattle.slon_model.specs.declared.reading.Reading.{Reading}
use Rattle.slon_model.specs.declared.reading.Reading.TheVariants.{Read, Wrong}
use Rattle.slon_model.specs.declared.reply.Answer.TheVariants.{Echoed}
use Rattle.slon_model.specs.declared.reply.Refusal.{Refusal}
use Rattle.slon_model.specs.declared.reply.Refusal.TheVariants as refused
use Rattle.slon_model.specs.declared.reply.Reply.TheVariants.{Refused}
use Rattle.slon_model.specs.Names.{Named, find_named}
use Rattle.slon_model.specs.Maps.{Map}
use Rattle.slon_model.specs.Events.{Event}
use Rattle.slon_model.specs.Tasks.{Act, ToRead, ToStep, ToForget, ToStart, ToStop, ToSync, ToListen, ToFetch, ToWork}
use Rattle.slon_model.specs.Place.{Place}
use Rattle.slon_model.specs.Sessions.{World, Memory, Fetch, Running, Commit, Stated, Outcome, Excess, excess_of}
use Rattle.slon_model.specs.Sessions.{forgotten, no_change}
use Rattle.slon_model.specs.Scripts.{Stepping, done_by, single, order_step, statement_step, step_todo, step_of, read_as}
use Rattle.slon_model.specs.Scripts.{ordered, kill_of, quiet}
use Rattle.slon_model.specs.Turns.{at_node, switched_at, turned, turned_by, taken_turn, sync_turn}
use Rattle.slon_model.specs.Polls.{Poll, polled, left_by, listen_by, stated_by}
use Rattle.slon_model.specs.Working.{Carried, fetched, fetched_by, with_fetch, worked, applied_by, taken_from}
use Rattle.slon_model.specs.Working.{given_up, without_fetch, work_ended}
use Rattle.slon_model.specs.World.{outcome}
use Rattle.slon_laws.proofs.Results.{OnOk, ok_then}

-- the events that wait at nodes
abbrev Queues : Type 0
Queues = Named (Map (List Event))

-- what nodes fetched and keep
abbrev pub Fetches : Type 0
Fetches = Named (Map Fetch)

-- what may be said of commits, and of what waits and what is kept behind them
abbrev pub Claim : Type 1
Claim = List Commit → Queues → Fetches → Type 0

-- P holds where nothing is done, where a slon is turned off, and where what was fetched is given up; and of each
-- statement and turn that is not refused.
pub record Leaves (w : World) (P : Claim) : Type 0 where
  pub nothing : P [] w.memory.queues w.memory.fetches
  pub stops : (name : List ℕ) → P [] (forgotten name w.memory).queues (forgotten name w.memory).fetches
  pub gives_up : (name : List ℕ) (origin : ℕ) → P [] w.memory.queues (without_fetch name origin w.memory).fetches
  pub orders : (o : Order) (run : Running) →
      OnOk (λ stated. P stated.commits w.memory.queues w.memory.fetches) (ordered o run w)
  pub syncs : (node : ℕ) → OnOk (λ stated. P stated.commits w.memory.queues w.memory.fetches) (sync_turn node w)
  pub polls : (node server : ℕ) (delivery : Delivery) →
      OnOk (λ b. P (stated_by delivery b).commits (left_by delivery b w.memory).queues w.memory.fetches)
      (polled node server w)
  pub fetches : (node origin : ℕ) →
      OnOk (λ x. P [] w.memory.queues (with_fetch x w.memory).fetches) (fetched node origin w)
  pub works : (node origin : ℕ) →
      OnOk (λ c. P (applied_by c).commits (taken_from c w.memory).queues (taken_from c w.memory).fetches)
      (worked node origin w)

abbrev Has : Claim → Outcome → Type 0
Has P o = P o.commits o.memory.queues o.memory.fetches

done_has : (w : World) (P : Claim) → P [] w.memory.queues w.memory.fetches →
    (s : Stepping) (stated : Stated) (o : Option Excess) →
    P stated.commits w.memory.queues w.memory.fetches → Has P (done_by s w stated o)
done_has w P nothing s stated None is = is
done_has w P nothing s stated (Some e) is = nothing

single_has : (w : World) (P : Claim) → P [] w.memory.queues w.memory.fetches →
    (s : Stepping) (r : Result Stated Refusal) →
    OnOk (λ stated. P stated.commits w.memory.queues w.memory.fetches) r → Has P (single s w r)
single_has w P nothing s (Err refusal) is = nothing
single_has w P nothing s (Ok stated) is = done_has w P nothing s stated (excess_of stated.commits w.places) is

order_has : (w : World) (P : Claim) → Leaves w P → (s : Stepping) (o : Order) →
    Has P (order_step s w o)
order_has w P l s (order.Echo text) = single_has w P l.nothing s (Ok (quiet (Echoed text))) l.nothing
order_has w P l s (order.Exit status) = l.nothing
order_has w P l s others = single_has w P l.nothing s (ordered others s.run w) (l.orders others s.run)

statement_has : (w : World) (P : Claim) → Leaves w P → (s : Stepping) (t : Statement) →
    Has P (statement_step s w t)
statement_has w P l s (Single o) = order_has w P l s o
statement_has w P l s (Tries block) = l.nothing

todo_has : (w : World) (P : Claim) → Leaves w P → (name : List ℕ) (run : Running)
    (todo : List Statement) → Has P (step_todo name run todo w)
todo_has w P l name run [] = l.nothing
todo_has w P l name run (t ∷ rest) = statement_has w P l (record { name = name; run = run; rest = rest }) t

step_of_has : (w : World) (P : Claim) → Leaves w P → (name : List ℕ) (o : Option Running) →
    Has P (step_of name o w)
step_of_has w P l name None = l.nothing
step_of_has w P l name (Some run) = todo_has w P l name run run.todo

turned_has : (w : World) (P : Claim) → P [] w.memory.queues w.memory.fetches → (m : Memory) (stated : Stated) →
    P stated.commits m.queues m.fetches → Has P (turned w m stated)
turned_has w P nothing m stated is = by (excess_of stated.commits w.places)
  where
    by : (o : Option Excess) → Has P (turned_by w m stated o)
    by None = is
    by (Some e) = nothing

taken_has : {X : Type 0} (w : World) (P : Claim) → P [] w.memory.queues w.memory.fetches →
    (left : X → Memory) (stated : X → Stated) (r : Result X Refusal) →
    OnOk (λ x. P (stated x).commits (left x).queues (left x).fetches) r → Has P (taken_turn w left stated r)
taken_has w P nothing left stated (Err refusal) is = nothing
taken_has w P nothing left stated (Ok x) is = turned_has w P nothing (left x) (stated x) is

switched_has : (w : World) (P : Claim) → P [] w.memory.queues w.memory.fetches → (node : ℕ)
    (m : List ℕ → Memory) → ((name : List ℕ) → P [] (m name).queues (m name).fetches) → (o : Option (List ℕ × Place)) →
    Has P (switched_at node m o w)
switched_has w P nothing node m after None = nothing
switched_has w P nothing node m after (Some e) = after e.0

-- what a poll leaves of what nodes fetched
left_fetches : (delivery : Delivery) (b : Poll) (m : Memory) → (left_by delivery b m).fetches ≡ m.fetches
left_fetches Once b m = refl
left_fetches Lost b m = refl
left_fetches Again b m = refl

poll_has : (w : World) (P : Claim) → Leaves w P → (node server : ℕ)
    (delivery : Delivery) → Has P (listen_by delivery w (polled node server w))
poll_has w P l node server delivery =
    taken_has w P l.nothing (λ b. left_by delivery b w.memory) (stated_by delivery) (polled node server w)
    (ok_then (λ b. P (stated_by delivery b).commits (left_by delivery b w.memory).queues w.memory.fetches)
    (λ b. P (stated_by delivery b).commits (left_by delivery b w.memory).queues (left_by delivery b w.memory).fetches)
    (polled node server w) (l.polls node server delivery)
    (λ b is. subst (P (stated_by delivery b).commits (left_by delivery b w.memory).queues)
    (sym (left_fetches delivery b w.memory)) is))

-- a turn that applies an event, or is refused
work_has : (w : World) (P : Claim) → Leaves w P → (node origin : ℕ)
    (r : Result Carried Refusal) →
    OnOk (λ c. P (applied_by c).commits (taken_from c w.memory).queues (taken_from c w.memory).fetches) r →
    Has P (work_ended node origin w r)
work_has w P l node origin (Err (refused.Busy xid)) is = by (at_node node w)
  where
    by : (o : Option (List ℕ × Place)) →
        P [] (given_up origin w.memory o).queues (given_up origin w.memory o).fetches
    by None = l.nothing
    by (Some e) = l.gives_up e.0 origin
work_has w P l node origin r is = taken_has w P l.nothing (λ c. taken_from c w.memory) applied_by r is

pub outcome_has : (w : World) (P : Claim) → Leaves w P → (act : Act) → Has P (outcome act w)
outcome_has w P l (ToRead name reading) = by (is_some (find_named name w.memory.scripts))
  where
    read : (r : Reading) → Has P (read_as name r w)
    read (Wrong refusal) = l.nothing
    read (Read s) = l.nothing

    by : (b : Bool) → Has P (cond b (no_change w (Refused (refused.ScriptUsed name))) (read_as name reading w))
    by true = l.nothing
    by false = read reading
outcome_has w P l (ToStep name) = step_of_has w P l name (find_named name w.memory.scripts)
outcome_has w P l (ToForget name) = by (find_named name w.memory.scripts)
  where
    by : (o : Option Running) → Has P (kill_of name o w)
    by None = l.nothing
    by (Some run) = l.nothing
outcome_has w P l (ToStart node) = switched_has w P l.nothing node _ (λ name. l.nothing) (at_node node w)
outcome_has w P l (ToStop node) = switched_has w P l.nothing node _ l.stops (at_node node w)
outcome_has w P l (ToSync node) =
    taken_has w P l.nothing (λ stated. w.memory) (λ stated. stated) (sync_turn node w) (l.syncs node)
outcome_has w P l (ToListen node server delivery) =
    poll_has w P l node server delivery
outcome_has w P l (ToFetch node origin) =
    taken_has w P l.nothing (λ x. with_fetch x w.memory) fetched_by (fetched node origin w) (l.fetches node origin)
outcome_has w P l (ToWork node origin) =
    work_has w P l node origin (worked node origin w) (l.works node origin)
outcome_has w P l others = l.nothing
