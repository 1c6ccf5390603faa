-- What the rules know of a whole session, which commits a step makes in it, and what they leave.
use Rattle.std.specs.Prelude.{ℕ, ◌+◌, ◌==◌, ◌&&◌, if◌then◌else◌, not, nat_le, Bool, true, false, List, [], ◌∷◌, ◌++◌}
use Rattle.std.specs.Prelude.{find, Option, Some, None, option_map, Result, Ok, Err}
use Rattle.std.specs.Option.{option_or}
use Rattle.std.specs.List.{list_any}
use Rattle.slonik_script.specs.declared.script.Statement.{Statement}
use Rattle.slon_model.specs.declared.reply.Answer.{Answer}
use Rattle.slon_model.specs.declared.reply.Refusal.{Refusal}
use Rattle.slon_model.specs.declared.reply.Reply.{Reply}
use Rattle.slon_model.specs.Names.{Named, find_named, put_named, without}
use Rattle.slon_model.specs.Maps.{Map}
use Rattle.slon_model.specs.Rows.{Rows}
use Rattle.node_rows.specs.declared.body.Body.{Body}
use Rattle.slon_model.specs.Events.{Event}
use Rattle.slon_model.specs.Deeds.{Node, Deed, Emits, Knowledge, knowledge, with_deeds, progress, emitted_by}
use Rattle.slon_model.specs.Following.{Found}
use Rattle.slon_model.specs.Logs.{named}
use Rattle.slon_model.specs.Place.{Place, is_running, fallen, doubted, deed, filled_by, open_xids, taken}
use Rattle.slon_model.specs.Moves.{is_last_stamp, stored_limit}

-- What a node fetched for its next event of an origin: the number of the event, and what it found.
pub record Fetch : Type 0 where
  pub number : ℕ
  pub found : Found

-- A script that runs: its cluster, its NODE lines, what is left of it, the last number that it has emitted at each
-- node, and since when it waits.
pub record Running : Type 0 where
  pub cluster : List ℕ
  pub lines : Map (List ℕ)
  pub todo : List Statement
  pub last : Map ℕ
  pub since : Option ℕ

-- What a session keeps besides its databases. What a node had in memory is gone when its database comes up again.
pub record Memory : Type 0 where
  pub clock : ℕ
  pub cuts : List (ℕ × ℕ)
  -- the nodes whose slon is on
  pub started : List ℕ
  -- by the name of a database and by origin: the events that wait at its node, in the order of their numbers, and what
  -- it fetched and keeps
  pub queues : Named (Map (List Event))
  pub fetches : Named (Map Fetch)
  pub scripts : Named Running

-- What the rules know of a session: how many databases it allows, its databases in the order of their making, and the
-- rest.
pub record World : Type 0 where
  pub limit : ℕ
  pub places : Named Place
  pub memory : Memory

abbrev pub no_memory : Memory
no_memory = record { clock = 0; cuts = []; started = []; queues = []; fetches = []; scripts = [] }

abbrev pub start : ℕ → World
start limit = record { limit = limit; places = []; memory = no_memory }

-- ---- a database of it changes

-- the queue and the fetched events of the node of a database are gone
abbrev pub forgotten : List ℕ → Memory → Memory
forgotten name m = record m { queues = without name m.queues; fetches = without name m.fetches }

-- a database that comes up has nothing in memory of what it had before it went down
abbrev pub remembered : List ℕ → Option Place → Place → Memory → Memory
remembered name None q m = m
remembered name (Some p) q m = if is_running q.standing && not (is_running p.standing) then forgotten name m else m

abbrev pub changed : List ℕ → Place → World → World
changed name q w =
    record {
      limit = w.limit;
      places = put_named name q w.places;
      memory = remembered name (find_named name w.places) q w.memory;
    }

abbrev pub with_memory : Memory → World → World
with_memory m w = record w { memory = m }

-- a new database behind the others
abbrev pub adopted : List ℕ → Place → World → World
adopted name p w = record w { places = w.places ++ (name, p) ∷ [] }

-- ---- commits

-- One transaction of the store of a database: the node that it becomes, and what the node does, the newest deed first.
pub record Commit : Type 0 where
  pub name : List ℕ
  pub becomes : Option Node
  pub deeds : List Deed

-- a database whose commit stands
abbrev pub committing : Commit → Place → Place
committing c p =
    record p {
      fillings = filled_by p c.deeds p.fillings;
      node = option_map (with_deeds c.deeds) (option_or c.becomes p.node);
      stamp = p.stamp + 1;
    }

-- a database whose commit is in doubt, and stands or not
abbrev pub in_doubt : Commit → Bool → Place → Place
in_doubt c stands p =
    record (doubted stands (if stands then committing c p else p)) {
      promised = option_or (option_map (λ n. n.id) c.becomes) p.promised;
    }

abbrev pub stood_at : Commit → Option Place → Named Place → Named Place
stood_at c None ps = ps
stood_at c (Some p) ps = put_named c.name (committing c p) ps

-- the databases after these commits, in this order
abbrev pub stood : List Commit → Named Place → Named Place
stood [] ps = ps
stood (c ∷ cs) ps = stood cs (stood_at c (find_named c.name ps) ps)

-- a database that commits is up, so nothing is forgotten
abbrev pub stand : List Commit → World → World
stand cs w = record w { places = stood cs w.places }

-- ---- what a step comes to

-- What an accepted statement or turn answers, and its commits in the order in which they are made.
pub record Stated : Type 0 where
  pub answer : Answer
  pub commits : List Commit

-- The reply that is due, the commits of its effect, the database that a number which is too big takes down, and what
-- else is in memory after it.
pub record Outcome : Type 0 where
  pub reply : Reply
  pub commits : List Commit
  pub falls : Option (List ℕ)
  pub memory : Memory

abbrev pub no_change : World → Reply → Outcome
no_change w reply = record { reply = reply; commits = []; falls = None; memory = w.memory }

-- a database goes down
abbrev pub felled_at : List ℕ → Option Place → World → World
felled_at name None w = w
felled_at name (Some p) w = changed name (fallen p.told p) w

abbrev pub felled : Option (List ℕ) → World → World
felled None w = w
felled (Some name) w = felled_at name (find_named name w.places) w

abbrev pub after_outcome : Outcome → World → World
after_outcome o w = felled o.falls (stand o.commits (with_memory o.memory w))

-- the first of these commits whose stamp would be above the limit of stored numbers
abbrev pub beyond_at : Commit → Option Place → Option (List ℕ) → Option (List ℕ)
beyond_at c None more = more
beyond_at c (Some p) more = if is_last_stamp p then Some c.name else more

abbrev pub first_beyond : List Commit → Named Place → Option (List ℕ)
first_beyond [] ps = None
first_beyond (c ∷ cs) ps =
    let found = find_named c.name ps in
    beyond_at c found (first_beyond cs (stood_at c found ps))

-- the first of them with an event whose number would be
abbrev pub is_late : Option Event → Bool
is_late None = false
is_late (Some e) = nat_le stored_limit e.number

abbrev pub has_late : List Deed → Bool
has_late ds = list_any (λ d. is_late (emitted_by d.doing)) ds

abbrev pub first_late : List Commit → Option (List ℕ)
first_late [] = None
first_late (c ∷ cs) = if has_late c.deeds then Some c.name else first_late cs

-- A number above the limit would be stored: the database that goes down for it, and the space of the number.
pub record Excess : Type 0 where
  pub name : List ℕ
  pub space : ℕ

abbrev pub excess_by : Option (List ℕ) → Option (List ℕ) → Option Excess
excess_by (Some name) late = Some (record { name = name; space = 1 })
excess_by None (Some name) = Some (record { name = name; space = 10 })
excess_by None None = None

-- of commits in this order; all stamps are looked at before the numbers of events
abbrev pub excess_of : List Commit → Named Place → Option Excess
excess_of cs ps = excess_by (first_beyond cs ps) (first_late cs)

-- ---- refusals in order

abbrev pub bind : {A B : Type 0} → Result A Refusal → (A → Result B Refusal) → Result B Refusal
bind (Ok a) f = f a
bind (Err refusal) f = Err refusal

-- refused so where the condition holds
abbrev pub when : Bool → Refusal → Option Refusal
when true refusal = Some refusal
when false refusal = None

-- what is refused first, where each of these looks at one thing
abbrev pub first_refusal : List (Option Refusal) → Option Refusal
first_refusal [] = None
first_refusal (None ∷ more) = first_refusal more
first_refusal (Some refusal ∷ more) = Some refusal

abbrev pub unless_refused : {A : Type 0} → Option Refusal → A → Result A Refusal
unless_refused None a = Ok a
unless_refused (Some refusal) a = Err refusal

abbrev pub checked : {A : Type 0} → List (Option Refusal) → A → Result A Refusal
checked checks a = unless_refused (first_refusal checks) a

-- ---- databases that are nodes

-- A database that is up and a node, with what that knows.
pub record Seat : Type 0 where
  pub name : List ℕ
  pub place : Place
  pub node : Node
  pub known : Knowledge

abbrev pub seat : List ℕ → Place → Node → Seat
seat name p n = record { name = name; place = p; node = n; known = knowledge n }

abbrev pub seat_of : Refusal → List ℕ × Place → Option Node → Result Seat Refusal
seat_of none e None = Err none
seat_of none e (Some n) = Ok (seat e.0 e.1 n)

-- the least open transaction that wrote one of these tables
abbrev pub writer_of : List (List ℕ) → Place → Option ℕ
writer_of names p = find (λ x. list_any (λ a. a.xid == x && named a.table names) p.actions) (open_xids p)

-- ---- emitting

-- What a node emits, with the rows that it gives to tables.
pub record Emission : Type 0 where
  pub body : Body
  pub rows : Named Rows

-- one that gives none
abbrev pub tells : Body → Emission
tells body = record { body = body; rows = [] }

-- the deeds by which a node emits these, the last one first
abbrev pub emissions : Seat → ℕ → List Emission → List Deed
emissions s number [] = []
emissions s number (m ∷ ms) =
    let event : Event = record { origin = s.node.id; number = number; taken = taken s.place; body = m.body } in
    emissions s (number + 1) ms ++ deed s.place m.rows [] (Emits event) ∷ []

abbrev pub next_event : Seat → ℕ
next_event s = progress s.node.id s.known + 1
