-- The turns by which a node fetches and applies an event of another one: the next event of an origin that waits at the
-- node.
use Rattle.std.specs.Prelude.{ℕ, ◌+◌, ◌==◌, ◌&&◌, if◌then◌else◌, not, is_none, nat_lt, Bool, true, false, List, [], ◌∷◌}
use Rattle.std.specs.Prelude.{codes, filter, find, map, Option, Some, None, option_map, unwrap_or, Result, Ok, Err}
use Rattle.std.specs.List.{list_any}
use Rattle.node_rows.specs.declared.body.Body.{Body}
use Rattle.node_rows.specs.declared.body.Body.TheVariants.{Sync, EnableSubscription, MoveSet, AcceptSet}
use Rattle.node_rows.specs.declared.body.Body.TheVariants.{FailoverSet}
use Rattle.slon_model.specs.declared.reply.Answer.TheVariants.{Applied, Fetched as FetchedRows}
use Rattle.slon_model.specs.declared.reply.Refusal.{Refusal}
use Rattle.slon_model.specs.declared.reply.Reply.TheVariants.{Refused}
use Rattle.slon_model.specs.Names.{Named, find_named, without}
use Rattle.slon_model.specs.Maps.{Map, entry_at, pair_at, with_entry, without_entry}
use Rattle.slon_model.specs.Rows.{Rows}
use Rattle.slon_model.specs.Events.{Event, kind_of}
use Rattle.slon_model.specs.Config.{has_path, forwards, is_known, is_origin, era_of}
use Rattle.slon_model.specs.Views.{View, Views, first_view}
use Rattle.slon_model.specs.Deeds.{Brought, Applies, Knowledge, progress, view_of}
use Rattle.slon_model.specs.Logs.{logged}
use Rattle.slon_model.specs.Following.{Found, FoundCopy, FoundNothing, FoundSyncs, SetSync, brought_of, count_of}
use Rattle.slon_model.specs.Following.{kept_from, set_sync, tables_in, tables_taken}
use Rattle.slon_model.specs.Place.{Place, deed, standing_rows, taken}
use Rattle.slon_model.specs.Sessions.{World, Memory, Fetch, Stated, Outcome, Seat, bind, when, checked, no_change}
use Rattle.slon_model.specs.Sessions.{writer_of}
use Rattle.slon_model.specs.Turns.{at_node, seat_at, is_cut, on_turn, same_snapshot, taken_turn}
use Rattle.slon_model.specs.Polls.{queue_at, line_of, with_queue}
use Rattle.slon_model.specs.Snapshots.{Snapshot}
use Rattle.slon_model.specs.declared.reply.Refusal.TheVariants as refused

-- the event behind the last one that the node has applied, if it waits
abbrev pub next_at : Memory → Seat → ℕ → Option Event
next_at m s origin = find (λ e. e.number == progress origin s.known + 1) (line_of origin (queue_at s.name m))

-- ---- what cannot be carried out yet

-- A node takes over no set yet.
abbrev pub can_carry_out : Body → Bool
can_carry_out (MoveSet set old new era feeds) = false
can_carry_out (AcceptSet set old new era moved) = false
can_carry_out (FailoverSet failed limit sets) = false
can_carry_out others = true

-- 60, 98
abbrev pub taken_up : Option Event → Result Event Refusal
taken_up None = Err refused.Nothing
taken_up (Some e) = checked (when (not (can_carry_out e.body)) (refused.NotBuilt (codes "work")) ∷ []) e

-- ---- what is to be found

-- A set that the node is to copy, from which node, and the era of the set in which it was told so.
pub record Copying : Type 0 where
  pub set_id : ℕ
  pub provider : ℕ
  pub era : ℕ

-- What a node is to bring with an event from other nodes: a copy of a set, or what was logged for the sets that the
-- node keeps of the origin.
pub data Errand : Type 0 where
  ToCopy : (copying : Copying) → Errand
  ToFollow : Errand

-- the node keeps a set that had this origin
abbrev pub receives_from : ℕ → Knowledge → Bool
receives_from origin k = list_any (λ v. v.1.origin == origin) k.views

-- The receiver of a new subscription copies the set. A node that keeps sets of an origin brings rows with each SYNC of
-- it, for each set from the provider that it has of the set. Nothing comes to it of itself.
abbrev pub errand_in : ℕ → Bool → ℕ → Body → Option Errand
errand_in own receives origin (EnableSubscription set provider receiver forward era) =
    if receiver == own then Some (ToCopy (record { set_id = set; provider = provider; era = era })) else None
errand_in own receives origin Sync = if receives && not (origin == own) then Some ToFollow else None
errand_in own receives origin others = None

abbrev pub errand_of : Seat → Event → Option Errand
errand_of s e = errand_in s.node.id (receives_from e.origin s.known) e.origin e.body

-- the node from which a node takes a set that it keeps of this origin
abbrev pub provider_of : ℕ → Seat → ℕ → ℕ
provider_of origin s set =
    unwrap_or (option_map (λ u. u.provider) (pair_at set s.node.id s.known.config.subscriptions)) origin

-- the nodes that are read
abbrev pub providers_in : ℕ → Seat → Errand → List ℕ
providers_in origin s (ToCopy c) = c.provider ∷ []
providers_in origin s ToFollow = map (λ v. provider_of origin s v.0) (kept_from origin s.known)

-- the provider, where it is found so: 75, 68, 44 it is the node itself
abbrev pub linked_to : ℕ → Memory → Seat → Option (List ℕ × Place) → Result (Option (List ℕ × Place)) Refusal
linked_to provider m s found =
    checked (when (not (has_path s.node.id provider s.known.config)) (refused.NoPath provider)
    ∷ when (is_cut s.node.id provider m) (refused.Severed s.node.id provider)
    ∷ when (provider == s.node.id) (refused.NoNode provider) ∷ []) found

-- how far a provider is in the stream of the event
abbrev pub progress_in : Event → Seat → ℕ
progress_in e p = progress e.origin p.known

-- 75, 68, 44, 16, 62; 63 the provider has not applied the event: the provider at its seat
abbrev pub provided : ℕ → World → Seat → Event → Result Seat Refusal
provided provider w s e =
    bind (bind (linked_to provider w.memory s (at_node provider w)) (λ found. seat_at provider found))
    (λ p. checked (when (not (is_known s.node.id p.known.config)) (refused.NotKnown s.node.id)
    ∷ when (nat_lt (progress_in e p) e.number) (refused.Behind provider (progress_in e p) e.number) ∷ []) p)

-- the columns of a table, or 0
abbrev pub width_of : List ℕ → Place → ℕ
width_of name p = unwrap_or (find_named name p.tables) 0

-- 52, 57: the node lacks a table, or it has another width at the provider
abbrev pub copy_checks : Place → Place → List (List ℕ) → List (Option Refusal)
copy_checks here there [] = []
copy_checks here there (name ∷ more) =
    when (is_none (find_named name here.tables)) (refused.NoTable name)
    ∷ when (not (width_of name here == width_of name there)) (refused.BadWidth (width_of name here))
    ∷ copy_checks here there more

-- the rows of these tables at the provider
abbrev pub rows_at : Place → List (List ℕ) → Named Rows
rows_at there names = map (λ name. (name, standing_rows there name)) names

-- the provider is the origin of the set in that era
abbrev pub still_leads : Copying → Seat → Bool
still_leads c p = is_origin p.node.id c.set_id p.known.config && era_of c.set_id p.known.config == c.era

-- a provider that forwards the set in that era gives it as the snapshot sees it that it keeps
abbrev pub forwarded : Copying → Seat → Option View → Option Snapshot
forwarded c p None = None
forwarded c p (Some v) = if v.era == c.era && forwards c.set_id p.node.id p.known.config then Some v.seen else None

-- and the origin as its present one does
abbrev pub given_at : Copying → Seat → Option Snapshot
given_at c p =
    if still_leads c p then Some (taken p.place) else forwarded c p (view_of c.set_id p.known)

-- the names of the tables of a set to which a node takes rows
abbrev pub names_taken : Seat → ℕ → List (List ℕ)
names_taken s set = map (λ t. t.1) (tables_taken s.node.id set s.known.config)

-- what a node copies of a provider at this seat; nothing, where that leads or forwards the set no more
abbrev pub copied : Copying → Seat → Event → Seat → Option Snapshot → Result Found Refusal
copied c s e p None = Ok FoundNothing
copied c s e p (Some seen) =
    let names = names_taken s c.set_id in
    checked (copy_checks s.place p.place names)
    (FoundCopy c.set_id (first_view c.era e.origin e.number seen) (rows_at p.place names))

-- what a node takes of one set with a SYNC from what its provider has logged
abbrev pub followed : World → Seat → Event → ℕ × View → Result SetSync Refusal
followed w s e v =
    bind (provided (provider_of e.origin s v.0) w s e) (λ p. Ok (set_sync s.node.id s.known e (logged p.node) v))

-- and of each of these, the first one first
abbrev pub followed_all : World → Seat → Event → Views → Result (List SetSync) Refusal
followed_all w s e [] = Ok []
followed_all w s e (v ∷ more) = bind (followed w s e v) (λ t. bind (followed_all w s e more) (λ ts. Ok (t ∷ ts)))

-- ---- what is found

-- what a node finds for an event
abbrev pub found_by : World → Seat → Event → Option Errand → Result Found Refusal
found_by w s e None = Ok FoundNothing
found_by w s e (Some (ToCopy c)) =
    bind (provided c.provider w s e) (λ p. copied c s e p (given_at c p))
found_by w s e (Some ToFollow) = bind (followed_all w s e (kept_from e.origin s.known)) (λ ts. Ok (FoundSyncs ts))

-- the nodes of which the databases are read for that, besides the node's own
abbrev pub sources_by : ℕ → Seat → Option Errand → List ℕ
sources_by origin s None = []
sources_by origin s (Some a) = providers_in origin s a

-- ---- what was fetched

-- by origin, what the node of a database fetched and keeps
abbrev pub fetches_at : List ℕ → Memory → Map Fetch
fetches_at name m = unwrap_or (find_named name m.fetches) []

abbrev pub with_fetches : List ℕ → Map Fetch → Memory → Memory
with_fetches name fetches m = record m { fetches = (name, fetches) ∷ without name m.fetches }

-- what was fetched for an origin is gone
abbrev pub without_fetch : List ℕ → ℕ → Memory → Memory
without_fetch name origin m = with_fetches name (without_entry origin (fetches_at name m)) m

-- it was fetched for an event of this number
abbrev pub fetched_for : ℕ → Option Fetch → Option Found
fetched_for number None = None
fetched_for number (Some f) = if f.number == number then Some f.found else None

-- what the node of this database fetched for an event of this origin and keeps
abbrev pub kept_fetch : List ℕ → ℕ → Event → Memory → Option Found
kept_fetch name origin e m = fetched_for e.number (entry_at origin (fetches_at name m))

-- all fields are the same
abbrev pub same_view : View → View → Bool
same_view a b =
    a.era == b.era && (a.origin == b.origin && (a.number == b.number && (same_snapshot a.seen b.seen
    && (a.base_era == b.base_era && same_snapshot a.base b.base))))

abbrev pub is_view : View → Option View → Bool
is_view v None = false
is_view v (Some kept) = same_view kept v

-- the view that the node keeps of the set is the one that stood as this was read
abbrev pub stands : Knowledge → SetSync → Bool
stands k t = is_view t.before (view_of t.set_id k)

-- what was fetched of sets of which the view that stood then stands still
abbrev pub still : Knowledge → Found → Found
still k (FoundSyncs syncs) = FoundSyncs (filter (stands k) syncs)
still k others = others

-- what was fetched, or else what is found now
abbrev pub found_or : World → Seat → Event → Option Found → Result Found Refusal
found_or w s e None = found_by w s e (errand_of s e)
found_or w s e (Some f) = Ok (still s.known f)

abbrev pub found_for : World → Seat → Event → Result Found Refusal
found_for w s e = found_or w s e (kept_fetch s.name e.origin e w.memory)

-- ---- the databases that are read

-- as a node fetches what comes with its next event
abbrev pub fetch_sources : Seat → Option Event → List ℕ
fetch_sources s None = []
fetch_sources s (Some e) = sources_by e.origin s (errand_of s e)

abbrev pub fetch_sources_at : World → ℕ → Result Seat Refusal → List ℕ
fetch_sources_at w origin (Err refusal) = []
fetch_sources_at w origin (Ok s) = fetch_sources s (next_at w.memory s origin)

abbrev pub fetch_sources_of : ℕ → ℕ → World → List ℕ
fetch_sources_of node origin w = fetch_sources_at w origin (on_turn node w)

-- as a node applies it: none, where that was fetched before
abbrev pub sources_or : Seat → Event → Option Found → List ℕ
sources_or s e None = sources_by e.origin s (errand_of s e)
sources_or s e (Some f) = []

abbrev pub sources_for : World → Seat → Option Event → List ℕ
sources_for w s None = []
sources_for w s (Some e) = sources_or s e (kept_fetch s.name e.origin e w.memory)

abbrev pub sources_at : World → ℕ → Result Seat Refusal → List ℕ
sources_at w origin (Err refusal) = []
sources_at w origin (Ok s) = sources_for w s (next_at w.memory s origin)

abbrev pub sources_of : ℕ → ℕ → World → List ℕ
sources_of node origin w = sources_at w origin (on_turn node w)

-- ---- the turn that fetches

-- What a node fetched: the node at its seat, the event, and what it found.
pub record Fetched : Type 0 where
  pub seat : Seat
  pub event : Event
  pub found : Found

abbrev pub having_fetched : Seat → Event → Found → Fetched
having_fetched s e f = record { seat = s; event = e; found = f }

abbrev pub fetched_at : World → Seat → Event → Result Fetched Refusal
fetched_at w s e = bind (found_by w s e (errand_of s e)) (λ f. Ok (having_fetched s e f))

-- 44, 16, 67 of the node, 60, 98, and the refusals of what is found
abbrev pub fetched : ℕ → ℕ → World → Result Fetched Refusal
fetched node origin w =
    bind (on_turn node w) (λ s. bind (taken_up (next_at w.memory s origin)) (fetched_at w s))

-- what is answered; nothing is committed
abbrev pub fetched_by : Fetched → Stated
fetched_by x = record { answer = FetchedRows x.event.number (count_of x.found); commits = [] }

abbrev pub fetch_of : Fetched → Fetch
fetch_of x = record { number = x.event.number; found = x.found }

-- the node keeps it, in the place of what it fetched for that origin before
abbrev pub with_fetch : Fetched → Memory → Memory
with_fetch x m =
    with_fetches x.seat.name (with_entry x.event.origin (fetch_of x) (fetches_at x.seat.name m)) m

-- `fetch N X`
abbrev pub fetch_outcome : ℕ → ℕ → World → Outcome
fetch_outcome node origin w = taken_turn w (λ x. with_fetch x w.memory) fetched_by (fetched node origin w)

-- ---- the turn

-- An event that a node applies: the node at its seat, the event, and what it brings.
pub record Carried : Type 0 where
  pub seat : Seat
  pub event : Event
  pub brought : Brought

abbrev pub carried : Seat → Event → Brought → Carried
carried s e b = record { seat = s; event = e; brought = b }

-- 66
abbrev pub settled : Seat → Event → Found → Result Carried Refusal
settled s e f =
    checked (option_map refused.Busy (writer_of (tables_in f) s.place) ∷ []) (carried s e (brought_of s.place f))

abbrev pub carried_at : World → Seat → Event → Result Carried Refusal
carried_at w s e = bind (found_for w s e) (settled s e)

-- 44, 16, 67 of the node, 60, 98, the refusals of what is found, where nothing was fetched, and 66
abbrev pub worked : ℕ → ℕ → World → Result Carried Refusal
worked node origin w =
    bind (on_turn node w) (λ s. bind (taken_up (next_at w.memory s origin)) (carried_at w s))

-- what is answered, and the one commit
abbrev pub applied_by : Carried → Stated
applied_by c = record {
  answer = Applied (kind_of c.event.body) c.event.number c.brought.count;
  commits =
      record {
        name = c.seat.name;
        becomes = None;
        deeds = deed c.seat.place [] c.brought.logs (Applies c.event c.brought) ∷ [];
      } ∷ [];
}

-- it waits no more, nor does what is before it, and what was fetched is used up
abbrev pub taken_from : Carried → Memory → Memory
taken_from c m =
    let queue = queue_at c.seat.name m in
    without_fetch c.seat.name c.event.origin (with_queue c.seat.name
    (with_entry c.event.origin (filter (λ f. nat_lt c.event.number f.number) (line_of c.event.origin queue)) queue) m)

-- what was fetched is given up
abbrev pub given_up : ℕ → Memory → Option (List ℕ × Place) → Memory
given_up origin m None = m
given_up origin m (Some e) = without_fetch e.0 origin m

-- where an open transaction stands in the way, what was fetched is given up
abbrev pub work_ended : ℕ → ℕ → World → Result Carried Refusal → Outcome
work_ended node origin w (Err (refused.Busy xid)) =
    record (no_change w (Refused (refused.Busy xid))) { memory = given_up origin w.memory (at_node node w) }
work_ended node origin w due = taken_turn w (λ c. taken_from c w.memory) applied_by due

-- `work N X`
abbrev pub work_outcome : ℕ → ℕ → World → Outcome
work_outcome node origin w = work_ended node origin w (worked node origin w)
