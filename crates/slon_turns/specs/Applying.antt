-- What the work of a node comes to at its database and at what it holds.
use Rattle.std.specs.Prelude.{◌≡◌, ◌==◌, ℕ, nat_lt, Bool, true, false, not, List, [], ◌∷◌, Option, Some, None}
use Rattle.std.specs.Prelude.{Result, Ok}
use Rattle.slon_model.specs.declared.reply.Answer.TheVariants.{Applied}
use Rattle.slon_model.specs.declared.reply.Answered.{Answered}
use Rattle.slon_model.specs.declared.reply.Answered.TheVariants.{Sure, InDoubt}
use Rattle.slon_model.specs.declared.reply.EventKind.{EventKind}
use Rattle.slon_model.specs.declared.reply.Refusal.{Refusal}
use Rattle.slon_model.specs.declared.reply.Refusal.TheVariants as refused
use Rattle.slon_model.specs.declared.reply.Reply.{Reply}
use Rattle.slon_model.specs.Events.{Event, kind_of}
use Rattle.slon_model.specs.Following.{Found, FoundNothing, FoundSyncs, SetSync, brought_of, kept_from, set_sync}
use Rattle.slon_model.specs.Config.{is_known}
use Rattle.slon_model.specs.Deeds.{Node}
use Rattle.slon_model.specs.Logs.{logged}
use Rattle.slon_model.specs.Place.{Place}
use Rattle.slon_model.specs.Sessions.{World, Memory, Seat, bind, checked, seat, when}
use Rattle.slon_model.specs.Turns.{at_node, seat_at}
use Rattle.slon_model.specs.Views.{View, Views}
use Rattle.slon_model.specs.Working.{Copying, Errand, ToCopy, ToFollow, carried, copied, errand_of, given_at}
use Rattle.slon_model.specs.Working.{linked_to, next_at, progress_in, provider_of, still, taken_up}
use Rattle.event_store.specs.declared.event.Event as declared
use Rattle.event_store.specs.declared.queue.Queue.{Queue}
use Rattle.event_store.specs.Seen.{seen_event}
use Rattle.app_store.specs.Base.{Base}
use Rattle.app_store.specs.Fits.{Ready}
use Rattle.remote_worker.specs.declared.worker.Fetched.{Fetched}
use Rattle.remote_worker.specs.declared.worker.Worker.{Worker}
use Rattle.remote_worker.specs.declared.fetches.Fetches.{Fetches}
use Rattle.remote_worker.specs.declared.fetches.Kept.{Kept}
use Rattle.remote_worker.specs.Kept.{IsKeptOf, kept_at}
use Rattle.remote_worker.specs.Loading.{HasFound}
use Rattle.remote_worker.specs.Working.{waits_as}
use Rattle.slon_turns.specs.declared.held.Held.{Held}
use Rattle.slon_turns.specs.declared.working.Aim.{Aim}
use Rattle.slon_turns.specs.declared.working.Aim.TheVariants.{Apply}
use Rattle.slon_turns.specs.declared.working.Work.{Work}
use Rattle.slon_turns.specs.Holding.{Holds, KeepsBut, Stays}
use Rattle.slon_turns.specs.Polling.{GoesAt, Waits}
use Rattle.slon_turns.specs.Working.{CanCarry, CanTurn, Due, Goal, ToApply, end_by, left_after, recalled, stated_turn}

-- what is answered where an event was applied, with this number of rows
abbrev pub applied_as : EventKind → ℕ → ℕ → Bool → Answered
applied_as kind number rows true = InDoubt (Applied kind number rows)
applied_as kind number rows false = Sure (Applied kind number rows)

-- what a turn aims at
abbrev pub goal_in : Work → Goal
goal_in work = record { aim = work.aim; origin = work.origin }

-- the database of each node, by its id
abbrev pub Finder : Type 0
Finder = ℕ → Option (List ℕ × Place)

abbrev pub nodes_at : World → Finder
nodes_at w id = at_node id w

-- the provider at its seat, where it is found so: 75, 68, 44, 16, 62, 63
abbrev pub provided_in : ℕ → Memory → Seat → Event → Option (List ℕ × Place) → Result Seat Refusal
provided_in provider m s e found =
    bind (bind (linked_to provider m s found) (λ found. seat_at provider found))
    (λ p. checked (when (not (is_known s.node.id p.known.config)) (refused.NotKnown s.node.id)
    ∷ when (nat_lt (progress_in e p) e.number) (refused.Behind provider (progress_in e p) e.number) ∷ []) p)

-- what is copied from it
abbrev pub found_from : Copying → Memory → Seat → Event → Option (List ℕ × Place) → Result Found Refusal
found_from c m s e found =
    bind (provided_in c.provider m s e found) (λ p. copied c s e p (given_at c p))

-- what is taken of each of these sets, each from its provider
abbrev pub followed_in : Memory → Seat → Event → Finder → ℕ × View → Result SetSync Refusal
followed_in m s e find v =
    let provider = provider_of e.origin s v.0 in
    bind (provided_in provider m s e (find provider)) (λ p. Ok (set_sync s.node.id s.known e (logged p.node) v))

abbrev pub followed_with : Memory → Seat → Event → Finder → Views → Result (List SetSync) Refusal
followed_with m s e find [] = Ok []
followed_with m s e find (v ∷ more) =
    bind (followed_in m s e find v) (λ t. bind (followed_with m s e find more) (λ ts. Ok (t ∷ ts)))

abbrev pub syncs_with : Memory → Seat → Event → Finder → Result Found Refusal
syncs_with m s e find =
    bind (followed_with m s e find (kept_from e.origin s.known)) (λ ts. Ok (FoundSyncs ts))

-- what is found for an event, where nodes are found so
abbrev pub found_with : Memory → Seat → Event → Finder → Option Errand → Result Found Refusal
found_with m s e find None = Ok FoundNothing
found_with m s e find (Some (ToCopy c)) = found_from c m s e (find c.provider)
found_with m s e find (Some ToFollow) = syncs_with m s e find

-- where this was fetched before and is kept
abbrev pub found_kept : Memory → Seat → Event → Finder → Option Found → Result Found Refusal
found_kept m s e find None = found_with m s e find (errand_of s e)
found_kept m s e find (Some f) = Ok (still s.known f)

-- what the turn comes to for an event
abbrev pub due_of : Aim → Memory → Seat → Event → Finder → Result Due Refusal
due_of aim m s e find = bind (found_kept m s e find (recalled aim s.name e m)) (end_by aim s e)

-- 60, 98, and what it comes to for the next event: what the node at this seat is to do
abbrev pub due_at : Goal → Memory → Seat → Finder → Result Due Refusal
due_at goal m s find =
    bind (taken_up (next_at m s goal.origin)) (λ e. due_of goal.aim m s e find)

-- Work under the rules: what is aimed at, the database of the node, and what is in memory.
pub record Post : Type 0 where
  pub goal : Goal
  pub name : List ℕ
  pub place : Place
  pub node : Node
  pub memory : Memory

abbrev pub seat_in : Post → Seat
seat_in s = seat s.name s.place s.node

-- what is in memory behind it
abbrev pub left_in : Post → Result Due Refusal → Reply → Memory
left_in s due reply = left_after s.goal (Some (s.name, s.place)) due reply s.memory

-- the place agrees with a database, and what is held there with what is in memory; and it is the node
pub record PostFits (s : Post) (old : Base × Held) : Type 0 where
  pub ready : Ready s.place old.0
  pub is : s.place.node ≡ Some s.node
  pub holds : Holds s.name s.memory old.1

-- a refusal or one commit, or what was fetched is kept; and what is held behind it
pub record WorksHere (s : Post) (due : Result Due Refusal) (reply : Reply) (new : Base × Held) : Type 0 where
  pub goes : GoesAt s.name s.place (stated_turn due) reply new.0
  pub stays : Stays s.name (left_in s due reply) new.0 new.1

-- ---- with what was fetched

-- The event is the one that waits, and this comes with it by the rules.
pub record IsFor (w : Worker Fetched) (queue : Queue) (e : declared.Event) (f : Found) : Type 0 where
  pub found : waits_as w.origin w.state.number queue ≡ Some e
  pub kind : w.state.kind ≡ kind_of e.body
  pub finds : HasFound e.origin f w.state.load

-- The same, of which what was fetched for that origin may be taken out of what is held.
pub record EndFits (s : Post) (w : Worker Fetched) (old : Base × Held) : Type 0 where
  pub ready : Ready s.place old.0
  pub is : s.place.node ≡ Some s.node
  pub waits : Waits s.name s.memory old.1.queue
  pub keeps : KeepsBut w.origin s.name s.memory old.1.fetches

-- From every such place where the node can apply the event, and no open transaction wrote one of the tables that are
-- filled: it is applied with what comes with it.
abbrev pub AppliesAt : List ℕ → Worker Fetched → (Base × Held) → Reply → (Base × Held) → Type 0
AppliesAt name w old reply new =
    (s : Post) (e : declared.Event) (f : Found) → s.name ≡ name → s.goal ≡ record { aim = Apply; origin = w.origin } →
    IsFor w old.1.queue e f → EndFits s w old →
    let c = carried (seat_in s) (seen_event e) (brought_of s.place f) in
    CanCarry c → WorksHere s (Ok (ToApply c)) reply new

-- what was fetched is kept of its origin
pub record IsPut (w : Worker Fetched) (old new : Fetches) : Type 0 where
  pub kept : Kept
  pub is : IsKeptOf w kept
  pub here : kept_at w.origin new ≡ Some kept
  pub others : (other : ℕ) → (w.origin == other) ≡ false → kept_at other new ≡ kept_at other old

abbrev pub end_at : Post → declared.Event → Found → Result Due Refusal
end_at s e f = end_by s.goal.aim (seat_in s) (seen_event e) f

-- from every place that fits, with what comes with the event: what the turn comes to
abbrev pub EndsWith : Aim → List ℕ → Worker Fetched → (Base × Held) → Reply → (Base × Held) → Type 0
EndsWith aim name w old reply new =
    (s : Post) (e : declared.Event) (f : Found) → s.name ≡ name → s.goal ≡ record { aim = aim; origin = w.origin } →
    IsFor w old.1.queue e f → EndFits s w old → CanTurn (end_at s e f) → WorksHere s (end_at s e f) reply new
