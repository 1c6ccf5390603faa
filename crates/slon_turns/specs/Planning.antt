-- What a node is to do at its turn under the rules, as far as its own database tells.
use Rattle.std.specs.Prelude.{◌≡◌, ◌==◌, ℕ, Bool, true, false, not, List, [], ◌∷◌, Option, Some, None}
use Rattle.std.specs.Prelude.{option_map}
use Rattle.store_rows.specs.Rows.{IsId}
use Rattle.slon_model.specs.declared.reply.Refusal.{Refusal}
use Rattle.slon_model.specs.declared.reply.Refusal.TheVariants as refused
use Rattle.slon_model.specs.declared.reply.Reply.{Reply}
use Rattle.slon_model.specs.declared.reply.Reply.TheVariants.{Refused}
use Rattle.slon_model.specs.Config.{has_path}
use Rattle.slon_model.specs.Events.{kind_of}
use Rattle.slon_model.specs.Following.{Found}
use Rattle.slon_model.specs.Sessions.{Seat, first_refusal, when}
use Rattle.slon_model.specs.Turns.{are_cut}
use Rattle.slon_model.specs.Working.{errand_of, next_at}
use Rattle.event_store.specs.declared.event.Event.{Event}
use Rattle.event_store.specs.declared.queue.Queue.{Queue}
use Rattle.event_store.specs.Seen.{seen_event}
use Rattle.app_store.specs.Base.{Base}
use Rattle.app_store.specs.Fits.{Fits}
use Rattle.node_store.specs.Acting.{Acts}
use Rattle.remote_worker.specs.declared.fetches.Kept.{Kept}
use Rattle.remote_worker.specs.declared.worker.Fetched.{Fetched}
use Rattle.remote_worker.specs.declared.worker.Taken.{Taken}
use Rattle.remote_worker.specs.declared.worker.Worker.{Worker}
use Rattle.remote_worker.specs.declared.carrying.Errand.TheVariants.{Copy, Follow as ToFollow}
use Rattle.remote_worker.specs.Fetching.{CanCopy}
use Rattle.remote_worker.specs.Kept.{for_number}
use Rattle.remote_worker.specs.Loading.{CanLoad}
use Rattle.remote_worker.specs.Working.{waits_as, IsAble, seen_errand}
use Rattle.slonik_exec.specs.Answering.{Answers}
use Rattle.slon_turns.specs.declared.held.Held.{Held}
use Rattle.slon_turns.specs.declared.planning.Plan.{Plan}
use Rattle.slon_turns.specs.declared.planning.Plan.TheVariants.{Told, Has, Bring, Follow}
use Rattle.slon_turns.specs.declared.working.Aim.{Aim}
use Rattle.slon_turns.specs.declared.working.Aim.TheVariants.{Fetch, Apply}
use Rattle.slon_turns.specs.Applying.{Finder, IsFor, Post, PostFits, WorksHere, due_at, due_of, end_at, seat_in}
use Rattle.slon_turns.specs.Holding.{Holds, KeepsBut}
use Rattle.slon_turns.specs.Polling.{Waits}
use Rattle.slon_turns.specs.Working.{Goal, recalled}

-- ---- over every store

-- what was planned is told of the database, or nothing failed and its memory is as it was
abbrev pub PlanRuns : List ℕ → Base → Plan → Base → Type 0
PlanRuns name old (Told reply) new = Answers name old reply new
PlanRuns name old others new = Acts None old new × (new.memory ≡ old.memory)

-- what was planned can be carried out
abbrev pub CanPlan : Queue → Plan → Type 0
CanPlan queue (Told reply) = Unit {0}
CanPlan queue (Has w) = IsAble (waits_as w.origin w.state.number queue) × CanLoad w.state.load
CanPlan queue (Bring w c) =
    IsAble (waits_as w.origin w.state.number queue) × IsId w.node × CanCopy c × (c.provider ≡ w.node → ⊥)
CanPlan queue (Follow w) = IsAble (waits_as w.origin w.state.number queue) × IsId w.node

-- it is about the events of this origin
abbrev pub PlansFrom : ℕ → Plan → Type 0
PlansFrom origin (Told reply) = Unit {0}
PlansFrom origin (Has w) = w.origin ≡ origin
PlansFrom origin (Bring w c) = w.origin ≡ origin
PlansFrom origin (Follow w) = w.origin ≡ origin

-- it is the node of this id
abbrev pub PlansOwn : ℕ → Plan → Type 0
PlansOwn own (Told reply) = Unit {0}
PlansOwn own (Has w) = w.node ≡ own
PlansOwn own (Bring w c) = w.node ≡ own
PlansOwn own (Follow w) = w.node ≡ own

-- what is kept of the event that was taken, where it is to be applied
abbrev pub kept_to : Aim → ℕ → Option Kept → Option Kept
kept_to Fetch number kept = None
kept_to Apply number kept = for_number number kept

-- ---- by the rules

-- The node took this event of what waits there.
pub record TookUp (s : Post) (w : Worker Taken) (queue : Queue) (e : Event) : Type 0 where
  pub found : waits_as w.origin w.state.number queue ≡ Some e
  pub node : w.node ≡ s.node.id
  pub kind : w.state.kind ≡ kind_of e.body
  pub errand : option_map seen_errand w.state.errand ≡ errand_of (seat_in s) (seen_event e)

-- It is what the node is to fetch or to apply.
pub record IsPlanned (s : Post) (w : Worker Taken) (queue : Queue) : Type 0 where
  pub event : Event
  pub took : TookUp s w queue event
  pub next : next_at s.memory (seat_in s) s.goal.origin ≡ Some (seen_event event)
  pub due : (find : Finder) → due_at s.goal s.memory (seat_in s) find
      ≡ due_of s.goal.aim s.memory (seat_in s) (seen_event event) find

-- and nothing is kept of it that would be applied
pub record IsPlannedAnew (s : Post) (w : Worker Taken) (queue : Queue) : Type 0 where
  pub plan : IsPlanned s w queue
  pub none : recalled s.goal.aim s.name (seen_event plan.event) s.memory ≡ None

-- What comes with the event is there: what was kept, what is left of it, or nothing.
pub record IsHad (s : Post) (w : Worker Fetched) (queue : Queue) : Type 0 where
  pub event : Event
  pub found : Found
  pub for : IsFor w queue event found
  pub due : (find : Finder) → due_at s.goal s.memory (seat_in s) find ≡ end_at s event found

-- 75, 68, 44
abbrev pub link_checks : ℕ → ℕ → List (ℕ × ℕ) → Seat → List (Option Refusal)
link_checks node provider cuts s =
    when (not (has_path node provider s.known.config)) (refused.NoPath provider)
    ∷ when (are_cut node provider cuts) (refused.Severed node provider)
    ∷ when (provider == node) (refused.NoNode provider) ∷ []

-- what is replied where the node has a path
abbrev pub apart_reply : ℕ → ℕ → Bool → Bool → Option Reply
apart_reply node provider true same = Some (Refused (refused.Severed node provider))
apart_reply node provider false true = Some (Refused (refused.NoNode provider))
apart_reply node provider false false = None

-- a node that goes on is another one than the provider
abbrev pub IsApart : ℕ → ℕ → Option Reply → Type 0
IsApart node provider None = provider ≡ node → ⊥
IsApart node provider (Some reply) = Unit {0}

-- none of these keeps the node from the provider
abbrev pub Reaches : Post → ℕ → Type 0
Reaches s provider = first_refusal (link_checks s.node.id provider s.memory.cuts (seat_in s)) ≡ None

-- what is held behind a plan
pub record HeldBehind (s : Post) (origin : ℕ) (left : Held) : Type 0 where
  pub waits : Waits s.name s.memory left.queue
  pub keeps : KeepsBut origin s.name s.memory left.fetches

abbrev pub Plans : Post → Queue → Plan → (Base × Held) → Type 0
Plans s queue (Told reply) new =
    (find : Finder) → WorksHere s (due_at s.goal s.memory (seat_in s) find) reply new
Plans s queue (Has w) new = IsHad s w queue × HeldBehind s w.origin new.1 × Fits s.place new.0
Plans s queue (Bring w c) new =
    IsPlannedAnew s w queue × (w.state.errand ≡ Some (Copy c)) × Reaches s c.provider
    × Holds s.name s.memory new.1 × Fits s.place new.0
Plans s queue (Follow w) new =
    IsPlannedAnew s w queue × (w.state.errand ≡ Some ToFollow) × Holds s.name s.memory new.1 × Fits s.place new.0

-- from every place that fits, where these nodes are cut off from one another
abbrev pub PlansAt : Goal → List (ℕ × ℕ) → List ℕ → (Base × Held) → Plan → (Base × Held) → Type 0
PlansAt goal cuts name old plan new =
    (s : Post) → s.goal ≡ goal → s.name ≡ name → s.memory.cuts ≡ cuts → PostFits s old → Plans s old.1.queue plan new
