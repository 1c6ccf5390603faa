-- What a node takes of what waits there, and what becomes of that where it is applied.
use Rattle.std.specs.Prelude.{◌≡◌, ◌==◌, ◌+◌, ℕ, nat_lt, Bool, true, false, filter}
use Rattle.std.specs.Prelude.{Option, Some, None}
use Rattle.std.specs.Prelude.{option_map, Result}
use Rattle.std.specs.List.{find}
use Rattle.slon_model.specs.declared.fault.DbFault.{DbFault}
use Rattle.slon_model.specs.declared.reply.Answered.{Answered}
use Rattle.slon_model.specs.Events.{kind_of}
use Rattle.slon_model.specs.Deeds.{Node, knowledge, progress}
use Rattle.slon_model.specs.Working as rules
use Rattle.slon_model.specs.Working.{can_carry_out, errand_in, receives_from}
use Rattle.event_store.specs.declared.event.Event.{Event}
use Rattle.event_store.specs.declared.queue.Queue.{Queue}
use Rattle.event_store.specs.Keeping.{KeepsViews}
use Rattle.event_store.specs.Queueing.{waiting}
use Rattle.event_store.specs.Seen.{seen_event}
use Rattle.app_store.specs.Base.{Base}
use Rattle.node_store.specs.declared.bringing.Brought.{Brought}
use Rattle.node_store.specs.Bringing.{AppliesWith}
use Rattle.remote_worker.specs.declared.carrying.Copying.{Copying}
use Rattle.remote_worker.specs.declared.carrying.Errand.{Errand}
use Rattle.remote_worker.specs.declared.carrying.Errand.TheVariants.{Copy, Follow}
use Rattle.remote_worker.specs.declared.loading.Load.{Load}
use Rattle.remote_worker.specs.declared.worker.Next.{Next}
use Rattle.remote_worker.specs.declared.worker.Next.TheVariants.{Due, Missing, NotBuilt}
use Rattle.remote_worker.specs.declared.worker.Fetched.{Fetched}
use Rattle.remote_worker.specs.declared.worker.Ready.{Ready}
use Rattle.remote_worker.specs.declared.worker.Settled.{Settled}
use Rattle.remote_worker.specs.declared.worker.Taken.{Taken}
use Rattle.remote_worker.specs.declared.worker.Worker.{Worker}
use Rattle.remote_worker.specs.Loading.{brought_by}

-- ---- what waits

-- the event of an origin with this number, if it waits
abbrev pub waits_as : ℕ → ℕ → Queue → Option Event
waits_as origin number queue = find (λ e. e.number == number) (waiting origin queue)

-- the set that is copied, by the rules
abbrev pub seen_copying : Copying → rules.Copying
seen_copying c = record { set_id = c.set; provider = c.provider; era = c.era }

-- what is to be brought, by the rules
abbrev pub seen_errand : Errand → rules.Errand
seen_errand (Copy c) = rules.ToCopy (seen_copying c)
seen_errand Follow = rules.ToFollow

-- It waits, the node can carry it out, and this is known of it.
pub record IsDue (ready : Worker Ready) (found : Option Event) (taken : Taken) : Type 0 where
  pub event : Event
  pub is : found ≡ Some event
  pub can : can_carry_out event.body ≡ true
  pub kind : taken.kind ≡ kind_of event.body
  pub errand : option_map seen_errand taken.errand
      ≡ errand_in ready.node ready.state.receives ready.origin event.body

-- which event of an origin comes next at a node
pub record IsReady (origin : ℕ) (n : Node) (w : Worker Ready) : Type 0 where
  pub node : w.node ≡ n.id
  pub number : w.state.number ≡ progress origin (knowledge n) + 1
  pub receives : w.state.receives ≡ receives_from origin (knowledge n)

-- the event that was found leaves how far the node is in sets
abbrev pub IsAble : Option Event → Type 0
IsAble found = (e : Event) × (found ≡ Some e) × KeepsViews e.body

-- the event is the same, and this comes with it
pub record IsWith (taken : Worker Taken) (load : Option Load) (w : Worker Fetched) : Type 0 where
  pub node : w.node ≡ taken.node
  pub origin : w.origin ≡ taken.origin
  pub number : w.state.number ≡ taken.state.number
  pub kind : w.state.kind ≡ taken.state.kind
  pub load_is : w.state.load ≡ load

-- the event is the same
pub record IsSameEvent (old new : Worker Fetched) : Type 0 where
  pub node : new.node ≡ old.node
  pub origin : new.origin ≡ old.origin
  pub number : new.state.number ≡ old.state.number
  pub kind : new.state.kind ≡ old.state.kind

-- and is to be applied with what comes with it
pub record IsSettled (fetched : Worker Fetched) (w : Worker Settled) : Type 0 where
  pub node : w.node ≡ fetched.node
  pub origin : w.origin ≡ fetched.origin
  pub number : w.state.number ≡ fetched.state.number
  pub brought_is : w.state.brought ≡ brought_by fetched.state.load

-- what the node of this id takes of the event of an origin with this number
abbrev pub Takes : Worker Ready → Queue → Next → Type 0
Takes ready queue (Due w) =
    (w.node ≡ ready.node) × (w.origin ≡ ready.origin) × (w.state.number ≡ ready.state.number)
    × IsDue ready (waits_as ready.origin ready.state.number queue) w.state
Takes ready queue Missing = waits_as ready.origin ready.state.number queue ≡ None
Takes ready queue NotBuilt =
    (e : Event) × (waits_as ready.origin ready.state.number queue ≡ Some e)
    × (can_carry_out e.body ≡ false)

-- ---- where it is applied

-- the node applies the event that was found with what it brings, in one commit
abbrev pub Applies : Option Event → Option Brought → Base → Result Answered DbFault → Base → Type 0
Applies found brought old result new =
    (e : Event) → found ≡ Some e → AppliesWith (seen_event e) brought old result new

-- the events of an origin up to this number wait no more
pub record Drops (origin number : ℕ) (old new : Queue) : Type 0 where
  pub here : waiting origin new ≡ filter (λ e. nat_lt number e.number) (waiting origin old)
  pub others : (other : ℕ) → (origin == other) ≡ false → waiting other new ≡ waiting other old

-- unless the commit is in doubt
abbrev pub DropsUnless : ℕ → ℕ → Queue → Queue → Bool → Type 0
DropsUnless origin number old new true = new ≡ old
DropsUnless origin number old new false = Drops origin number old new
