-- What a node is to do with the event that it took, where it keeps what comes with that, and where it keeps nothing.
use Rattle.std.specs.Prelude.{◌≡◌, ℕ, List, [], Option, Some, None}
use Rattle.slon_model.specs.Deeds.{Node, knowledge}
use Rattle.slon_model.specs.Place.{Place}
use Rattle.app_store.specs.Base.{Base}
use Rattle.app_store.specs.Fits.{Fits, Ready}
use Rattle.remote_worker.specs.declared.carrying.Copying.{Copying}
use Rattle.remote_worker.specs.declared.carrying.Errand.{Errand}
use Rattle.remote_worker.specs.declared.carrying.Errand.TheVariants.{Copy, Follow as ToFollow}
use Rattle.remote_worker.specs.declared.loading.Load.{Load}
use Rattle.remote_worker.specs.declared.worker.Fetched.{Fetched}
use Rattle.remote_worker.specs.declared.worker.Taken.{Taken}
use Rattle.remote_worker.specs.declared.worker.Worker.{Worker}
use Rattle.remote_worker.specs.Fetching.{CanCopy}
use Rattle.remote_worker.specs.Loading.{CanLoad, IsStill}
use Rattle.remote_worker.specs.Working.{IsWith}
use Rattle.slonik_exec.specs.Answering.{AtSeat, EndsAt}
use Rattle.slon_turns.specs.declared.planning.Plan.{Plan}
use Rattle.slon_turns.specs.declared.planning.Plan.TheVariants.{Told, Has, Bring, Follow}
use Rattle.slon_turns.specs.Planning.{link_checks}

-- ---- it keeps something

-- the event is the same
pub record IsTakenAs (taken : Worker Taken) (w : Worker Fetched) : Type 0 where
  pub node : w.node ≡ taken.node
  pub origin : w.origin ≡ taken.origin
  pub number : w.state.number ≡ taken.state.number
  pub kind : w.state.kind ≡ taken.state.kind
  pub can : CanLoad w.state.load

abbrev pub IsRecalled : Worker Taken → Plan → Type 0
IsRecalled taken (Told reply) = Unit {0}
IsRecalled taken (Has w) = IsTakenAs taken w
IsRecalled taken others = ⊥

-- what is left of it is there, or the store failed
abbrev pub Recalls : List ℕ → Option Load → Base → Plan → Base → Type 0
Recalls name load old (Told reply) new =
    (p : Place) (n : Node) → Ready p old → p.node ≡ Some n → EndsAt name p [] reply new
Recalls name load old (Has w) new =
    (p : Place) (n : Node) → Ready p old → p.node ≡ Some n → IsStill (knowledge n) load w.state.load × Fits p new
Recalls name load old others new = ⊥

-- ---- it keeps nothing

-- what is to be brought can be brought
abbrev pub IsBringer : Option Errand → Type 0
IsBringer None = Unit {0}
IsBringer (Some (Copy c)) = CanCopy c
IsBringer (Some others) = Unit {0}

-- the copy of the event
pub record IsSent (taken w : Worker Taken) (c : Copying) : Type 0 where
  pub same : w ≡ taken
  pub some : taken.state.errand ≡ Some (Copy c)
  pub apart : c.provider ≡ taken.node → ⊥

abbrev pub IsAnew : Worker Taken → Plan → Type 0
IsAnew taken (Told reply) = Unit {0}
IsAnew taken (Has w) = IsWith taken None w × (taken.state.errand ≡ None)
IsAnew taken (Bring w c) = IsSent taken w c
IsAnew taken (Follow w) = (w ≡ taken) × (taken.state.errand ≡ Some ToFollow)

-- the link to the node from which it is to be brought is as it should be, or not, or the store failed
abbrev pub PlansAnew : Worker Taken → List (ℕ × ℕ) → List ℕ → Base → Plan → Base → Type 0
PlansAnew taken cuts name old (Told reply) new =
    (c : Copying) × (taken.state.errand ≡ Some (Copy c))
    × AtSeat name (link_checks taken.node c.provider cuts) old (Some reply) new
PlansAnew taken cuts name old (Bring w c) new = AtSeat name (link_checks taken.node c.provider cuts) old None new
PlansAnew taken cuts name old others new = new ≡ old
