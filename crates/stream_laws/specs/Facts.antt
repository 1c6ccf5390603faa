-- What holds of every node of a session that is reached by steps.
use Rattle.std.specs.Prelude.{◌≡◌, ℕ, ◌≤◌, List, length, Some}
use Rattle.std.specs.List.{AllByRecursion}
use Rattle.slon_model.specs.Names.{Named}
use Rattle.slon_model.specs.Maps.{Map, number_at}
use Rattle.slon_model.specs.Events.{Event}
use Rattle.slon_model.specs.Deeds.{Node, knowledge, stream, met, progress}
use Rattle.slon_model.specs.Sessions.{World}
use Rattle.slon_laws.specs.Sound.{AreNamedOnce}
use Rattle.stream_laws.specs.Nodes.{Nodes, nodes_in, IsKnown, IsEvent, HasConfirmed, WaitsAt}
use Rattle.stream_laws.specs.Making.{Mark, IsMade, AreEmitted, IsMarked}
use Rattle.stream_laws.specs.Applied.{applied_events, HasApplied}

-- what all of a node's confirmations of an origin say is so
abbrev pub RowConfirmed : Nodes → ℕ × Map ℕ → Type 0
RowConfirmed nodes row = AllByRecursion (λ c. HasConfirmed nodes (row.0, c.0, c.1)) row.1

-- no entry is above the number that is found at its id
abbrev pub IsFirstOf : Map ℕ → ℕ × ℕ → Type 0
IsFirstOf all e = e.1 ≤ number_at e.0 all

-- What holds of a node, beside all nodes of its session.
pub record Facts (nodes : Nodes) (n : Node) : Type 0 where
  -- it knows itself
  pub knows : IsKnown n.id (knowledge n).config
  -- its stream is as it may be, and it is at the end of it
  pub emitted : AreEmitted n.id (stream n)
  pub whole : progress n.id (knowledge n) ≡ length (stream n)
  -- it has deleted no more than it has had, and has had no more than there is; it knows what that makes known
  pub low : (origin : ℕ) → number_at origin (knowledge n).low ≤ progress origin (knowledge n)
  pub first : AllByRecursion (IsFirstOf (knowledge n).progress) (knowledge n).progress
  pub marked : IsMarked nodes (knowledge n).config (knowledge n).progress
  -- it applied each event once
  pub applied : HasApplied n.id n.given.progress (knowledge n).progress (applied_events n)
  -- what it was told of others, and the events that it met
  pub told : AllByRecursion (RowConfirmed nodes) (knowledge n).told
  pub met : AllByRecursion (IsEvent nodes) (met n)

-- What holds of all nodes of a session: of each one, no two have one id, and no two events make the same known.
pub record AreRegular (nodes : Nodes) : Type 0 where
  pub each : (name : List ℕ) (n : Node) → nodes name ≡ Some n → Facts nodes n
  pub apart : (a b : List ℕ) (m n : Node) → nodes a ≡ Some m → nodes b ≡ Some n → m.id ≡ n.id → a ≡ b
  pub once : (mark : Mark) (x y : IsMade nodes mark) → (x.name ≡ y.name) × (x.event.number ≡ y.event.number)

-- ---- a session

-- an event that waits in the line of an origin is one of the stream of that origin, which is known where it waits
abbrev pub WaitsIn : Nodes → List ℕ → ℕ → Event → Type 0
WaitsIn nodes name origin e = WaitsAt nodes name e × (e.origin ≡ origin)

-- so do all events that wait at the node of the database of this name
abbrev pub LinesAre : Nodes → List ℕ → Map (List Event) → Type 0
LinesAre nodes name queue = AllByRecursion (λ line. AllByRecursion (WaitsIn nodes name line.0) line.1) queue

abbrev pub AllWait : Nodes → Named (Map (List Event)) → Type 0
AllWait nodes queues = AllByRecursion (λ q. LinesAre nodes q.0 q.1) queues

pub record IsRegular (w : World) : Type 0 where
  pub once : AreNamedOnce w.places
  pub nodes : AreRegular (nodes_in w.places)
  pub waits : AllWait (nodes_in w.places) w.memory.queues
