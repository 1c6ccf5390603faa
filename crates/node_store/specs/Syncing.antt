-- Whether something happened at a node since its last SYNC.
use Rattle.std.specs.Prelude.{◌≡◌, Bool, false, Option, Some, None}
use Rattle.slon_model.specs.Deeds.{Node, held, knowledge, progress}
use Rattle.slon_model.specs.Events.{last_sync}
use Rattle.slon_model.specs.Place.{Place, taken}
use Rattle.slon_model.specs.Snapshots.{Snapshot}
use Rattle.slon_model.specs.Turns.{same_snapshot, has_snapshot}

-- the snapshot of the last SYNC, if there is one, is this one
abbrev pub has_taken : Snapshot → Option Snapshot → Bool
has_taken now None = false
has_taken now (Some taken) = same_snapshot taken now

-- the last SYNC of the node has the snapshot that is taken now
abbrev pub IsSynced : Place → Bool → Type 0
IsSynced p found =
    (n : Node) → p.node ≡ Some n →
    found ≡ has_snapshot (taken p) (last_sync n.id (held n) (progress n.id (knowledge n)))
