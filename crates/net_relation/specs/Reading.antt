-- What the stream of the origin of a set says, as the laws of nets tell it.
use Rattle.std.specs.Prelude.{ℕ, ◌==◌, if◌then◌else◌, false, List, [], map, Option, Some, None}
use Rattle.net_laws.specs.Subscriptions.{Event as Said, Sync as Syncs, Subscribe, Enable, Unsubscribe, Unrelated}
use Rattle.net_laws.specs.Subscriptions.{DropSet as Ends, Start}
use Rattle.net_laws.specs.Subscriptions.{Subscription as Row}
use Rattle.net_laws.specs.Net.{Net, Node as NetNode}
use Rattle.node_rows.specs.declared.body.Body.{Body}
use Rattle.node_rows.specs.declared.body.Body.TheVariants.{Sync, DropSet, SubscribeSet, EnableSubscription}
use Rattle.node_rows.specs.declared.body.Body.TheVariants.{UnsubscribeSet}
use Rattle.node_rows.specs.declared.rows.Subscription.{Subscription}
use Rattle.slon_model.specs.Snapshots.{Snapshot}
use Rattle.slon_model.specs.Events.{Event}
use Rattle.slon_model.specs.Views.{View}
use Rattle.image_laws.specs.Moments.{count_of}

-- ---- events

-- What an event says of a set, by its body and its snapshot. A SYNC tells how many transactions had ended. No event
-- that is emitted so far moves the set away.
abbrev pub said_by : ℕ → Snapshot → Body → Said
said_by set taken Sync = Syncs (count_of taken)
said_by set taken (SubscribeSet id provider receiver forward) =
    if id == set then Subscribe receiver provider forward else Unrelated
said_by set taken (EnableSubscription id provider receiver forward era) =
    if id == set then Enable receiver else Unrelated
said_by set taken (UnsubscribeSet id receiver) = if id == set then Unsubscribe receiver else Unrelated
said_by set taken (DropSet id) = if id == set then Ends else Unrelated
said_by set taken others = Unrelated

abbrev pub said : ℕ → Event → Said
said set e = said_by set e.taken e.body

-- the stream of the origin, the newest event first
abbrev pub read : ℕ → List Event → List Said
read set es = map (said set) es

-- ---- subscriptions

-- a set begins with no subscription
abbrev pub unfed : Start
unfed = record { rows = λ n. None }

-- a subscription, as a configuration has it
abbrev pub plain : Row → Subscription
plain u = record { provider = u.provider; forward = u.forward; mark = u.mark }

-- ---- nodes

-- a node that has applied no event
abbrev pub fresh : NetNode
fresh =
    record { progress = 0; view = None; base = 0; log = []; gave_up = false; cleaned = 0; barred = [] }

-- the net of a node that has emitted nothing, before any transaction has ended there
abbrev pub first_net : ℕ → Net
first_net origin =
    record { origin = origin; start = unfed; now = 0; full = 0; stream = []; nodes = λ n. fresh }

-- the moment of a view, where it is one of the sets of this origin
abbrev pub moment_of : ℕ → Option View → Option ℕ
moment_of origin None = None
moment_of origin (Some v) = if v.origin == origin then Some (count_of v.seen) else None
