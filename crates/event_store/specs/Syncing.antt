-- The last SYNC of a node, as it is looked for in a store.
use Rattle.std.specs.Prelude.{◌⊎◌, ℕ, if◌then◌else◌, Option, Some, None}
use Rattle.std.specs.Option.{option_map}
use Rattle.slon_base.specs.Keeper.{Store}
use Rattle.slon_model.specs.Events.{Event as Model, is_sync}
use Rattle.slon_model.specs.Snapshots.{Snapshot}
use Rattle.event_store.specs.Formed.{HasProgress, HasEvent, Lacks}
use Rattle.event_store.specs.Seen.{seen_event}
use Rattle.event_store.specs.declared.event.Event.{Event}

-- the snapshot of an event, if it is a SYNC
abbrev pub sync_taken : Option Model → Option Snapshot
sync_taken None = None
sync_taken (Some e) = if is_sync e.body then Some e.taken else None

abbrev pub sync_seen : Option Event → Option Snapshot
sync_seen found = sync_taken (option_map seen_event found)

-- the snapshot of the event that was found, if one was
abbrev pub taken_of : Option Model → Option Snapshot
taken_of found = option_map (λ e. e.taken) found

-- a row that is read for that is not in its form: of how far the node is in its own stream, or of an event there
abbrev pub HandedSync : ℕ → Store → ℕ → Type 0
HandedSync own m space =
    Lacks 11 (HasProgress own own m) space ⊎ ((number : ℕ) × Lacks 10 (HasEvent own number m) space)
