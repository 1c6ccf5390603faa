-- Events of the program, seen as those of the model.
use Rattle.std.specs.Prelude.{ℕ, List, ◌++◌}
pub use Rattle.event_store.specs.Parts.{event_by}
use Rattle.node_rows.specs.declared.body.Body.{Body}
use Rattle.node_rows.specs.Spellings.{body_bytes, CanBody}
use Rattle.slon_model.specs.Events.{Event}
use Rattle.slon_model.specs.Snapshots.{Snapshot as Model}
use Rattle.txn_core.specs.declared.snapshot.Snapshot.{Snapshot}
use Rattle.txn_core.specs.Snapshots.{seen_as}
use Rattle.event_store.specs.declared.event.Event as declared
use Rattle.event_store.specs.declared.event.EventRow.{EventRow}
use Rattle.event_store.specs.Spellings.{snapshot_bytes, CanSnapshot}

abbrev pub seen_event : declared.Event → Event
seen_event e = event_by e.origin e.number e.taken e.body

-- ---- the row

abbrev pub snapshot_as : Model → Snapshot
snapshot_as s = record { xmin = s.xmin; xmax = s.xmax; running = s.running }

abbrev pub row_of : Event → EventRow
row_of e = record { taken = snapshot_as e.taken; body = e.body }

abbrev pub parts_bytes : Snapshot → Body → List ℕ
parts_bytes taken body = snapshot_bytes (seen_as taken) ++ body_bytes body

abbrev pub row_bytes : EventRow → List ℕ
row_bytes r = parts_bytes r.taken r.body

abbrev pub CanRow : EventRow → Type 0
CanRow r = CanSnapshot (seen_as r.taken) × CanBody r.body
