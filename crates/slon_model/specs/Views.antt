-- How far a node is in a set that it subscribes to: the era and the snapshot that it keeps of it.
use Rattle.std.specs.Prelude.{ℕ, ◌==◌, ◌&&◌, pred, if◌then◌else◌, not, List, [], ◌∷◌, map}
use Rattle.slon_model.specs.Maps.{Map, with_entry, without_entry}
use Rattle.slon_model.specs.Snapshots.{Snapshot, covers}
use Rattle.node_rows.specs.declared.body.Body.{Body}
use Rattle.node_rows.specs.declared.body.Body.TheVariants.{SubscribeSet, UnsubscribeSet, DropSet, MoveSet, FailoverSet}
use Rattle.slon_model.specs.Events.{Event, Taken}
use Rattle.slon_model.specs.Config.{Config, forwards}

pub record View : Type 0 where
  pub era : ℕ
  -- the origin of the set in that era, and the number of its event that was taken last
  pub origin : ℕ
  pub number : ℕ
  pub seen : Snapshot
  -- from where on the node has logged what it applied, if it forwards
  pub base_era : ℕ
  pub base : Snapshot

abbrev pub Views : Type 0
Views = Map View

-- a view that begins here
abbrev pub first_view : ℕ → ℕ → ℕ → Snapshot → View
first_view era origin number seen =
    record { era = era; origin = origin; number = number; seen = seen; base_era = era; base = seen }

-- the second, where the first does not cover it
abbrev pub later_of : Snapshot → Snapshot → Snapshot
later_of a b = if covers a b then a else b

-- behind a SYNC
abbrev pub view_after : Event → View → View
view_after e v = record v { number = e.number; seen = later_of v.seen e.taken }

abbrev pub without_sets : List Taken → Views → Views
without_sets [] views = views
without_sets (s ∷ more) views = without_entry s.0 (without_sets more views)

-- with these views of sets
abbrev pub with_views : Views → Views → Views
with_views [] views = views
with_views (v ∷ more) views = with_entry v.0 v.1 (with_views more views)

-- The views of a node after an event of its own: who hands a set over begins to subscribe, and who takes over ends.
abbrev pub views_emitted : Event → Body → Views → Views
views_emitted e (MoveSet set old new era feeds) views =
    with_entry set (first_view (pred era) old (pred e.number) e.taken) views
views_emitted e (FailoverSet failed limit sets) views = without_sets sets views
views_emitted e others views = views

-- the node logs from here on what it applies
abbrev pub based : View → View
based v = record v { base_era = v.era; base = v.seen }

abbrev pub based_at : ℕ → Views → Views
based_at set views = map (λ v. if v.0 == set then (v.0, based v.1) else v) views

-- The views of the node of this id, which knows this, as an event of another one tells it how it receives a set: where
-- it is to forward the set and did not before, it logs from there on; where it is to receive the set no more, it gives
-- its view of the set up.
abbrev pub views_told : ℕ → Body → Config → Views → Views
views_told own (SubscribeSet set provider receiver forward) c views =
    if receiver == own && (forward && not (forwards set own c)) then based_at set views else views
views_told own (UnsubscribeSet set receiver) c views = if receiver == own then without_entry set views else views
views_told own (DropSet set) c views = without_entry set views
views_told own others c views = views
