-- How the rows of the streams are spelled, and which can be.
use Rattle.std.specs.Prelude.{ℕ, ◌<◌, ◌^◌, List, ◌++◌, length}
use Rattle.slon_base.specs.Codec.{number_bytes, many_bytes}
use Rattle.store_rows.specs.Rows.{IsId}
use Rattle.node_rows.specs.Spellings.{body_bytes, CanBody}
use Rattle.slon_model.specs.Snapshots.{Snapshot, IsSnapshot}
use Rattle.slon_model.specs.Events.{Event}
use Rattle.slon_model.specs.Views.{View}

-- a number of an event, of an era or of a transaction
abbrev pub IsStored : ℕ → Type 0
IsStored n = n < 2 ^ 63

-- an event is named by its origin and its number
abbrev pub IsNumbered : ℕ × ℕ → Type 0
IsNumbered i = IsId i.0 × IsStored i.1

-- where it begins and ends, and the running ids
abbrev pub snapshot_bytes : Snapshot → List ℕ
snapshot_bytes s = number_bytes s.xmin ++ number_bytes s.xmax ++ many_bytes number_bytes s.running

-- it has the form of every snapshot, and its ids can be counted
pub record CanSnapshot (s : Snapshot) : Type 0 where
  pub formed : IsSnapshot s
  pub few : length s.running < 2 ^ 32

-- the origin and the number of an event are in the key of its row
abbrev pub event_bytes : Event → List ℕ
event_bytes e = snapshot_bytes e.taken ++ body_bytes e.body

pub record CanEvent (e : Event) : Type 0 where
  pub numbered : IsNumbered (e.origin, e.number)
  pub taken : CanSnapshot e.taken
  pub body : CanBody e.body

abbrev pub view_bytes : View → List ℕ
view_bytes v =
    number_bytes v.era ++ number_bytes v.origin ++ number_bytes v.number ++ snapshot_bytes v.seen
    ++ number_bytes v.base_era ++ snapshot_bytes v.base

pub record CanView (v : View) : Type 0 where
  pub era : IsStored v.era
  pub origin : IsId v.origin
  pub number : IsStored v.number
  pub seen : CanSnapshot v.seen
  pub base_era : IsStored v.base_era
  pub base : CanSnapshot v.base
