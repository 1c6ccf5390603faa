-- A transaction of the store that goes on over several calls.
use Rattle.std.specs.Prelude.{◌≡◌, ◌≤◌, true, false, Result, Ok, Err, is_some}
use Rattle.slon_base.specs.Counts.{Rose}
use Rattle.slon_base.specs.Keeper.{Kept}
use Rattle.store_rows.specs.declared.stop.Stop.{Stop}
use Rattle.store_rows.specs.declared.stop.Stop.TheVariants.{TooBig}
use Rattle.store_rows.specs.Steps.{is_stop_failed}
use Rattle.node_change.specs.declared.side.Side.{Side}
use Rattle.node_change.specs.declared.side.Side.TheVariants.{From, To}
use Rattle.node_change.specs.declared.side.Failed.{Failed}
use Rattle.node_change.specs.Both.{IsWell, IsStopped}
use Rattle.app_store.specs.Steps.{Knows}

-- it has begun, and no call failed since
pub record Midway (old new : Kept) : Type 0 where
  pub sure : Knows false old new
  pub later : old.faults ≤ new.faults
  pub held : new.held ≡ old.held
  pub doubts : new.doubts ≡ old.doubts
  pub opened : is_some new.pending ≡ true

-- no call failed since it began
pub record Begun (old new : Kept) : Type 0 where
  pub sure : Knows false old new
  pub later : old.faults ≤ new.faults
  pub held : new.held ≡ old.held
  pub doubts : new.doubts ≡ old.doubts

-- a number that is too big is that of an event
abbrev pub IsOfEvent : Stop → Type 0
IsOfEvent (TooBig space) = space ≡ 10
IsOfEvent others = Unit {0}

-- a stop, of which a number that is too big is told so
abbrev pub of_event : Stop → Stop
of_event (TooBig space) = TooBig 10
of_event others = others

-- it stopped before its commit
pub record BreaksOff (stop : Stop) (old new : Kept) : Type 0 where
  pub sure : Knows (is_stop_failed stop) old new
  pub later : old.faults ≤ new.faults
  pub failed : is_stop_failed stop ≡ true → Rose old.faults new.faults
  pub within : IsOfEvent stop
  pub held : new.held ≡ old.held
  pub doubts : new.doubts ≡ old.doubts

abbrev pub Enters : {T : Type 0} → Kept → Kept → Result T Stop → Type 0
Enters old new (Ok x) = Midway old new
Enters old new (Err stop) = BreaksOff stop old new

-- ---- one over two stores

-- of two stores in each of which a transaction goes on the one that is read is left well, and that of the other began;
-- or one of them stopped
abbrev pub StopsOne : Side → Stop → Kept → Kept → Kept → Kept → Type 0
StopsOne From stop from from_new to to_new = IsStopped stop from from_new × Begun to to_new
StopsOne To stop from from_new to to_new = IsWell from from_new × BreaksOff stop to to_new

abbrev pub EntersSecond : {T : Type 0} → Kept → Kept → Kept → Kept → Result T Failed → Type 0
EntersSecond from from_new to to_new (Ok x) = IsWell from from_new × Midway to to_new
EntersSecond from from_new to to_new (Err f) = StopsOne f.side f.stop from from_new to to_new

abbrev pub StopsBoth : Side → Stop → Kept → Kept → Kept → Kept → Type 0
StopsBoth From stop from from_new to to_new = BreaksOff stop from from_new × Begun to to_new
StopsBoth To stop from from_new to to_new = Midway from from_new × BreaksOff stop to to_new

abbrev pub EntersBoth : {T : Type 0} → Kept → Kept → Kept → Kept → Result T Failed → Type 0
EntersBoth from from_new to to_new (Ok x) = Midway from from_new × Midway to to_new
EntersBoth from from_new to to_new (Err f) = StopsBoth f.side f.stop from from_new to to_new
