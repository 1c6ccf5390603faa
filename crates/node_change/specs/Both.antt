-- What a call over two stores promises of both.
use Rattle.std.specs.Prelude.{Result, Ok, Err}
use Rattle.slon_base.specs.Keeper.{Kept}
use Rattle.store_rows.specs.declared.stop.Stop.{Stop}
use Rattle.store_rows.specs.Steps.{Safe}
use Rattle.node_change.specs.declared.side.Side.{Side}
use Rattle.node_change.specs.declared.side.Side.TheVariants.{From, To}
use Rattle.node_change.specs.declared.side.Failed.{Failed}

-- a store as calls leave it of which none failed
abbrev pub IsWell : Kept → Kept → Type 0
IsWell old new = Safe {T = Unit {0}} old new (Ok tt)

-- a store as calls leave it of which the last one stopped so
abbrev pub IsStopped : Stop → Kept → Kept → Type 0
IsStopped stop old new = Safe {T = Unit {0}} old new (Err stop)

-- the store of this side is as calls leave it of which the last one stopped so, and the other one as calls leave it of
-- which none failed
abbrev pub StopsOne : Side → Stop → Kept → Kept → Kept → Kept → Type 0
StopsOne From stop from from_new to to_new = IsStopped stop from from_new × IsWell to to_new
StopsOne To stop from from_new to to_new = IsWell from from_new × IsStopped stop to to_new

-- both stores are as calls leave them of which none failed, or one of them stopped, and it is told which
abbrev pub SafeBoth : {T : Type 0} → Kept → Kept → Kept → Kept → Result T Failed → Type 0
SafeBoth from from_new to to_new (Ok x) = IsWell from from_new × IsWell to to_new
SafeBoth from from_new to to_new (Err f) = StopsOne f.side f.stop from from_new to to_new

-- why work stopped, without the side
abbrev pub stopped : {T : Type 0} → Result T Failed → Result T Stop
stopped (Ok x) = Ok x
stopped (Err f) = Err f.stop
