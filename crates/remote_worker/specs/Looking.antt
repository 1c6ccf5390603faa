-- What is looked up at two databases: that of the node, and that of the provider of a set.
use Rattle.std.specs.Prelude.{◌≡◌, Bool, false, Option, None, Result, Ok, Err}
use Rattle.slon_base.specs.declared.fault.Halt.{Halt as HaltOf}
use Rattle.slon_model.specs.declared.fault.DbFault.{DbFault}
use Rattle.slon_model.specs.Place.{Place}
use Rattle.slon_model.specs.World.{halt_in}
use Rattle.node_change.specs.declared.side.Side.{Side}
use Rattle.node_change.specs.declared.side.Side.TheVariants.{From, To}
use Rattle.app_store.specs.Base.{Base}
use Rattle.app_store.specs.Fits.{Fits, Ready}
use Rattle.app_store.specs.Parts.{FellTo, Looks, Remembers}
use Rattle.app_store.specs.Serves.{halts, is_memory}
use Rattle.node_store.specs.declared.joining.Fell.{Fell}
use Rattle.node_store.specs.Acting.{Acts}
use Rattle.node_store.specs.Joining.{Pair, trouble_of}

-- A look at one database: what was found is so by the rules, and the memory is as it was.
pub record Seen {T : Type 0} (says : Place → T → Type 0) (old : Base) (result : Result T DbFault) (new : Base) :
    Type 0 where
  pub acts : Acts (halts result) old new
  pub looks : Looks says old result new
  pub same : Remembers old result new

-- what a call on one of them gave
abbrev pub sided : {T : Type 0} → Side → Result T DbFault → Result T Fell
sided side (Ok x) = Ok x
sided side (Err fault) = Err (record { side = side; fault = fault })

-- ---- over every store

abbrev pub halts_at : {T : Type 0} → Side → Result T Fell → Option HaltOf
halts_at side (Ok x) = None
halts_at side (Err f) = trouble_of side f.side f.fault

-- what is looked up leaves the memory of both as it was
abbrev pub StayAsTheyWere : {T : Type 0} → Pair → Result T Fell → Pair → Type 0
StayAsTheyWere old (Ok x) new = (new.from.memory ≡ old.from.memory) × (new.to.memory ≡ old.to.memory)
StayAsTheyWere old (Err f) new = Unit {0}

-- ---- by the rules

-- the store of one of them failed, and the other one is as it was
abbrev pub FallsOne : Side → Place → Place → DbFault → Pair → Type 0
FallsOne From p q fault new = FellTo p p fault new.from × Fits q new.to
FallsOne To p q fault new = Fits p new.from × FellTo q q fault new.to

-- what was looked up is so by the rules, and both are as they were; or the store of one failed
abbrev pub LooksUpBoth : {T : Type 0} → (Place → Place → T → Type 0) → Place → Place → Result T Fell → Pair → Type 0
LooksUpBoth says p q (Ok x) new = says p q x × Fits p new.from × Fits q new.to
LooksUpBoth says p q (Err f) new = FallsOne f.side p q f.fault new

-- memory ran out
abbrev pub is_short_of : {T : Type 0} → Result T Fell → Bool
is_short_of (Ok x) = false
is_short_of (Err f) = is_memory (halt_in f.fault)

-- This is so of both databases, which agree with any places.
pub record Looking {T : Type 0} (says : Place → Place → T → Type 0) (old : Pair) (result : Result T Fell)
    (new : Pair) : Type 0 where
  pub own : Acts (halts_at From result) old.from new.from
  pub provider : Acts (halts_at To result) old.to new.to
  pub same : StayAsTheyWere old result new
  pub looks : (p q : Place) → Ready p old.from → Ready q old.to → is_short_of result ≡ false →
      LooksUpBoth says p q result new
