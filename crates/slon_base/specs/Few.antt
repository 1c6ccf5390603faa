-- Where the values of a list stand.
use Rattle.std.specs.Prelude.{List, [], ◌∷◌, Option, Some, None}
use Rattle.slon_base.specs.declared.few.Few.{Few}
use Rattle.slon_base.specs.declared.few.Few.TheVariants.{Empty, One, Heap}

-- the values that are kept
abbrev pub values_in : {X : Type 0} → Few X → List X
values_in Empty = []
values_in (One value) = value ∷ []
values_in (Heap values) = values.items

-- the one that stands in the list itself
abbrev pub value_alone : {X : Type 0} → Few X → Option X
value_alone (One value) = Some value
value_alone others = None
