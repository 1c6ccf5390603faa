-- What holds of every database of a session.
use Rattle.std.specs.Prelude.{List}
use Rattle.std.specs.List.{AllByRecursion}
use Rattle.slon_model.specs.Place.{Place}
use Rattle.slon_model.specs.Spoken.{IsSpoken}
use Rattle.slon_model.specs.World.{World, Happening}

-- P holds of each database of a session
abbrev pub AllPlaces : (Place → Type 0) → World → Type 0
AllPlaces P w = AllByRecursion (λ e. P e.1) w.places

-- each command of a history is one that a line says
abbrev pub AllSpoken : List Happening → Type 0
AllSpoken history = AllByRecursion (λ h. IsSpoken h.command) history
