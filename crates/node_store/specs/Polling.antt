-- What is looked up of a node for a poll.
use Rattle.std.specs.Prelude.{◌≡◌, Some}
use Rattle.slon_model.specs.Deeds.{Node}
use Rattle.slon_model.specs.Place.{Place}

-- what was found of the node that a database is
abbrev pub OfNode : {T : Type 0} → (Node → T → Type 0) → Place → T → Type 0
OfNode says p found = (n : Node) → p.node ≡ Some n → says n found
