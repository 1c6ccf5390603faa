-- What is looked up of what a node knows.
use Rattle.std.specs.Prelude.{◌≡◌, ◌<◌, ◌^◌, Bool, false, Option, Some, option_map, unwrap_or}
use Rattle.node_rows.specs.declared.rows.SetRow.{SetRow}
use Rattle.node_rows.specs.declared.rows.Subscription.{Subscription}
use Rattle.slon_model.specs.Config.{Config, live_set}
use Rattle.slon_model.specs.Deeds.{Node, knowledge}
use Rattle.slon_model.specs.Place.{Place}
use Rattle.node_store.specs.declared.looking.Reign.{Reign}

-- what was found of the configuration that a node knows
abbrev pub OfConfig : {T : Type 0} → (Config → T → Type 0) → Place → T → Type 0
OfConfig says p found = (n : Node) → p.node ≡ Some n → says (knowledge n).config found

-- who leads the set of a row
abbrev pub reign_of : SetRow → Reign
reign_of row = record { origin = row.origin; era = row.era }

-- if the set is live
abbrev pub live_reign : Option SetRow → Option Reign
live_reign row = option_map reign_of (live_set row)

-- the number of its era can be stored
abbrev pub IsSmall : Reign → Type 0
IsSmall r = r.era < 2 ^ 63

-- whether the node of a subscription forwards the set
abbrev pub forwards_in : Option Subscription → Bool
forwards_in row = unwrap_or (option_map (λ r. r.forward) row) false
