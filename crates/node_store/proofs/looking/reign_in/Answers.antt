use Rattle.std.proofs.Common.{◌∙◌, sym, ap}
use Rattle.node_store.specs.Looking.{live_reign}
use Rattle.node_store.proofs.Lookups.{reign_some}
use Rattle.node_store.proofs.looking.reign_in.Goals as goal

pub returns-in-Some : goal.returns-in-Some
returns-in-Some g = g.then_some.ensures ∙ reign_some g.in-Some.row ∙ ap live_reign (sym g.in-Some.is)
