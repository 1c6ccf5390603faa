use Rattle.std.proofs.Common.{◌≡◌, ◌++◌, drop}
use Rattle.slon_model.specs.Maps.{ids}
use Rattle.node_store.proofs.logged.ids_of.Given as goal

abbrev pub invariant-loop-id : goal.invariant-loop-id
invariant-loop-id l = l.found ++ ids (drop l.id-index l.tables) ≡ ids l.tables
