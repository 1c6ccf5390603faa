-- Which events leave how far the node that emits them is in sets.
use Rattle.node_rows.specs.declared.body.Body.{Body}
use Rattle.node_rows.specs.declared.body.Body.TheVariants.{MoveSet, FailoverSet}

-- Every kind but those by which a set is handed over or taken over. They change which node receives the set, and so how
-- far the emitting node keeps its progress in the set. That is not built yet, so no such event is emitted.
abbrev pub KeepsViews : Body → Type 0
KeepsViews (MoveSet set old new era feeds) = ⊥
KeepsViews (FailoverSet failed limit sets) = ⊥
KeepsViews others = Unit {0}
