-- Maps whose ids are in their range and ascend.
use Rattle.slon_base.specs.Codec.{AllAre}
use Rattle.store_rows.specs.Rows.{IsId}
use Rattle.slon_model.specs.Maps.{Map, Map2, ids}
use Rattle.slon_model.specs.Snapshots.{Rising}

-- the ids of a map are in their range, and ascend
pub record IsOrdered {X : Type 0} (es : Map X) : Type 0 where
  pub ids_are : AllAre (λ e. IsId e.0) es
  pub rising : Rising (ids es)

-- and so are those of its rows
pub record AreOrdered {X : Type 0} (m : Map2 X) : Type 0 where
  pub firsts : IsOrdered m
  pub seconds : AllAre (λ e. IsOrdered e.1) m
