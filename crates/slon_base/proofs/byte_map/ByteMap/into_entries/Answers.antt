use Rattle.std.proofs.Common.{◌∙◌, ap}
use Rattle.std.specs.FinMap.{entries}
use Rattle.slon_base.specs.ByteMap.{pairs}
use Rattle.slon_base.proofs.Entries.{entries-pairs}
use Rattle.slon_base.proofs.byte_map.ByteMap.into_entries.Goals as goal

pub returns : goal.returns
returns g c = ap pairs c.into_iter.ensures.into_iter_gives.0
    ∙ entries-pairs c.self.inside.inner.entries c.self.invariant ∙ ap entries c.self.view_is
