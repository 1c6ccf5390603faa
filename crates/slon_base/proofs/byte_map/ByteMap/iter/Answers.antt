use Rattle.std.proofs.Common.{◌∙◌, ap}
use Rattle.std.specs.FinMap.{entries}
use Rattle.slon_base.specs.ByteMap.{pairs}
use Rattle.slon_base.proofs.Entries.{entries-pairs}
use Rattle.slon_base.proofs.byte_map.ByteMap.iter.Goals as goal

pub returns : goal.returns
returns g c = ap pairs c.iter.ensures.rest ∙ entries-pairs c.self.inside.inner.entries c.self.invariant
    ∙ ap entries c.self.view_is
