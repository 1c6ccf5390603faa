use Rattle.std.proofs.Common.{◌∙◌, ap}
use Rattle.std.specs.FinMap.{len}
use Rattle.slon_base.proofs.Entries.{len-pairs}
use Rattle.slon_base.proofs.byte_map.ByteMap.len.Goals as goal

pub returns : goal.returns
returns g c = c.len.ensures.len ∙ len-pairs c.self.inside.inner.entries c.self.invariant ∙ ap len c.self.view_is
