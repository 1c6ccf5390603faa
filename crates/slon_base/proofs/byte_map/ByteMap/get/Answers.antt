use Rattle.std.proofs.Common.{◌∙◌, ap}
use Rattle.std.specs.FinMap.{get}
use Rattle.slon_base.proofs.Entries.{get_by-pairs}
use Rattle.slon_base.proofs.byte_map.ByteMap.get.Goals as goal

pub returns : goal.returns
returns g c = c.get.ensures.value ∙ get_by-pairs c.args.key.now c.self.inside.inner.entries c.self.invariant
    ∙ ap (λ m. get m c.args.key.now) c.self.view_is
