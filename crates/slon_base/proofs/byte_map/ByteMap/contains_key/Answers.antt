use Rattle.std.proofs.Common.{◌∙◌, ap, is_some}
use Rattle.std.specs.FinMap.{get}
use Rattle.slon_base.proofs.Entries.{get_by-pairs}
use Rattle.slon_base.proofs.byte_map.ByteMap.contains_key.Goals as goal

pub returns : goal.returns
returns g c = c.contains_key.ensures
    ∙ ap is_some (get_by-pairs c.args.key.now c.self.inside.inner.entries c.self.invariant
    ∙ ap (λ m. get m c.args.key.now) c.self.view_is)
