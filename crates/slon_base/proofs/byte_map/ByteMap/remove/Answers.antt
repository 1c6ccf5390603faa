use Rattle.std.proofs.Common.{◌∙◌, ap}
use Rattle.std.specs.FinMap.{get, remove}
use Rattle.slon_base.proofs.Entries.{get_by-pairs, in_order-remove, from_sorted-remove}
use Rattle.slon_base.proofs.byte_map.ByteMap.remove.Goals as goal

pub invariant_of-self : goal.invariant_of-self
invariant_of-self g c =
    rw c.remove.ensures.entries (in_order-remove c.args.key.now c.self.inside.inner.entries c.self.invariant)

pub returns-clause-value : goal.returns-clause-value
returns-clause-value g c = c.remove.ensures.value
    ∙ get_by-pairs c.args.key.now c.self.inside.inner.entries c.self.invariant
    ∙ ap (λ m. get m c.args.key.now) c.self.view_is

pub returns-clause-map : goal.returns-clause-map
returns-clause-map g c =
    rw c.remove.ensures.entries (from_sorted-remove c.args.key.now c.self.inside.inner.entries c.self.invariant
    ∙ ap (λ m. remove m c.args.key.now) c.self.view_is)
