use Rattle.std.proofs.Common.{◌∙◌, ap}
use Rattle.std.specs.FinMap.{insert}
use Rattle.slon_base.proofs.Entries.{in_order-insert, from_sorted-insert}
use Rattle.slon_base.proofs.byte_map.ByteMap.insert.Goals as goal

pub invariant_of-self-2 : goal.invariant_of-self-2
invariant_of-self-2 g c =
    rw c.in_ok-insert.ensures.entries (in_order-insert c.args.key c.args.value c.self.inside.inner.entries
    c.self.invariant)

pub returns-clause-ok : goal.returns-clause-ok
returns-clause-ok g c =
    rw c.in_ok-insert.ensures.entries (from_sorted-insert c.args.key c.args.value c.self.inside.inner.entries
    c.self.invariant ∙ ap (λ m. insert m c.args.key.items c.args.value) c.self.view_is)
