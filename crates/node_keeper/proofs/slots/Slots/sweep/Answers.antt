use Rattle.std.proofs.Common.{Some, ap, sym, ◌∙◌}
use Rattle.std.specs.FinMap.{len}
use Rattle.node_keeper.proofs.SlotPairs.{swept}
use Rattle.node_keeper.proofs.slots.Slots.sweep.Goals as goal

pub invariant_of-self : goal.invariant_of-self
invariant_of-self c =
    let same = swept c.args.key.now c.args.self.now.map c.remove.new.self c.args.self.now.ordered
    c.remove.ensures.ordered (sym c.in-Some-None.ensures.value
    ∙ ap Some c.in-Some-None.field-0-is) c.remove.ensures.updates in
    record { ordered = c.remove.ensures.ordered; counted = c.args.self.now.counted ∙ ap len (sym same) }

pub returns-in-Some-None : goal.returns-in-Some-None
returns-in-Some-None c = swept c.args.key.now c.args.self.now.map c.remove.new.self c.args.self.now.ordered
    c.remove.ensures.ordered (sym c.in-Some-None.ensures.value
    ∙ ap Some c.in-Some-None.field-0-is) c.remove.ensures.updates
