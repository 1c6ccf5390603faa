use Rattle.std.proofs.Common.{ap, sym, ◌∙◌}
use Rattle.std.specs.Option.{option_flatten}
use Rattle.node_keeper.proofs.SlotPairs.{get-pairs}
use Rattle.node_keeper.proofs.slots.Slots.get.Goals as goal

pub returns-in-Some-clause-value : goal.returns-in-Some-clause-value
returns-in-Some-clause-value c = c.as_ref.ensures.value ∙ ap option_flatten c.in-Some.ensures.value
    ∙ sym (get-pairs c.args.self.now.map c.args.key.now c.args.self.now.ordered)

pub returns-in-None-clause-value : goal.returns-in-None-clause-value
returns-in-None-clause-value c = ap option_flatten c.in-None.ensures.value
    ∙ sym (get-pairs c.args.self.now.map c.args.key.now c.args.self.now.ordered)
