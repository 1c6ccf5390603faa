use Rattle.std.proofs.Common.{◌≡◌, Some, is_some, ap, sym, ◌∙◌, arith}
use mir.Val.{bool_byte}
use Rattle.std.specs.Option.{option_flatten}
use Rattle.std.specs.FinMap.{get}
use Rattle.node_keeper.specs.Slots.{pairs}
use Rattle.node_keeper.proofs.SlotPairs.{get-pairs, len-pairs, turned}
use Rattle.node_keeper.proofs.slots.Slots.put.Goals as goal

pub overflow_add-self : goal.overflow_add-self
overflow_add-self c = omega (arith, len-pairs c.args.self.now.map c.args.self.now.ordered, c.in_ok-insert.ensures.len)

pub invariant_of-self-2 : goal.invariant_of-self-2
invariant_of-self-2 c =
    let was = c.flatten-old.ensures ∙ ap option_flatten c.in_ok-insert.ensures.old
    ∙ sym (get-pairs c.args.self.now.map c.args.key c.args.self.now.ordered) in
    let had : c.from.result ≡ bool_byte (is_some (get (pairs c.args.self.now.map) c.args.key)) = c.from.ensures
    ∙ ap bool_byte (c.is_some.ensures ∙ ap is_some was) in
    let change = turned c.args.key (Some c.args.value) c.args.self.now.map c.insert.new.self
    c.args.self.now.ordered c.insert.ensures.ordered c.in_ok-insert.ensures.updates in
    record { ordered = c.insert.ensures.ordered; counted = omega (arith, had, change.counts) }

pub returns-clause-old : goal.returns-clause-old
returns-clause-old c = c.flatten-old.ensures ∙ ap option_flatten c.in_ok-insert.ensures.old
    ∙ sym (get-pairs c.args.self.now.map c.args.key c.args.self.now.ordered)

pub returns-clause-ok : goal.returns-clause-ok
returns-clause-ok c =
    (turned c.args.key (Some c.args.value) c.args.self.now.map c.insert.new.self c.args.self.now.ordered
    c.insert.ensures.ordered c.in_ok-insert.ensures.updates).shows

pub returns-clause-keeps : goal.returns-clause-keeps
returns-clause-keeps c =
    (turned c.args.key (Some c.args.value) c.args.self.now.map c.insert.new.self c.args.self.now.ordered
    c.insert.ensures.ordered c.in_ok-insert.ensures.updates).keeps
