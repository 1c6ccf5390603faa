use Rattle.std.proofs.Common.{◌≡◌, ◌+◌, is_some, ap, sym, ◌∙◌, arith}
use mir.Val.{bool_byte}
use Rattle.std.specs.Option.{option_flatten}
use Rattle.std.specs.FinMap.{get, len}
use Rattle.node_keeper.specs.Slots.{pairs}
use Rattle.node_keeper.proofs.SlotPairs.{Turned, get-pairs, len-pairs, bool_byte-le, written}
use Rattle.node_keeper.proofs.slots.Slots.set.Goals as goal

-- the slot had the value that the pairs show
had_here : (c : goal.After-from-2) → c.replace-old.result ≡ get (pairs c.args.self.now.map) c.args.key.now
had_here c = c.replace-old.ensures.value ∙ ap option_flatten c.in-Some.ensures.value
    ∙ sym (get-pairs c.args.self.now.map c.args.key.now c.args.self.now.ordered)

-- and it has the new one
turned_here : (c : goal.After-from-2) → Turned c.args.key.now c.args.value c.args.self.now.map
    (c.get_mut.follows.lender c.replace-old.new.dest)
turned_here c = written c.args.key.now c.args.value c.args.self.now.map _ c.args.self.now.ordered
    c.in-Some.ensures.value c.replace-old.ensures.after (c.get_mut.follows.holds c.replace-old.new.dest)

-- so the counts go together
counts_here : (c : goal.After-from-2) →
    c.args.self.now.live + c.from.result ≡ len (pairs (c.get_mut.follows.lender c.replace-old.new.dest))
    + c.from-2.result
counts_here c =
    let had = c.from-2.ensures ∙ ap bool_byte (c.is_some.ensures ∙ ap is_some (had_here c)) in
    let fills = c.from.ensures ∙ ap bool_byte c.is_some-fills.ensures in
    omega (arith, had, fills, (turned_here c).counts, c.args.self.now.counted)

pub overflow_add-self : goal.overflow_add-self
overflow_add-self c = omega (
  arith,
  len-pairs c.args.self.now.map c.args.self.now.ordered,
  bool_byte-le c.is_some-fills.result,
)

pub overflow_sub-self : goal.overflow_sub-self
overflow_sub-self c = omega (arith, counts_here c)

pub invariant_of-self : goal.invariant_of-self
invariant_of-self c = record {
  ordered = (c.get_mut.follows.holds c.replace-old.new.dest).4;
  counted = omega (arith, counts_here c);
}

pub returns : goal.returns
returns c =
    let turned = written c.args.key.now c.args.value c.args.self.now.map
    (c.get_mut.follows.lender c.replace-old.new.dest) c.args.self.now.ordered c.in-Some.ensures.value
    c.replace-old.ensures.after (c.get_mut.follows.holds c.replace-old.new.dest) in
    record {
      old = c.replace-old.ensures.value ∙ ap option_flatten c.in-Some.ensures.value
          ∙ sym (get-pairs c.args.self.now.map c.args.key.now c.args.self.now.ordered);
      pairs = turned.shows;
      keeps = turned.keeps;
    }
