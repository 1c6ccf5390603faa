use Rattle.std.proofs.Common.{sym, ap, ◌∙◌}
use Rattle.std.specs.FinMap.{len, len-empty}
use Rattle.slon_base.specs.Keeper.{key_cmp}
use Rattle.node_keeper.proofs.SlotPairs.{none_pairs}
use Rattle.node_keeper.proofs.slots.Slots.new.Goals as goal

pub invariant_of-result : goal.invariant_of-result
invariant_of-result c = record {
  ordered = c.new.ensures.ordered;
  counted =
      sym (ap len (none_pairs c.new.result c.new.ensures.empty) ∙ len-empty key_cmp _);
}

pub returns : goal.returns
returns c = none_pairs c.new.result c.new.ensures.empty
