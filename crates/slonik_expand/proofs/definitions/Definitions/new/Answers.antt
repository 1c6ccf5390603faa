use Rattle.std.proofs.Common.{ap, ◌∙◌, sym, map, length}
use Rattle.slonik_expand.specs.Shared.{are_ordered, meanings, values_behind, capped}
use Rattle.slonik_expand.proofs.definitions.Definitions.new.Goals as goal

pub invariant_of-result-clause-ordered : goal.invariant_of-result-clause-ordered
unfolding are_ordered
invariant_of-result-clause-ordered c = ap (are_ordered 0) c.new.ensures.items

pub invariant_of-result-clause-counted : goal.invariant_of-result-clause-counted
unfolding meanings values_behind
invariant_of-result-clause-counted c =
    ap (map (λ d. d.len)) c.new.ensures.items ∙ sym (ap (λ l. map (λ ts. capped (length ts)) (meanings l))
    c.new.ensures.items)
