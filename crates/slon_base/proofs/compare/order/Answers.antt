use Rattle.std.proofs.Common.{◌∙◌, sym}
use Rattle.slon_base.proofs.Padded.{by_bytes, by_count, inlined}
use Rattle.slon_base.proofs.compare.order.Goals as goal

pub returns-then-ne : goal.returns-then-ne
returns-then-ne c =
    by_bytes (inlined c.in-Inline.is c.in-Inline-right.is c.requires c.order_of_padded-padded.ensures.len)
    c.order_of_padded-padded.result c.order_of_padded-padded.ensures.order (sym c.ne.ensures ∙ c.if-ne.true)

pub returns-else-ne : goal.returns-else-ne
returns-else-ne c =
    c.order_of_lengths.ensures
    ∙ by_count (inlined c.in-Inline.is c.in-Inline-right.is c.requires c.order_of_padded-padded.ensures.len)
    c.order_of_padded-padded.result c.order_of_padded-padded.ensures.order (sym c.ne.ensures ∙ c.if-ne.false)
