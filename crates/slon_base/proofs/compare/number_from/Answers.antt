use Rattle.std.proofs.Common.{arith}
use Rattle.slon_base.proofs.Compared.{number_behind}
use Rattle.slon_base.proofs.compare.number_from.Goals as goal

pub returns : goal.returns
returns c = (
  c.from_be_bytes.type_inv,
  number_behind c.args.at c.args.bytes.now c.from_be_bytes.result (λ i. omega (arith, c.type_inv.bytes i)) c.requires
      (rw (← c.split_at.ensures.back, ← c.split_at-2.ensures.front) c.from_be_bytes.ensures),
)
