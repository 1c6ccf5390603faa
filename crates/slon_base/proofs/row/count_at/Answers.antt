use Rattle.std.proofs.Common.{arith}
use Rattle.slon_base.proofs.Spelled.{count_at-is}
use Rattle.slon_base.proofs.row.count_at.Goals as goal

pub returns-clause-found : goal.returns-clause-found
returns-clause-found c = (
  omega arith,
  rw c.split_at.ensures.back (count_at-is c.args.bytes.now c.from_be_bytes-count.result
      (λ i. omega (arith, c.type_inv.bytes i)) c.if-bytes-lt4.false
      (rw (← c.split_at.ensures.front) c.from_be_bytes-count.ensures)),
)
