use Rattle.std.proofs.Common.{arith}
use Rattle.slon_base.proofs.Spelled.{text_of_count}
use Rattle.slon_base.proofs.row.text_at.Goals as goal

pub returns-clause-found : goal.returns-clause-found
returns-clause-found c = (
  omega (arith, c.split_at.ensures.front_len, c.in_ok-count.ensures.found.0),
  rw (c.split_at.ensures.front, c.split_at.ensures.back)
      (text_of_count c.args.bytes.now c.in_ok-count.after.now c.in_ok-count.count c.in_ok-count.ensures.found.1
      (omega arith)),
)
