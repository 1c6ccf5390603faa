use Rattle.std.proofs.Common.{append_assoc}
use Rattle.slon_base.specs.Codec.{text_bytes}
use Rattle.slon_base.proofs.row.RowOut.text.Goals as goal

pub returns-clause-ok : goal.returns-clause-ok
unfolding text_bytes
returns-clause-ok c = rw (
  c.in_default.ensures.items,
  c.self-2.view_is,
  c.in_ok-count.ensures.ok,
  c.reserve.ensures.items,
  c.self.view_is,
)
    (append_assoc c.args.self.now _ _)
