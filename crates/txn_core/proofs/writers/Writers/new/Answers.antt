use Rattle.std.proofs.Common.{ap}
use Rattle.txn_core.specs.LockMaps.{writes_in, xid_in}
use Rattle.txn_core.proofs.KeyedMaps.{at_empty}
use Rattle.txn_core.proofs.writers.Writers.new.Goals as goal

pub returns : goal.returns
unfolding writes_in
returns c t x = ap (xid_in x) (at_empty t c.new.result c.new.ensures.empty)
