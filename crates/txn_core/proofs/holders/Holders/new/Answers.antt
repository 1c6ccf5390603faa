use Rattle.std.proofs.Common.{ap}
use Rattle.txn_core.specs.LockMaps.{holder_in, key_in}
use Rattle.txn_core.proofs.KeyedMaps.{at_empty}
use Rattle.txn_core.proofs.holders.Holders.new.Goals as goal

pub returns : goal.returns
unfolding holder_in
returns c t k = ap (key_in k) (at_empty t c.new.result c.new.ensures.empty)
