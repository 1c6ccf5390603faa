use Rattle.std.proofs.Common.{ap}
use Rattle.txn_core.specs.LockMaps.{owned_by, rows_of}
use Rattle.txn_core.proofs.OwnedRows.{taken_out}
use Rattle.txn_core.proofs.owned.Owned.take.Goals as goal

pub returns-clause-rows : goal.returns-clause-rows
unfolding owned_by
returns-clause-rows c = ap rows_of c.remove.ensures.value

pub returns-clause-others : goal.returns-clause-others
returns-clause-others c x = taken_out c.args.xid x c.args.self.now.xids c.remove.new.self c.remove.ensures.updates
