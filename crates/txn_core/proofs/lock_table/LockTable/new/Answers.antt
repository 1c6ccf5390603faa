use Rattle.std.proofs.Common.{◌∙◌}
use Rattle.txn_core.proofs.Ties.{holder_seen}
use Rattle.txn_core.proofs.lock_table.LockTable.new.Goals as goal

pub returns : goal.returns
returns c t k = holder_seen t k c.new.result.tables ∙ c.new.ensures t k
