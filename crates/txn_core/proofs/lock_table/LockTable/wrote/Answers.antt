use Rattle.std.proofs.Common.{ap, sym, ◌∙◌}
use Rattle.txn_core.specs.Locks.{holder_of}
use Rattle.txn_core.proofs.Ties.{maps, holder_seen, first_writer}
use Rattle.txn_core.proofs.lock_table.LockTable.wrote.Goals as goal

pub returns : goal.returns
returns c =
    first_writer c.args.table.now c.first.result c.args.self.now
    (maps c.self.inside.holders.tables c.self.inside.writers.tables c.self.inside.owned.xids) c.self.invariant
    (λ t k. sym (ap (holder_of t k) c.self.view_is) ∙ holder_seen t k c.self.inside.holders.tables) c.first.ensures
