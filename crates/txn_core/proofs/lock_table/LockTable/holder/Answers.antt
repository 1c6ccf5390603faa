use Rattle.std.proofs.Common.{ap, sym, ◌∙◌}
use Rattle.txn_core.specs.Locks.{holder_of}
use Rattle.txn_core.proofs.Ties.{holder_seen}
use Rattle.txn_core.proofs.lock_table.LockTable.holder.Goals as goal

pub returns : goal.returns
returns c =
    c.get.ensures ∙ sym (holder_seen c.args.table.now c.args.key.now c.self.inside.holders.tables)
    ∙ ap (holder_of c.args.table.now c.args.key.now) c.self.view_is
