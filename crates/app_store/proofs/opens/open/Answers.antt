use Rattle.app_store.proofs.Written.{kept_put, nothing_written, nothing_captured}
use Rattle.app_store.proofs.opens.open.Goals as goal

pub returns-clause-kept : goal.returns-clause-kept
returns-clause-kept c kept = kept_put c.insert.result (record
    { ok = c.insert.ensures.ok; err = c.insert.ensures.err }) kept
    (nothing_written _ c.new-2.ensures, nothing_captured c.args.xid _ c.new.ensures c.requires.small)
