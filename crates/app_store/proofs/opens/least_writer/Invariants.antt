use Rattle.std.proofs.Common.{◌≡◌, []}
use Rattle.std.specs.FinMap.{entries}
use Rattle.slon_base.specs.ByteMap.{pairs}
use Rattle.app_store.specs.Taking.{put_xids, writers}
use Rattle.app_store.proofs.opens.least_writer.Given as goal

abbrev pub invariant-loop-transaction : goal.invariant-loop-transaction
invariant-loop-transaction l =
    put_xids l.xids.keys (writers l.fn.tables (pairs l.transaction-iterator))
    ≡ put_xids [] (writers l.fn.tables (entries l.fn.opens))
