use Rattle.std.proofs.Common.{◌≡◌, ◌++◌, []}
use Rattle.std.specs.FinMap.{entries}
use Rattle.slon_base.specs.ByteMap.{pairs}
use Rattle.app_store.specs.Taking.{put_xids}
use Rattle.app_store.proofs.opens.open_xids.Given as goal

abbrev pub invariant-loop-transaction : goal.invariant-loop-transaction
invariant-loop-transaction l = put_xids l.xids.keys (pairs l.transaction-iterator) ≡ put_xids [] (entries l.fn.opens)

abbrev pub invariant-loop-xid : goal.invariant-loop-xid
invariant-loop-xid l = l.running ++ l.xid-iterator ≡ put_xids [] (entries l.fn.opens)
