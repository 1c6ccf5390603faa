use Rattle.std.proofs.Common.{◌≡◌, drop}
use Rattle.txn_core.specs.Snapshots.{rises_below}
use Rattle.txn_core.proofs.read.rises_below.Given as goal

abbrev pub invariant-loop-index : goal.invariant-loop-index
invariant-loop-index l = rises_below l.limit (drop l.index l.xids) ≡ rises_below l.limit l.xids
