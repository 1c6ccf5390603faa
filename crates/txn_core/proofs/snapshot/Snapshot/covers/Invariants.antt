use Rattle.std.proofs.Common.{drop, max}
use Rattle.txn_core.specs.Snapshots.{seen_as}
use Rattle.txn_core.proofs.Covering.{Ahead, Unseen}
use Rattle.txn_core.proofs.snapshot.Snapshot.covers.Given as goal

abbrev pub invariant-loop-xid : goal.invariant-loop-xid
invariant-loop-xid l = Ahead (seen_as l.self) (seen_as l.other) (drop l.xid-index l.xid-items)

abbrev pub invariant-loop-later : goal.invariant-loop-later
invariant-loop-later l = Unseen (seen_as l.other) (max l.self.xmin l.self.xmax) l.later
