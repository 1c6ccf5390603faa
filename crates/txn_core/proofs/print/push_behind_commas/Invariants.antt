use Rattle.std.proofs.Common.{◌≡◌, ◌++◌, drop, string_bytes}
use Rattle.txn_core.specs.Snapshots.{behind_commas}
use Rattle.txn_core.proofs.print.push_behind_commas.Given as goal

abbrev pub invariant-loop-xid : goal.invariant-loop-xid
invariant-loop-xid l =
    string_bytes l.text ++ behind_commas (drop l.xid-index l.xids) ≡ string_bytes l.fn.text ++ behind_commas l.xids
