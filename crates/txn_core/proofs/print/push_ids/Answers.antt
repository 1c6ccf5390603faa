use Rattle.std.proofs.Common.{append_assoc, string_bytes}
use Rattle.std.proofs.lemmas.Result.{IfOk-equal}
use Rattle.std.specs.Fmt.{decimal}
use Rattle.txn_core.specs.Snapshots.{behind_commas}
use Rattle.txn_core.proofs.SnapshotTexts.{ids_first}
use Rattle.txn_core.proofs.print.push_ids.Goals as goal

pub returns-in_ok-write-in-Some : goal.returns-in_ok-write-in-Some
returns-in_ok-write-in-Some c =
    IfOk-equal c.push_behind_commas.result _ _ _ c.push_behind_commas.ensures (rw (
      c.in_ok-write-in-Some.ensures.bytes,
      c.in-Some.ensures.cases.0,
      ids_first,
    ) (append_assoc (string_bytes c.args.text.now) (decimal c.in-Some.first.now)
    (behind_commas c.in-Some.rest.now)))
