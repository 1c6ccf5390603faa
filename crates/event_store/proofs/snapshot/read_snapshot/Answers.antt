use Rattle.std.proofs.Common.{◌∙◌, sym, subst}
use Rattle.std.proofs.lemmas.Bool.{false≢true}
use Rattle.std.proofs.lemmas.Result.{err_from_is_err_and}
use Rattle.store_rows.proofs.Reading.{hands_on}
use Rattle.txn_core.specs.Snapshots.{seen_as, IsPrinted}
use Rattle.txn_core.proofs.SnapshotParts.{same_snapshot}
use Rattle.event_store.proofs.Snapshots.{printed, xmin_stored, ids_stored, first_part}
use Rattle.event_store.proofs.snapshot.read_snapshot.Goals as goal

pub returns-in_err-running-clause-again : goal.returns-in_err-running-clause-again
returns-in_err-running-clause-again c s rest can is =
    let a = c.in_ok-xmin.ensures.again s.xmin _ (xmin_stored s can) (first_part s rest is) in
    let b = c.in_ok-xmax.ensures.again s.xmax _ can.formed.small a.1 in
    hands_on seen_as s rest _ c.from_residual-in_err-running.result
    (err_from_is_err_and c.from_residual-in_err-running.result c.from_residual-in_err-running.ensures.1)
    (c.in_err-running.ensures.again s.running rest (ids_stored s can) b.1)

pub returns-then-not-is_canonical-clause-again : goal.returns-then-not-is_canonical-clause-again
returns-then-not-is_canonical-clause-again c s rest can is =
    let a = c.in_ok-xmin.ensures.again s.xmin _ (xmin_stored s can) (first_part s rest is) in
    let b = c.in_ok-xmax.ensures.again s.xmax _ can.formed.small a.1 in
    let d = c.in_ok-running.ensures.again s.running rest (ids_stored s can) b.1 in
    let same = same_snapshot s _ _ _ a.0 b.0 (c.from_vec.ensures ∙ c.into_vec.ensures ∙ d.0) in
    absurd (false≢true (c.if-not-is_canonical.ensures.1 (subst IsPrinted (sym same) (printed s can.formed))))

pub returns-clause-again : goal.returns-clause-again
returns-clause-again c s rest can is =
    let a = c.in_ok-xmin.ensures.again s.xmin _ (xmin_stored s can) (first_part s rest is) in
    let b = c.in_ok-xmax.ensures.again s.xmax _ can.formed.small a.1 in
    let d = c.in_ok-running.ensures.again s.running rest (ids_stored s can) b.1 in
    (same_snapshot s _ _ _ a.0 b.0 (c.from_vec.ensures ∙ c.into_vec.ensures ∙ d.0), d.1)
