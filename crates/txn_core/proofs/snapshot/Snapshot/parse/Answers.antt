use Rattle.std.proofs.Common.{not, ap, sym, ◌∙◌, subst}
use Rattle.std.proofs.lemmas.Bool.{false≢true}
use Rattle.std.specs.Cmp.Lexicographic.{bytes_decides}
use Rattle.std.proofs.lemmas.Result.{err_from_is_err_and}
use Rattle.slon_model.specs.Snapshots.{snapshot_text}
use Rattle.txn_core.specs.Snapshots.{IsPrinted}
use Rattle.txn_core.proofs.SnapshotParts.{err_parses, only_one, texts}
use Rattle.txn_core.proofs.snapshot.Snapshot.parse.Goals as goal

pub returns-in_err-snapshot-clause-parses : goal.returns-in_err-snapshot-clause-parses
returns-in_err-snapshot-clause-parses c =
    err_parses c.args.text.now c.as_slice.result.now c.in_err-snapshot.field-0.0 c.from_residual-in_err-snapshot.result
    (ap texts c.as_slice.ensures.value ∙ c.in_ok-parts.ensures) c.in_err-snapshot.ensures
    (err_from_is_err_and c.from_residual-in_err-snapshot.result c.from_residual-in_err-snapshot.ensures.1)

pub returns-then-not-is_canonical-clause-parses : goal.returns-then-not-is_canonical-clause-parses
returns-then-not-is_canonical-clause-parses c s h is =
    let same = only_one c.args.text.now c.as_slice.result.now c.in_ok-snapshot.snapshot s
    (ap texts c.as_slice.ensures.value ∙ c.in_ok-parts.ensures) c.in_ok-snapshot.ensures h is in
    false≢true (c.if-not-is_canonical.ensures.1 (subst IsPrinted (sym same) h))

pub returns-then-ne-clause-parses : goal.returns-then-ne-clause-parses
returns-then-ne-clause-parses c s h is =
    let same = only_one c.args.text.now c.as_slice.result.now c.in_ok-snapshot.snapshot s
    (ap texts c.as_slice.ensures.value ∙ c.in_ok-parts.ensures) c.in_ok-snapshot.ensures h is in
    let printed = c.as_slice-2.ensures.value ∙ c.in_ok-printed.ensures ∙ ap snapshot_text same ∙ is in
    false≢true (sym (c.if-ne.ensures ∙ ap not ((bytes_decides c.as_slice-2.result.now c.args.text.now).1 printed)))

pub returns-clause-again : goal.returns-clause-again
returns-clause-again c s h is = only_one c.args.text.now c.as_slice.result.now c.in_ok-snapshot.snapshot s
    (ap texts c.as_slice.ensures.value ∙ c.in_ok-parts.ensures) c.in_ok-snapshot.ensures h is
