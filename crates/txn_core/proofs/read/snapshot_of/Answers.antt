use Rattle.std.proofs.lemmas.Result.{err_from_is_err_and}
use Rattle.std.specs.Fmt.{decimal}
use Rattle.slon_model.specs.Snapshots.{ids_text}
use Rattle.txn_core.proofs.SnapshotTexts.{xmin_small, running_small}
use Rattle.txn_core.proofs.SnapshotParts.{part_at, same_snapshot, number_is, err_gets}
use Rattle.txn_core.proofs.read.snapshot_of.Goals as goal

pub returns-in_err-ids_of : goal.returns-in_err-ids_of
returns-in_err-ids_of c s h e =
    let at = part_at c.args.parts.now _ (decimal s.xmin) (decimal s.xmax) (ids_text s.running) e in
    err_gets s.running s c.in_err-ids_of.field-0.0 c.from_residual.result
    (err_from_is_err_and c.from_residual.result c.from_residual.ensures.1) (c.in_err-ids_of.ensures s.running
    (running_small s h) at.2)

pub returns : goal.returns
returns c s h e =
    let at = part_at c.args.parts.now _ (decimal s.xmin) (decimal s.xmax) (ids_text s.running) e in
    same_snapshot s c.in-Some-Some.xmin c.in-Some-Some.xmax c.in_ok-ids_of.field-0
    (number_is s.xmin c.in-Some-Some.xmin c.number_of.result c.in-Some-Some.is-0 (c.number_of.ensures s.xmin
    (xmin_small s h) at.0)) (number_is s.xmax c.in-Some-Some.xmax c.number_of-2.result c.in-Some-Some.is-1
    (c.number_of-2.ensures s.xmax h.small at.1)) (c.in_ok-ids_of.ensures s.running (running_small s h) at.2)
