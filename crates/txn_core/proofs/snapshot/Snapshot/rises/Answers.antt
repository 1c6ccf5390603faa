use Rattle.txn_core.proofs.snapshot.Snapshot.rises.Goals as goal

pub returns : goal.returns
returns c is = (c.is_canonical.ensures.0 is).rising
