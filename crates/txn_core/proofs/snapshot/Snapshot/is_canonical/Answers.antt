use Rattle.std.proofs.Common.{ap, ◌∙◌, arith}
use Rattle.std.specs.Option.{unwrap_or}
use Rattle.txn_core.specs.Snapshots.{rises_below}
use Rattle.txn_core.proofs.SnapshotTexts.{first_of, canonical}
use Rattle.txn_core.proofs.snapshot.Snapshot.is_canonical.Goals as goal

pub returns : goal.returns
returns c =
    let items = c.as_slice-running.ensures in
    let first = c.if-self-first.false ∙ c.unwrap_or-first.ensures ∙ ap (λ o. unwrap_or o c.args.self.now.xmax)
    (c.copied.ensures ∙ c.first.ensures.value) in
    let result = c.rises_below.ensures in
    canonical _ c.rises_below.result (rw (← items) (first
    ∙ first_of c.args.self.now.xmax c.as_slice-running.result.now)) (omega arith) (result
    ∙ ap (rises_below c.args.self.now.xmax) items)
