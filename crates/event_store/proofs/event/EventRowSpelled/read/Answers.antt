use Rattle.std.proofs.Common.{◌∙◌, append_assoc, rules}
use Rattle.node_rows.specs.Spellings.{body_bytes}
use Rattle.txn_core.specs.Snapshots.{seen_as}
use Rattle.event_store.specs.Spellings.{snapshot_bytes}
use Rattle.event_store.specs.Seen.{snapshot_as}
use Rattle.event_store.proofs.event.EventRowSpelled.read.Goals as goal

pub returns-in_err-taken-clause-again : goal.returns-in_err-taken-clause-again
returns-in_err-taken-clause-again c x rest can is =
    let memory = c.in_err-taken.ensures.again (seen_as x.taken) _ can.0
    (is ∙ append_assoc (snapshot_bytes (seen_as x.taken)) (body_bytes x.body) rest) in
    search (rules, memory)

pub returns-in_err-body-clause-again : goal.returns-in_err-body-clause-again
returns-in_err-body-clause-again c x rest can is =
    let a = c.in_ok-taken.ensures.again (seen_as x.taken) _ can.0
    (is ∙ append_assoc (snapshot_bytes (seen_as x.taken)) (body_bytes x.body) rest) in
    let memory = c.in_err-body.ensures.again x.body rest can.1 a.1 in
    search (rules, memory)

pub returns-clause-again : goal.returns-clause-again
returns-clause-again c x rest can is =
    let a = c.in_ok-taken.ensures.again (seen_as x.taken) _ can.0
    (is ∙ append_assoc (snapshot_bytes (seen_as x.taken)) (body_bytes x.body) rest) in
    let b = c.in_ok-body.ensures.again x.body rest can.1 a.1 in
    (λ i. record { taken = snapshot_as (a.0 i); body = b.0 i }, b.1)
