use Rattle.std.proofs.Common.{◌≡◌, ◌∙◌, ap, Bool, Option, Ok, Err, sym}
use Rattle.std.specs.Prelude.{option_map}
use Rattle.slon_model.specs.Config.{forwards}
use Rattle.slon_model.specs.Deeds.{knowledge, view_of}
use Rattle.slon_model.specs.Place.{Place}
use Rattle.txn_core.specs.declared.snapshot.Snapshot.{Snapshot}
use Rattle.txn_core.specs.Snapshots.{seen_as}
use Rattle.node_store.specs.Looking.{OfConfig}
use Rattle.node_store.specs.Polling.{OfNode}
use Rattle.remote_worker.specs.declared.carrying.Copying.{Copying}
use Rattle.remote_worker.specs.Fetching.{seen_of}
use Rattle.remote_worker.specs.Working.{seen_copying}
use Rattle.remote_worker.proofs.Finding.{forwards_none, forwards_not, forwards_seen}
use Rattle.remote_worker.proofs.Looking.{looked_up, seen_fails, seen_so, seen_then}
use Rattle.remote_worker.proofs.fetching.forwarded.Goals as goal

-- what is looked up of the view, and of the subscription
abbrev SeenAt : Copying → Place → Option Snapshot → Type 0
SeenAt c = OfNode (λ k found. option_map seen_as found ≡ seen_of c.era (view_of c.set (knowledge k)))

abbrev ForwardsAt : Copying → Place → Bool → Type 0
ForwardsAt c = OfConfig (λ k found. found ≡ forwards c.set c.provider k)

pub returns-in-None-clause-looks : goal.returns-in-None-clause-looks
returns-in-None-clause-looks g c =
    let a = c.args.copying in
    seen_so (λ q says. forwards_none (seen_copying a) q
    (λ k there. sym (ap (option_map seen_as) c.in-None.is) ∙ says k there)) c.in-Ok.ensures.looks

pub returns-in-Ok-true-clause-looks : goal.returns-in-Ok-true-clause-looks
returns-in-Ok-true-clause-looks g c =
    let a = c.args.copying in
    let found = c.knows_forwarder.ensures in
    seen_so (λ q both. forwards_seen (seen_copying a) q c.in-Some.seen
    (λ k there. sym (ap (option_map seen_as) c.in-Some.is) ∙ both.0 k there) (λ k there.
    sym c.in-Ok-true.field-0-test ∙ both.1 k there))
    (seen_then (Ok c.in-Ok-true.field-0) c.in-Ok.ensures.looks
    (looked_up (ForwardsAt a) (Ok c.in-Ok-true.field-0) c.in-Ok-true.ensures.acts c.in-Ok-true.ensures.looks
    c.in-Ok-true.ensures.same))

pub returns-in-Ok-false-clause-looks : goal.returns-in-Ok-false-clause-looks
returns-in-Ok-false-clause-looks g c =
    let a = c.args.copying in
    seen_so (λ q both. forwards_not (seen_copying a) q (λ k there.
    sym c.in-Ok-false.field-0-test ∙ both.1 k there))
    (seen_then (Ok c.in-Ok-false.field-0) c.in-Ok.ensures.looks
    (looked_up (ForwardsAt a) (Ok c.in-Ok-false.field-0) c.in-Ok-false.ensures.acts c.in-Ok-false.ensures.looks
    c.in-Ok-false.ensures.same))

pub returns-in-Err-knows_forwarder-clause-looks : goal.returns-in-Err-knows_forwarder-clause-looks
returns-in-Err-knows_forwarder-clause-looks g c =
    let failed = c.in-Err-knows_forwarder in
    seen_fails (seen_then (Err failed.fault) c.in-Ok.ensures.looks
    (looked_up (ForwardsAt c.args.copying) (Err failed.fault) failed.ensures.acts failed.ensures.looks
    failed.ensures.same))
