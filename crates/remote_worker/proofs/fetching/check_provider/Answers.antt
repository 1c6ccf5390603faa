use Rattle.std.proofs.Common.{◌≡◌, ◌∙◌, ℕ, nat_lt, Bool, Ok, Err, refl, sym, subst}
use Rattle.slon_model.specs.Config.{is_known}
use Rattle.slon_model.specs.Deeds.{knowledge, progress}
use Rattle.slon_model.specs.Place.{Place}
use Rattle.event_store.specs.Seen.{seen_event}
use Rattle.node_store.specs.Looking.{OfConfig}
use Rattle.node_store.specs.Polling.{OfNode}
use Rattle.remote_worker.proofs.Finding.{ProviderSays, provider_reached, provider_strange}
use Rattle.remote_worker.proofs.Looking.{looked_up, seen_fails, seen_so, seen_then}
use Rattle.remote_worker.proofs.fetching.check_provider.Goals as goal

-- what is looked up of the provider
abbrev KnownAt : ℕ → Place → Bool → Type 0
KnownAt own = OfConfig (λ c found. found ≡ is_known own c)

abbrev ReachedAt : ℕ → Place → ℕ → Type 0
ReachedAt origin = OfNode (λ k found. found ≡ progress origin (knowledge k))

pub progress_of-requires-clause-id : goal.progress_of-requires-clause-id
progress_of-requires-clause-id g c = c.args.event.now.can.numbered.0

pub returns-in-Ok-clause-looks : goal.returns-in-Ok-clause-looks
returns-in-Ok-clause-looks g c =
    let e = seen_event c.args.event.now in
    seen_so (λ q both. subst (λ r. ProviderSays c.args.node c.args.provider e r q) (sym c.behind.ensures.says)
    (provider_reached c.args.node c.args.provider e q c.in-Ok.progress
    (λ k there. sym c.in-Ok-true.field-0-test ∙ both.0 k there, both.1) (nat_lt c.in-Ok.progress e.number) refl))
    (seen_then (Ok c.in-Ok.progress)
    (looked_up (KnownAt c.args.node) (Ok c.in-Ok-true.field-0) c.in-Ok-true.ensures.acts c.in-Ok-true.ensures.looks
    c.in-Ok-true.ensures.same)
    (looked_up (ReachedAt e.origin) (Ok c.in-Ok.progress) c.in-Ok.ensures.acts c.in-Ok.ensures.looks
    c.in-Ok.ensures.same))

pub returns-in-Ok-false-clause-looks : goal.returns-in-Ok-false-clause-looks
returns-in-Ok-false-clause-looks g c =
    let e = seen_event c.args.event.now in
    seen_so (λ q says. provider_strange c.args.node c.args.provider e q
    (λ k there. sym c.in-Ok-false.field-0-test ∙ says k there))
    (looked_up (KnownAt c.args.node) (Ok c.in-Ok-false.field-0) c.in-Ok-false.ensures.acts c.in-Ok-false.ensures.looks
    c.in-Ok-false.ensures.same)

pub returns-in-Err-progress_of-clause-looks : goal.returns-in-Err-progress_of-clause-looks
returns-in-Err-progress_of-clause-looks g c =
    let failed = c.in-Err-progress_of in
    seen_fails (seen_then (Err failed.fault)
    (looked_up (KnownAt c.args.node) (Ok c.in-Ok-true.field-0) c.in-Ok-true.ensures.acts c.in-Ok-true.ensures.looks
    c.in-Ok-true.ensures.same)
    (looked_up (ReachedAt c.args.event.now.origin) (Err failed.fault) failed.ensures.acts failed.ensures.looks
    failed.ensures.same))
