use Rattle.std.proofs.Common.{Option, Ok, Err, subst}
use Rattle.std.proofs.lemmas.Result.{err_from_is_err_and}
use Rattle.slon_model.specs.declared.reply.Refusal.{Refusal}
use Rattle.slon_model.specs.Place.{Place}
use Rattle.event_store.specs.Seen.{seen_event}
use Rattle.app_store.specs.Base.{base_of}
use Rattle.remote_worker.specs.Fetching.{Asked}
use Rattle.remote_worker.proofs.Finding.{ProviderSays, passed_found, refused_found}
use Rattle.remote_worker.proofs.Looking.{fails, provider_look, so, so_each, then}
use Rattle.remote_worker.proofs.fetching.Worker+Taken.fetch.Goals as goal

-- what is found of the provider
abbrev SaysAt : Asked → Place → Option Refusal → Type 0
SaysAt a q refusal = ProviderSays a.own a.copying.provider a.event refusal q

pub returns-in_err-refusal-clause-fetches : goal.returns-in_err-refusal-clause-fetches
returns-in_err-refusal-clause-fetches g c =
    let a : Asked = record {
      copying = c.args.copying;
      own = c.args.self.node;
      event = seen_event c.args.event.now;
    } in
    fails c.from_residual.result (err_from_is_err_and c.from_residual.result c.from_residual.ensures.1)
    (provider_look (SaysAt a) (base_of g.K.Keeper.kept c.args.own.now) c.check_provider.result
    (Err c.in_err-refusal.field-0.0) c.in_err-refusal.ensures c.check_provider.ensures.looks)

pub returns-in-Some-clause-fetches : goal.returns-in-Some-clause-fetches
returns-in-Some-clause-fetches g c =
    let a : Asked = record {
      copying = c.args.copying;
      own = c.args.self.node;
      event = seen_event c.args.event.now;
    } in
    so (λ p q says. refused_found a p q c.in-Some.refusal (subst (λ o. SaysAt a q o) c.in-Some.is says))
    (provider_look (SaysAt a) (base_of g.K.Keeper.kept c.args.own.now) c.check_provider.result
    (Ok c.in_ok-refusal.field-0) c.in_ok-refusal.ensures c.check_provider.ensures.looks)

pub returns-in-None-clause-fetches : goal.returns-in-None-clause-fetches
returns-in-None-clause-fetches g c =
    let a : Asked = record {
      copying = c.args.copying;
      own = c.args.self.node;
      event = seen_event c.args.event.now;
    } in
    so_each c.copy_given.result (λ p q given both.
    passed_found a p q given (subst (λ o. SaysAt a q o) c.in-None.is both.0) both.1)
    (then c.copy_given.result
    (provider_look (SaysAt a) (base_of g.K.Keeper.kept c.args.own.now) c.check_provider.result
    (Ok c.in_ok-refusal.field-0) c.in_ok-refusal.ensures c.check_provider.ensures.looks)
    c.copy_given.ensures.brings)
