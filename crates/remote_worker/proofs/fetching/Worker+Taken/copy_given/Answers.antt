use Rattle.std.proofs.Common.{Ok, Err, subst}
use Rattle.std.proofs.lemmas.Result.{err_from_is_err_and}
use Rattle.event_store.specs.Seen.{seen_event}
use Rattle.app_store.specs.Base.{base_of}
use Rattle.remote_worker.specs.Fetching.{Asked, IsGiven}
use Rattle.remote_worker.specs.Working.{seen_copying}
use Rattle.remote_worker.proofs.Finding.{given_found, other_found}
use Rattle.remote_worker.proofs.Looking.{fails, provider_look, so, so_each, then}
use Rattle.remote_worker.proofs.fetching.Worker+Taken.copy_given.Goals as goal

pub returns-in_err-at-clause-brings : goal.returns-in_err-at-clause-brings
returns-in_err-at-clause-brings g c =
    fails c.from_residual.result (err_from_is_err_and c.from_residual.result c.from_residual.ensures.1)
    (provider_look (IsGiven (seen_copying c.args.copying)) (base_of g.K.Keeper.kept c.args.own.now) c.given_by.result
    (Err c.in_err-at.field-0.0) c.in_err-at.ensures c.given_by.ensures.looks)

pub returns-in-None-clause-brings : goal.returns-in-None-clause-brings
returns-in-None-clause-brings g c =
    let a : Asked = record {
      copying = c.args.copying;
      own = c.args.self.node;
      event = seen_event c.args.event.now;
    } in
    let s = seen_copying c.args.copying in
    so (λ p q given. other_found a p q c.with.result (subst (IsGiven s q) c.in-None.is given) c.with.ensures.load_is)
    (provider_look (IsGiven s) (base_of g.K.Keeper.kept c.args.own.now) c.given_by.result
    (Ok c.in_ok-at.field-0) c.in_ok-at.ensures c.given_by.ensures.looks)

pub returns-in-Some-clause-brings : goal.returns-in-Some-clause-brings
returns-in-Some-clause-brings g c =
    let a : Asked = record {
      copying = c.args.copying;
      own = c.args.self.node;
      event = seen_event c.args.event.now;
    } in
    let s = seen_copying c.args.copying in
    so_each c.copy.result (λ p q given both.
    given_found a c.in-Some.seen p q given (subst (IsGiven s q) c.in-Some.is both.0) both.1)
    (then c.copy.result
    (provider_look (IsGiven s) (base_of g.K.Keeper.kept c.args.own.now) c.given_by.result
    (Ok c.in_ok-at.field-0) c.in_ok-at.ensures c.given_by.ensures.looks)
    c.copy.ensures.copies)
