use Rattle.std.proofs.Common.{◌≡◌, subst}
use Rattle.store_rows.specs.Steps.{Gives}
use Rattle.event_store.proofs.Holding.{own_progress}
use Rattle.event_store.proofs.streams.progress.Goals as goal

pub returns-clause-says : goal.returns-clause-says
returns-clause-says g c m s seen own held =
    subst (λ last. Gives (λ found. found ≡ last) c.find_confirmed.result)
    (own_progress s c.args.own c.args.origin own) (c.find_confirmed.ensures.says m s seen held)
