use Rattle.std.proofs.Common.{[], ◌∷◌, refl, sym, subst}
use Rattle.slon_model.specs.Logs.{logged}
use Rattle.event_store.specs.Seen.{seen_event}
use Rattle.remote_worker.specs.Keeping.{seen_kept}
use Rattle.remote_worker.specs.Loading.{HaveFetches}
use Rattle.remote_worker.specs.Running.{taken_run}
use Rattle.remote_worker.proofs.following.fetch_alone.Goals as goal

pub returns-in_ok-alone-in-Ok-clause-looks : goal.returns-in_ok-alone-in-Ok-clause-looks
returns-in_ok-alone-in-Ok-clause-looks g c p ready memory ended =
    let e = seen_event c.args.event.now in
    let read = c.in-Ok.ensures.looks p ready refl ended in (
      λ n is. subst (HaveFetches e.origin (taken_run e (logged n) (seen_kept c.args.kept ∷ [])))
          (sym c.in_ok-alone-in-Ok.ensures) (read.0 n is, tt),
      read.1,
    )
