use Rattle.std.proofs.Common.{◌∙◌, refl, subst}
use Rattle.slon_model.specs.Following.{delta}
use Rattle.slon_model.specs.Logs.{logged}
use Rattle.txn_core.specs.Snapshots.{seen_as}
use Rattle.event_store.specs.Seen.{seen_event}
use Rattle.node_store.specs.Bringing.{HasLogged}
use Rattle.remote_worker.specs.Loading.{HaveFetches}
use Rattle.remote_worker.proofs.Together.{all_taken, delta_run}
use Rattle.remote_worker.proofs.following.fetch_together.Goals as goal

pub returns-in_ok-parts_of-in-Ok-clause-looks : goal.returns-in_ok-parts_of-in-Ok-clause-looks
returns-in_ok-parts_of-in-Ok-clause-looks g c p ready memory ended =
    let e = seen_event c.args.event.now in
    let run = c.args.run in
    let found = c.in-Ok.found in
    let read = c.in-Ok.ensures.looks p ready refl ended in (
      λ n is. subst (λ ts. HaveFetches e.origin ts c.in_ok-parts_of-in-Ok.field-0)
          (all_taken e run (logged n) c.requires.can)
          (c.in_ok-parts_of-in-Ok.ensures.has e.origin (delta_run e run (logged n))
          (subst (λ ts. HasLogged e.origin
          (delta e.origin ts (seen_as run.first.before.seen) e.taken (logged n)) found.rows found.actions)
          (c.as_slice.ensures.value ∙ c.in_ok-tables.ensures) (read.0 n is))),
      read.1,
    )
