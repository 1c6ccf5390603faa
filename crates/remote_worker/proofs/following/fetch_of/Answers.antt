use Rattle.std.proofs.Common.{refl, subst}
use Rattle.slon_model.specs.Following.{delta}
use Rattle.slon_model.specs.Logs.{logged}
use Rattle.txn_core.specs.Snapshots.{seen_as}
use Rattle.node_store.specs.Bringing.{HasLogged}
use Rattle.remote_worker.proofs.following.fetch_of.Goals as goal

pub returns-in-Ok-clause-looks : goal.returns-in-Ok-clause-looks
returns-in-Ok-clause-looks g c p ready memory ended =
    let e = c.args.event.now in
    let kept = c.args.kept in
    let found = c.in-Ok.found in
    let read = c.in-Ok.ensures.looks p ready refl ended in (
      λ n is. c.fetch_with.ensures.has e.origin
          (delta e.origin kept.tables (seen_as kept.before.seen) (seen_as e.taken) (logged n))
          (subst (λ ts. HasLogged e.origin
          (delta e.origin ts (seen_as kept.before.seen) (seen_as e.taken) (logged n)) found.rows found.actions)
          c.as_slice.ensures.value (read.0 n is)),
      read.1,
    )
