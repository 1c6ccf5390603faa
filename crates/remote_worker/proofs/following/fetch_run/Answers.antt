use Rattle.std.proofs.Common.{◌≡◌, [], ◌∷◌, map, sym, subst, arith}
use Rattle.std.proofs.lemmas.List.{nil_from_length}
use Rattle.slon_model.specs.Logs.{logged}
use Rattle.event_store.specs.Seen.{seen_event}
use Rattle.app_store.specs.Base.{base_of}
use Rattle.node_store.specs.Logged.{LooksWhere}
use Rattle.node_store.specs.Polling.{OfNode}
use Rattle.remote_worker.specs.Keeping.{HaveEndedBy, seen_kept}
use Rattle.remote_worker.specs.Loading.{HaveFetches}
use Rattle.remote_worker.specs.Running.{taken_run}
use Rattle.remote_worker.proofs.following.fetch_run.Goals as goal

pub returns-clause-looks : goal.returns-clause-looks
returns-clause-looks g c =
    let kept = g.K.Keeper.kept in
    let e = seen_event c.args.event.now in
    let run = c.args.run in
    let none : run.others ≡ [] = nil_from_length run.others (omega (arith, c.len.ensures, c.if-len-gt0.false)) in
    subst (λ others. LooksWhere (HaveEndedBy e.origin c.args.known (seen_kept run.first))
    (OfNode (λ n fetches.
    HaveFetches e.origin (taken_run e (logged n) (seen_kept run.first ∷ map seen_kept others)) fetches))
    (base_of kept c.args.provider.now) c.fetch_alone.result (base_of kept c.fetch_alone.new.provider)) (sym none)
    c.fetch_alone.ensures.looks
