use Rattle.event_store.specs.Kept.{seen_view}
use Rattle.event_store.specs.Streams.{streams_of}
use Rattle.node_change.proofs.Confirmed.{becomes_as}
use Rattle.node_change.proofs.Keeping.{applied, has_kept, shows_applied}
use Rattle.node_change.proofs.applying.keep_set.Goals as goal

pub returns-clause-turns : goal.returns-clause-turns
returns-clause-turns g c n e b m is holds =
    becomes_as (g.K.Keeper.kept c.keep_view.new.keeper)
    (λ new shows. has_kept b (c.args.set, seen_view c.args.view.now) holds shows c.requires.kept.0) c.keep_view.result
    (c.keep_view.ensures.turns m (streams_of (applied n e b)) (shows_applied b is holds))
