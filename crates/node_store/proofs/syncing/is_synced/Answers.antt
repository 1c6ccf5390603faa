use Rattle.std.proofs.Common.{◌∙◌, ap, refl, sym}
use Rattle.slon_model.specs.Deeds.{held, knowledge, progress}
use Rattle.slon_model.specs.Events.{last_sync}
use Rattle.slon_model.specs.Place.{is_running}
use Rattle.event_store.specs.Streams.{streams_of}
use Rattle.event_store.specs.Syncing.{taken_of}
use Rattle.app_store.proofs.Upright.{up_at, running}
use Rattle.node_store.proofs.Findings.{node_gives, node_stops, id_is}
use Rattle.node_store.proofs.Synced.{compared}
use Rattle.node_store.proofs.syncing.is_synced.Goals as goal

pub returns-in-Ok-clause-looks : goal.returns-in-Ok-clause-looks
returns-in-Ok-clause-looks g c p ready memory =
    let at = up_at ready c.requires.up in
    node_gives at c.args.database.now.idle c.in-Ok.ensures.safe refl (λ n is seen stands.
    let id = id_is at n is c.in-Some.ensures.id in
    compared {p = p} {n = n} c.has_snapshot.result (record {
      taken_is = c.in_ok-now.ensures.taken p ready (ap is_running (running at).0);
      last_is = c.in-Ok.ensures.says _ (streams_of n) seen id stands.streams
          ∙ ap (λ id. taken_of (last_sync id (held n) (progress id (knowledge n)))) (sym id);
    }) c.has_snapshot.ensures)

pub returns-clause-looks : goal.returns-clause-looks
returns-clause-looks g c p ready memory =
    let at = up_at ready c.requires.up in
    node_stops at (c.args.database.now.idle, c.requires.node) c.in-Err.ensures.safe
    (record { down = c.fall.ensures.down; fault_is = c.fall.ensures.fault }) memory
    (λ n is seen stands.
    c.in-Err.ensures.says _ (streams_of n) seen (id_is at n is c.in-Some.ensures.id) stands.streams)
