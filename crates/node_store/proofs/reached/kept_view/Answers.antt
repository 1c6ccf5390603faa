use Rattle.std.proofs.Common.{refl}
use Rattle.event_store.specs.Streams.{streams_of}
use Rattle.app_store.proofs.Upright.{up_at}
use Rattle.node_store.proofs.Findings.{node_gives, node_stops}
use Rattle.node_store.proofs.reached.kept_view.Goals as goal

pub returns-in-Ok-clause-looks : goal.returns-in-Ok-clause-looks
returns-in-Ok-clause-looks g c p ready memory =
    let at = up_at ready c.requires.up in
    node_gives at c.args.database.now.idle c.in-Ok.ensures.safe refl
    (λ n is seen held. c.in-Ok.ensures.says _ (streams_of n) seen held.streams)

pub returns-in-Err-clause-looks : goal.returns-in-Err-clause-looks
returns-in-Err-clause-looks g c p ready memory =
    let at = up_at ready c.requires.up in
    node_stops at (c.args.database.now.idle, c.requires.node) c.in-Err.ensures.safe
    (record { down = c.fall.ensures.down; fault_is = c.fall.ensures.fault }) memory
    (λ n is seen held. c.in-Err.ensures.says _ (streams_of n) seen held.streams)
