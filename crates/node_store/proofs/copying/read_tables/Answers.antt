use Rattle.std.proofs.Common.{refl}
use Rattle.slon_model.specs.Place.{standing_rows}
use Rattle.app_store.proofs.Upright.{up_at}
use Rattle.node_store.proofs.Doers.{tables_at}
use Rattle.node_store.proofs.Findings.{read_fits, read_stops, seen_at}
use Rattle.node_store.proofs.copying.read_tables.Goals as goal

pub returns-in-Ok-clause-looks : goal.returns-in-Ok-clause-looks
returns-in-Ok-clause-looks g c p ready memory =
    let at = up_at ready c.requires.up in
    let seen = seen_at at c.args.database.now.idle in
    (c.in-Ok.ensures.says _ (standing_rows p) seen (tables_at at), read_fits at c.in-Ok.ensures.safe refl)

pub returns-in-Err-clause-looks : goal.returns-in-Err-clause-looks
returns-in-Err-clause-looks g c p ready memory =
    let at = up_at ready c.requires.up in
    read_stops at c.in-Err.ensures.safe
    (record { down = c.fall.ensures.down; fault_is = c.fall.ensures.fault }) memory
    (c.in-Err.ensures.says _ (standing_rows p) (seen_at at c.args.database.now.idle) (tables_at at))
