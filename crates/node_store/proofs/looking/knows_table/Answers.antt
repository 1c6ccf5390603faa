use Rattle.std.proofs.Common.{refl}
use Rattle.app_store.proofs.Upright.{up_at}
use Rattle.node_store.proofs.Findings.{config_gives, config_stops}
use Rattle.node_store.proofs.looking.knows_table.Goals as goal

pub returns-in-Ok-clause-looks : goal.returns-in-Ok-clause-looks
returns-in-Ok-clause-looks g c p ready memory =
    config_gives (up_at ready c.requires.up) c.args.database.now.idle c.in-Ok.ensures.safe refl
    (λ m k seen held orderly. c.in-Ok.ensures.says m k seen held)

pub returns-in-Err-clause-looks : goal.returns-in-Err-clause-looks
returns-in-Err-clause-looks g c p ready memory =
    config_stops (up_at ready c.requires.up) c.args.database.now.idle c.in-Err.ensures.safe
    (record { down = c.fall.ensures.down; fault_is = c.fall.ensures.fault }) memory
    (λ m k seen held orderly. c.in-Err.ensures.says m k seen held)
