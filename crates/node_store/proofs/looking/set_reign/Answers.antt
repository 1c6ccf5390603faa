use Rattle.std.proofs.Common.{◌∙◌, ap, sym, subst, refl}
use Rattle.store_rows.specs.Space.{AllOf}
use Rattle.node_store.specs.Looking.{IsSmall, live_reign}
use Rattle.app_store.proofs.Upright.{up_at}
use Rattle.node_store.proofs.Findings.{config_gives, config_stops}
use Rattle.node_store.proofs.Lookups.{small_reign}
use Rattle.node_store.proofs.looking.set_reign.Goals as goal

pub returns-in-Ok-clause-small : goal.returns-in-Ok-clause-small
returns-in-Ok-clause-small g c =
    subst (AllOf IsSmall) (sym c.reign_in.ensures) (small_reign c.in-Ok.row c.in-Ok.ensures.can)

pub returns-in-Ok-clause-looks : goal.returns-in-Ok-clause-looks
returns-in-Ok-clause-looks g c p ready memory =
    config_gives (up_at ready c.requires.up) c.args.database.now.idle c.in-Ok.ensures.safe refl
    (λ m k seen held orderly. c.reign_in.ensures ∙ ap live_reign (c.in-Ok.ensures.says m k seen held))

pub returns-in-Err-clause-looks : goal.returns-in-Err-clause-looks
returns-in-Err-clause-looks g c p ready memory =
    config_stops (up_at ready c.requires.up) c.args.database.now.idle c.in-Err.ensures.safe
    (record { down = c.fall.ensures.down; fault_is = c.fall.ensures.fault }) memory
    (λ m k seen held orderly. c.in-Err.ensures.says m k seen held)
