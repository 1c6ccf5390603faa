use Rattle.std.proofs.Common.{refl, subst, Option}
use Rattle.slon_model.specs.Deeds.{Node}
use Rattle.slon_model.specs.Following.{delta}
use Rattle.slon_laws.specs.Spelled.{logs_in}
use Rattle.txn_core.specs.Snapshots.{seen_as}
use Rattle.app_store.proofs.Upright.{up_at}
use Rattle.node_store.specs.Bringing.{HasLogged}
use Rattle.node_store.proofs.Delta.{holds_logs}
use Rattle.node_store.proofs.Findings.{read_fits, read_stops, seen_at}
use Rattle.node_store.proofs.logged.read_log.Goals as goal

pub returns-in-Ok-clause-looks : goal.returns-in-Ok-clause-looks
returns-in-Ok-clause-looks g c p ready memory ended =
    let at = up_at ready c.requires.up in
    let m = ready.fits.held.0 in
    let past = c.later_of-first.ensures.over c.args.origin (seen_as c.args.old.now).xmin (logs_in p.node)
    (c.first_of.ensures.over p ready) ended in
    let found = c.in-Ok.ensures.says m (logs_in p.node) (seen_at at c.args.database.now.idle)
    (holds_logs p.node m ready.fits.held.2.node_held) ready.spelled.logged past in (
      λ n is. subst (λ (o : Option Node). HasLogged c.args.origin (delta c.args.origin c.args.tables.now
          (seen_as c.args.old.now) (seen_as c.args.new.now) (logs_in o)) c.in-Ok.found.rows c.in-Ok.found.actions) is
          found,
      read_fits at c.in-Ok.ensures.safe refl,
    )

pub returns-in-Err-clause-looks : goal.returns-in-Err-clause-looks
returns-in-Err-clause-looks g c p ready memory ended =
    let at = up_at ready c.requires.up in
    let m = ready.fits.held.0 in
    let past = c.later_of-first.ensures.over c.args.origin (seen_as c.args.old.now).xmin (logs_in p.node)
    (c.first_of.ensures.over p ready) ended in
    read_stops at c.in-Err.ensures.safe
    (record { down = c.fall.ensures.down; fault_is = c.fall.ensures.fault }) memory
    (c.in-Err.ensures.says m (logs_in p.node) (seen_at at c.args.database.now.idle)
    (holds_logs p.node m ready.fits.held.2.node_held) ready.spelled.logged past)
