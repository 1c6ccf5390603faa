use Rattle.std.proofs.Common.{sym, subst}
use Rattle.event_store.specs.Spellings.{CanSnapshot}
use Rattle.txn_core.specs.Snapshots.{seen_as}
use Rattle.remote_worker.proofs.Taking.{later_can}
use Rattle.remote_worker.proofs.keeping.view_after.Goals as goal

pub returns-clause-can : goal.returns-clause-can
returns-clause-can c =
    let can = c.requires in
    let view = c.args.view.now in
    let event = c.args.event.now in
    record {
      era = can.era;
      origin = can.origin;
      number = event.can.numbered.1;
      seen = subst CanSnapshot (sym c.in_ok-later_of.ensures)
          (later_can (seen_as view.seen) (seen_as event.taken) (can.seen, event.can.taken));
      base_era = can.base_era;
      base = subst CanSnapshot (sym c.in_ok-copy.ensures) can.base;
    }
