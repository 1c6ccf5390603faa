use Rattle.std.proofs.Common.{sym, subst}
use Rattle.event_store.specs.Spellings.{CanSnapshot}
use Rattle.remote_worker.proofs.fetching.first_view.Goals as goal

pub returns-clause-can : goal.returns-clause-can
returns-clause-can c =
    let can = c.requires.can in
    let event = c.args.event.now in
    record {
      era = can.0;
      origin = event.can.numbered.0;
      number = event.can.numbered.1;
      seen = subst CanSnapshot (sym c.in_ok-copy.ensures) can.1;
      base_era = can.0;
      base = subst CanSnapshot (sym c.in_ok-copy-2.ensures) can.1;
    }
