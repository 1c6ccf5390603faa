use Rattle.std.proofs.Common.{Some, ap}
use Rattle.event_store.proofs.Formed.{none_lacks}
use Rattle.node_change.proofs.lookup.receiver_in.Goals as goal

pub returns-in-Ok-clause-form : goal.returns-in-Ok-clause-form
returns-in-Ok-clause-form c =
    none_lacks (record {
      ids = Some (c.in-Ok.known, c.in-Ok.receiver);
      can = c.in-Ok.ensures.can;
      spelled = ap (λ k. Some k) c.in-Ok.ensures.found;
    })
