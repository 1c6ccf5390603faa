use Rattle.std.proofs.Common.{◌∙◌, Some, ap, refl}
use Rattle.std.proofs.lemmas.Result.{err_from_is_err_and}
use Rattle.node_store.proofs.Taking.{stamped}
use Rattle.node_store.proofs.Midways.{midway_begun, midway_on, breaks_on, enters_as, enters_on}
use Rattle.node_store.proofs.writing.write_heard.Goals as goal

pub returns-in_err-hear-clause-enters : goal.returns-in_err-hear-clause-enters
returns-in_err-hear-clause-enters g c =
    enters_as _ _ c.from_residual-in_err-hear.result
    (err_from_is_err_and c.from_residual-in_err-hear.result c.from_residual-in_err-hear.ensures.1)
    (breaks_on _ (midway_begun c.in_ok-begin.ensures) c.in_err-hear.ensures.safe c.in_err-hear.ensures.within refl)

pub returns-clause-enters : goal.returns-clause-enters
returns-clause-enters g c =
    enters_on c.put_pair.result (midway_on (midway_begun c.in_ok-begin.ensures) c.in_ok-hear.ensures.safe)
    c.put_pair.ensures.safe c.put_pair.ensures.only

pub returns-clause-writes : goal.returns-clause-writes
returns-clause-writes g c n m own held holds =
    stamped (record {
      number = c.args.stamp;
      bytes = c.as_slice.result.now;
      spelled = c.as_slice.ensures ∙ c.in_ok-stamp.ensures;
    }) (g.K.Keeper.kept c.put_pair.new.keeper) c.put_pair.result
    (c.in_ok-hear.ensures.turns n m own (c.in_ok-begin.ensures.opened ∙ ap (λ h. Some h) held) holds)
    (c.put_pair.ensures.put, c.put_pair.ensures.only)
