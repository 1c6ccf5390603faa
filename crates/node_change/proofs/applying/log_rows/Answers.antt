use Rattle.std.proofs.Common.{◌≡◌, refl, subst, sym}
use Rattle.store_rows.proofs.Spaces.{becomes}
use Rattle.log_switch.specs.Holds.{put_logs}
use Rattle.node_change.specs.Done.{HasKept, with_logs}
use Rattle.node_change.proofs.Keeping.{has_logged}
use Rattle.node_change.proofs.applying.log_rows.Goals as goal

pub returns-clause-turns : goal.returns-clause-turns
returns-clause-turns g c n e b m logs is holds from are =
    let rows = c.args.rows.now in
    becomes {P = λ s. s ≡ m} (HasKept n e (with_logs logs b) m) (put_logs c.args.origin rows)
    {old = g.K.Keeper.kept c.args.keeper.now} (g.K.Keeper.kept c.append.new.keeper) c.append.result
    c.append.ensures.put c.append.ensures.only
    (record { store = m; is = is; has = refl }) (λ s same.
    subst (λ t. HasKept n e (with_logs logs b) m (put_logs c.args.origin rows t)) (sym same)
    (has_logged b c.args.origin logs rows m
    (record { id = c.requires.id; from = from; are = are; can = c.requires.can }) holds))
