use Rattle.std.proofs.Common.{ℕ, sym, ◌∙◌}
use Rattle.std.proofs.lemmas.Result.{err_from_is_err_and}
use Rattle.slon_model.specs.Maps.{pair_at}
use Rattle.store_rows.proofs.Spaces.{hands_stop, pending_same, sees}
use Rattle.set_config.specs.Holds.{AreIds}
use Rattle.set_config.proofs.subscriptions.enable_subscription.Goals as goal

pub returns-in_err-get_row-clause-turns : goal.returns-in_err-get_row-clause-turns
returns-in_err-get_row-clause-turns g c base config p =
    let i : ℕ × ℕ = (c.args.set, c.args.receiver) in
    let held = p.has.config.subscriptions in
    let ids : AreIds i = (c.requires.can.0, c.requires.can.1) in
    hands_stop _ _ c.from_residual.result (err_from_is_err_and c.from_residual.result c.from_residual.ensures.1)
    (c.in_err-get_row.ensures.gives p.store (pair_at i.0 i.1 config.subscriptions) (sees p) (held.spelled i ids)
    (held.lookups i ids))

pub returns-in-None-clause-turns : goal.returns-in-None-clause-turns
returns-in-None-clause-turns g c base config p =
    let i : ℕ × ℕ = (c.args.set, c.args.receiver) in
    let held = p.has.config.subscriptions in
    let ids : AreIds i = (c.requires.can.0, c.requires.can.1) in
    let found = c.in_ok-get_row.ensures.gives p.store (pair_at i.0 i.1 config.subscriptions) (sees p)
    (held.spelled i ids) (held.lookups i ids) in
    rw (sym found ∙ c.in-None.is) (pending_same p c.in_ok-get_row.ensures.same)

pub returns-in-Some-clause-turns : goal.returns-in-Some-clause-turns
returns-in-Some-clause-turns g c base config p =
    let i : ℕ × ℕ = (c.args.set, c.args.receiver) in
    let held = p.has.config.subscriptions in
    let ids : AreIds i = (c.requires.can.0, c.requires.can.1) in
    let found = c.in_ok-get_row.ensures.gives p.store (pair_at i.0 i.1 config.subscriptions) (sees p)
    (held.spelled i ids) (held.lookups i ids) in
    rw (sym found ∙ c.in-Some.is)
    (c.put_subscription.ensures.turns base config (pending_same p c.in_ok-get_row.ensures.same))
