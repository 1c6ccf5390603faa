use Rattle.std.proofs.Common.{cond, sym, subst, ◌∙◌}
use Rattle.std.proofs.lemmas.Result.{err_from_is_err_and}
use Rattle.store_rows.proofs.Spaces.{hands_stop, pending_same}
use Rattle.store_rows.specs.Space.{IsPending, Becomes}
use Rattle.slon_model.specs.Config.{handed}
use Rattle.set_config.specs.Holds.{Shows}
use Rattle.set_config.proofs.handing.take_set.Goals as goal

pub returns-in_err-is_live_set-clause-turns : goal.returns-in_err-is_live_set-clause-turns
returns-in_err-is_live_set-clause-turns g c base config p =
    hands_stop _ _ c.from_residual.result
    (err_from_is_err_and c.from_residual.result c.from_residual.ensures.1)
    (c.in_err-is_live_set.ensures.gives base config p)

pub returns-then-branch-clause-turns : goal.returns-then-branch-clause-turns
returns-then-branch-clause-turns g c base config p =
    let s = c.args.taken.now in
    let live = sym (c.in_ok-is_live_set.ensures.gives base config p) ∙ c.if-branch.true in
    let feeds = c.as_slice.ensures.value in
    subst (λ b. Becomes (Shows base (cond b (handed s.0 c.args.backup s.1.0 s.1.1 config) config))
    (g.K.Keeper.kept c.hand_set.new.keeper) c.hand_set.result) (sym live)
    (subst (λ fs. Becomes (Shows base (handed s.0 c.args.backup s.1.0 fs config))
    (g.K.Keeper.kept c.hand_set.new.keeper) c.hand_set.result) feeds
    (c.hand_set.ensures.turns base config (pending_same p c.in_ok-is_live_set.ensures.same)))

pub returns-clause-turns : goal.returns-clause-turns
returns-clause-turns g c base config p =
    let s = c.args.taken.now in
    let live = sym (c.in_ok-is_live_set.ensures.gives base config p) ∙ c.if-branch.false in
    subst (λ b. IsPending (Shows base (cond b (handed s.0 c.args.backup s.1.0 s.1.1 config) config))
    (g.K.Keeper.kept c.is_live_set.new.keeper)) (sym live) (pending_same p c.in_ok-is_live_set.ensures.same)
