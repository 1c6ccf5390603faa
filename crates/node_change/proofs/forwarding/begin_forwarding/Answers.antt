use Rattle.std.proofs.Common.{cond, not, sym, subst, ◌∙◌}
use Rattle.std.proofs.lemmas.Result.{err_from_is_err_and}
use Rattle.store_rows.specs.Space.{IsPending, Becomes}
use Rattle.store_rows.proofs.Spaces.{hands_stop, pending_as, pending_same, sees}
use Rattle.slon_model.specs.Views.{based_at}
use Rattle.event_store.specs.Holds.{ShowsStreams}
use Rattle.node_change.proofs.Relaying.{same_views}
use Rattle.node_change.proofs.forwarding.begin_forwarding.Goals as goal

pub returns-in_err-is_forwarder-clause-turns : goal.returns-in_err-is_forwarder-clause-turns
returns-in_err-is_forwarder-clause-turns g c base config s p =
    hands_stop _ _ c.from_residual.result (err_from_is_err_and c.from_residual.result c.from_residual.ensures.1)
    (c.in_err-is_forwarder.ensures.says p.store config (sees p) p.has.1)

pub returns-then-branch-clause-turns : goal.returns-then-branch-clause-turns
returns-then-branch-clause-turns g c base config s p =
    let is = sym (c.in_ok-is_forwarder.ensures.says p.store config (sees p) p.has.1) ∙ c.if-branch.true in
    subst (λ b. IsPending (ShowsStreams base (record s {
      views = cond (not b) (based_at c.args.set s.views) s.views;
    })) (g.K.Keeper.kept c.is_forwarder.new.keeper)) (sym is)
    (pending_as (λ m both. same_views both.0) (pending_same p c.in_ok-is_forwarder.ensures.same))

pub returns-clause-turns : goal.returns-clause-turns
returns-clause-turns g c base config s p =
    let is = sym (c.in_ok-is_forwarder.ensures.says p.store config (sees p) p.has.1) ∙ c.if-branch.false in
    subst (λ b. Becomes (ShowsStreams base (record s {
      views = cond (not b) (based_at c.args.set s.views) s.views;
    })) (g.K.Keeper.kept c.base_view.new.keeper) c.base_view.result) (sym is)
    (c.base_view.ensures.turns base s
    (pending_as (λ m both. both.0) (pending_same p c.in_ok-is_forwarder.ensures.same)))
