use Rattle.std.proofs.Common.{ap, sym, ◌∙◌}
use Rattle.std.proofs.lemmas.Result.{err_from_is_err_and}
use Rattle.std.specs.Option.{option_map}
use Rattle.store_rows.proofs.Spaces.{hands_stop, pending_as, pending_same, sees}
use Rattle.event_store.specs.Kept.{seen_view}
use Rattle.event_store.proofs.Based.{based_becomes, based_none}
use Rattle.event_store.proofs.view.base_view.Goals as goal

pub returns-in_err-find_view-clause-turns : goal.returns-in_err-find_view-clause-turns
returns-in_err-find_view-clause-turns g c base s p =
    hands_stop _ _ c.from_residual.result (err_from_is_err_and c.from_residual.result c.from_residual.ensures.1)
    (c.in_err-find_view.ensures.says p.store s (sees p) p.has.streams)

pub returns-in-None-clause-turns : goal.returns-in-None-clause-turns
returns-in-None-clause-turns g c base s p =
    let found = sym (c.in_ok-find_view.ensures.says p.store s (sees p) p.has.streams)
    ∙ ap (option_map seen_view) c.in-None.is in
    pending_as (λ m shows. based_none c.args.set m found shows) (pending_same p c.in_ok-find_view.ensures.same)

pub returns-in_ok-now-in-Some-clause-turns : goal.returns-in_ok-now-in-Some-clause-turns
returns-in_ok-now-in-Some-clause-turns g c base s p =
    let found = sym (c.in_ok-find_view.ensures.says p.store s (sees p) p.has.streams)
    ∙ ap (option_map seen_view) c.in-Some.is in
    based_becomes base s c.args.set (seen_view c.in_ok-now-in-Some.now)
    (g.K.Keeper.kept c.keep_view.new.keeper) c.keep_view.result
    (record { view = seen_view c.in-Some.view; found = found; is = c.in_ok-now-in-Some.ensures })
    (c.keep_view.ensures.turns base s (pending_same p c.in_ok-find_view.ensures.same))
