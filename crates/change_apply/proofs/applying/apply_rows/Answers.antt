use Rattle.std.proofs.Common.{◌≡◌, ◌+◌, Some, List, ◌∷◌, ℕ, drop, refl, rules, subst, sym, ap, ◌∙◌}
use Rattle.std.proofs.lemmas.List.{drop_more, drop_all}
use Rattle.std.proofs.lemmas.Result.{err_from_is_err_and}
use Rattle.slon_base.specs.Codec.{AllAre}
use Rattle.slon_base.specs.Keeper.{Store}
use Rattle.store_rows.specs.Space.{IsPending}
use Rattle.store_rows.proofs.Spaces.{hands_stop, pending_as}
use Rattle.slon_model.specs.Rows.{Rows}
use Rattle.change_capture.specs.declared.action.Action.{Action}
use Rattle.change_capture.specs.declared.log_row.LogRow.{LogRow}
use Rattle.change_capture.specs.Spellings.{CanLogRow}
use Rattle.change_apply.specs.Applied.{HoldsRows, AreLogOf}
use Rattle.change_apply.proofs.Logged.{IsLeft, Goes, all_left, one_less, none_left, goes_on, stops_at, all_others_stay}
use Rattle.change_apply.proofs.applying.apply_rows.Goals as goal

pub loop-number-init : goal.loop-number-init
loop-number-init g c =
    let old = g.K.Keeper.kept c.args.keeper.now in
    let rest : (tables : List ℕ → Rows) (actions : List Action) → AreLogOf c.args.rows.now actions →
    IsPending (HoldsRows tables) old → IsPending (IsLeft c.args.rows.now actions tables) old =
    λ tables actions are p. all_left are p in
    let on : (m : Store) → old.pending ≡ Some (Some m) → IsPending (Goes c.args.rows.now c.args.rows.now m) old =
    λ m is. record { store = m; is = is; has = λ end acts. acts } in
    search (rules, rest, on)

pub returns-in_err-apply_row-clause-applies : goal.returns-in_err-apply_row-clause-applies
returns-in_err-apply_row-clause-applies g c tables actions are p =
    let rows = c.args.rows.now in
    let at = c.loop-number.number-index in
    let more = drop (at + 1) rows in
    let row : ℕ × LogRow = c.loop-number-item.result in
    let step = drop_more rows at row c.loop-number-test.true ∙ ap (λ r. r ∷ more) (sym c.loop-number-item.is) in
    let left = subst (λ rs. IsPending (IsLeft rs actions tables) (g.K.Keeper.kept c.loop-number.keeper)) step
    (c.loop-number.invariant.rest tables actions are p) in
    let result = c.from_residual.result in
    hands_stop _ _ result (err_from_is_err_and result c.from_residual.ensures.1)
    (stops_at c.in_err-apply_row.field-0.0 left c.in_err-apply_row.ensures.applies)

pub loop-number-preserved : goal.loop-number-preserved
loop-number-preserved g c =
    let old = g.K.Keeper.kept c.args.keeper.now in
    let mid = g.K.Keeper.kept c.loop-number.keeper in
    let new = g.K.Keeper.kept c.apply_row.new.keeper in
    let rows = c.args.rows.now in
    let at = c.loop-number.number-index in
    let more = drop (at + 1) rows in
    let before = c.loop-number.invariant in
    let row : ℕ × LogRow = c.loop-number-item.result in
    let step = drop_more rows at row c.loop-number-test.true ∙ ap (λ r. r ∷ more) (sym c.loop-number-item.is) in
    let can = subst (AllAre (λ r. CanLogRow r.1)) step before.can in
    let rest : (tables : List ℕ → Rows) (actions : List Action) → AreLogOf rows actions →
    IsPending (HoldsRows tables) old → IsPending (IsLeft more actions tables) new =
    λ tables actions are p. one_less
    (subst (λ rs. IsPending (IsLeft rs actions tables) mid) step (before.rest tables actions are p))
    c.in_ok-apply_row.ensures.applies in
    let on : (m : Store) → old.pending ≡ Some (Some m) → IsPending (Goes more rows m) new =
    λ m is. goes_on more rows m (subst (λ rs. IsPending (Goes rs rows m) mid) step (before.on m is))
    c.in_ok-apply_row.ensures.acted in
    search (rules, rest, on, can)

pub returns-clause-acted : goal.returns-clause-acted
returns-clause-acted g c m is =
    let rows = c.args.rows.now in
    let end = drop_all c.loop-number.number-index rows c.loop-number-test.false in
    pending_as (λ n goes. goes n refl)
    (subst (λ more. IsPending (Goes more rows m) (g.K.Keeper.kept c.loop-number.keeper)) end
    (c.loop-number.invariant.on m is))

pub returns-clause-others : goal.returns-clause-others
returns-clause-others g c m is =
    pending_as (λ n acts. all_others_stay c.args.rows.now m n acts) (returns-clause-acted g c m is)

pub returns-clause-applies : goal.returns-clause-applies
returns-clause-applies g c tables actions are p =
    let rows = c.args.rows.now in
    let end = drop_all c.loop-number.number-index rows c.loop-number-test.false in
    none_left (subst (λ more. IsPending (IsLeft more actions tables) (g.K.Keeper.kept c.loop-number.keeper)) end
    (c.loop-number.invariant.rest tables actions are p))
