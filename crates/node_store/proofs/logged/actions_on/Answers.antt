use Rattle.std.proofs.Common.{◌+◌, ◌∷◌, ℕ, drop, subst, sym, ap, ◌∙◌}
use Rattle.std.proofs.lemmas.List.{drop_all, drop_more}
use Rattle.std.proofs.lemmas.Result.{err_from_is_err_and}
use Rattle.change_capture.specs.declared.log_row.LogRow.{LogRow}
use Rattle.set_config.proofs.Holding.{gives_stop}
use Rattle.node_store.proofs.Sifting.{AreDone, all_done, none_done, one_done, sifting_stops}
use Rattle.node_store.proofs.logged.actions_on.Goals as goal

pub loop-number-init : goal.loop-number-init
loop-number-init c = none_done c.args.tables.now c.requires.can c.in_ok-actions.ensures

pub returns-in_err-action-clause-says : goal.returns-in_err-action-clause-says
returns-in_err-action-clause-says c logs written are =
    let rows = c.args.rows.now in
    let at = c.loop-number.number-index in
    let row : ℕ × LogRow = c.loop-number-item.result in
    let more = drop (at + 1) rows in
    let step = drop_more rows at row c.loop-number-test.true ∙ ap (λ r. r ∷ more) (sym c.loop-number-item.is) in
    let left = subst (λ rs. AreDone c.args.tables.now rows rs c.loop-number.actions) step c.loop-number.invariant in
    let handed = c.from_residual-in_err-action in
    gives_stop _ handed.result (err_from_is_err_and handed.result handed.ensures.1)
    (sifting_stops (left.says logs written are) (λ l written is. c.in_err-action.ensures.says l written is))

pub loop-number-preserved : goal.loop-number-preserved
loop-number-preserved c =
    let rows = c.args.rows.now in
    let at = c.loop-number.number-index in
    let row : ℕ × LogRow = c.loop-number-item.result in
    let more = drop (at + 1) rows in
    let step = drop_more rows at row c.loop-number-test.true ∙ ap (λ r. r ∷ more) (sym c.loop-number-item.is) in
    let left = subst (λ rs. AreDone c.args.tables.now rows rs c.loop-number.actions) step c.loop-number.invariant in
    one_done left c.in_ok-action.ensures.found (sym c.is_on_one.ensures ∙ c.if-not-is_on_one.false)
    c.in_ok-push.ensures.ok c.in_ok-action.ensures.says

pub returns-clause-can : goal.returns-clause-can
returns-clause-can c =
    let end = drop_all c.loop-number.number-index c.args.rows.now c.loop-number-test.false in
    (all_done (subst (λ rs. AreDone c.args.tables.now c.args.rows.now rs c.loop-number.actions) end
    c.loop-number.invariant)).0

pub returns-clause-says : goal.returns-clause-says
returns-clause-says c =
    let end = drop_all c.loop-number.number-index c.args.rows.now c.loop-number-test.false in
    (all_done (subst (λ rs. AreDone c.args.tables.now c.args.rows.now rs c.loop-number.actions) end
    c.loop-number.invariant)).1
