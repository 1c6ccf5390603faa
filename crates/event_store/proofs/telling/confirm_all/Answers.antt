use Rattle.std.proofs.Common.{◌≡◌, ◌+◌, Some, get_or, drop, refl, rules, subst, ◌∙◌}
use Rattle.std.proofs.lemmas.List.{drop_more, drop_all}
use Rattle.std.proofs.lemmas.Result.{err_from_is_err_and}
use Rattle.slon_base.specs.Codec.{AllAre}
use Rattle.slon_base.specs.Keeper.{Store}
use Rattle.store_rows.specs.Space.{IsPending}
use Rattle.store_rows.proofs.Spaces.{hands_stop, pending_as, sees}
use Rattle.event_store.specs.Giving.{Confirmation}
use Rattle.event_store.specs.Holds.{ShowsStreams}
use Rattle.event_store.specs.Streams.{Streams}
use Rattle.event_store.specs.Telling.{IsOfOther, HandedRows}
use Rattle.event_store.proofs.Formed.{passes_on}
use Rattle.event_store.proofs.Heard.{IsTold, none_told, one_told, all_heard, IsOn, none_on, one_on, handed_on}
use Rattle.event_store.proofs.Heard.{seen_pending}
use Rattle.event_store.proofs.telling.confirm_all.Goals as goal

pub loop-row-init : goal.loop-row-init
loop-row-init g c =
    let old = g.K.Keeper.kept c.args.keeper.now in
    let rows = c.args.rows.now in
    let rest : (base : Store) (s : Streams) → s.own ≡ c.args.own → IsPending (ShowsStreams base s) old →
    IsPending (IsTold base s rows rows) old = λ base s own p. none_told rows p in
    let on : (m : Store) → old.pending ≡ Some (Some m) → IsPending (IsOn c.args.own rows rows m) old =
    λ m is. none_on c.args.own rows m is in
    search (rules, rest, on)

pub returns-in_err-confirm-clause-turns : goal.returns-in_err-confirm-clause-turns
returns-in_err-confirm-clause-turns g c base s own p =
    let so_far = c.loop-row.invariant.rest base s own p in
    let result = c.from_residual.result in
    hands_stop _ _ result (err_from_is_err_and result c.from_residual.ensures.1)
    (c.in_err-confirm.ensures.turns base (record s { told = so_far.has.told }) own
    (record { store = so_far.store; is = so_far.is; has = so_far.has.shows }))

pub returns-in_err-confirm-clause-form : goal.returns-in_err-confirm-clause-form
returns-in_err-confirm-clause-form g c m seen =
    let rows = c.args.rows.now in
    let at = c.loop-row.row-index in
    let row : Confirmation = get_or rows at ((0, 0), 0) in
    let step = drop_more rows at ((0, 0), 0) c.loop-row-test.true in
    let can = subst (AllAre (IsOfOther c.args.own)) step c.loop-row.invariant.can in
    let p = c.loop-row.invariant.on m
    (seen_pending (g.K.Keeper.kept c.args.keeper.now) m c.requires.opened seen) in
    let result = c.from_residual.result in
    passes_on _ (HandedRows m c.args.own rows) result (err_from_is_err_and result c.from_residual.ensures.1)
    (handed_on row (drop (at + 1) rows) rows can.0
    (subst (λ more. IsOn c.args.own more rows m p.store) step p.has)) (c.in_err-confirm.ensures.form p.store (sees p))

pub loop-row-preserved : goal.loop-row-preserved
loop-row-preserved g c =
    let old = g.K.Keeper.kept c.args.keeper.now in
    let mid = g.K.Keeper.kept c.loop-row.keeper in
    let new = g.K.Keeper.kept c.confirm.new.keeper in
    let rows = c.args.rows.now in
    let at = c.loop-row.row-index in
    let more = drop (at + 1) rows in
    let before = c.loop-row.invariant in
    let row : Confirmation = get_or rows at ((0, 0), 0) in
    let step = drop_more rows at ((0, 0), 0) c.loop-row-test.true in
    let can = subst (AllAre (IsOfOther c.args.own)) step before.can in
    let rest : (base : Store) (s : Streams) → s.own ≡ c.args.own → IsPending (ShowsStreams base s) old →
    IsPending (IsTold base s more rows) new =
    λ base s own p. one_told row more rows (λ same. can.0.other (same ∙ own))
    (subst (λ rs. IsPending (IsTold base s rs rows) mid) step (before.rest base s own p))
    (λ t is q. (c.in_ok-confirm.ensures.turns base t (is ∙ own) q).1) in
    let on : (m : Store) → old.pending ≡ Some (Some m) → IsPending (IsOn c.args.own more rows m) new =
    λ m is. let p = before.on m is in
    pending_as (λ n raised. one_on row more rows (subst (λ rs. IsOn c.args.own rs rows m p.store) step p.has) raised)
    (c.in_ok-confirm.ensures.raises p.store p.is) in
    search (rules, rest, on)

pub returns-clause-turns : goal.returns-clause-turns
returns-clause-turns g c base s own p =
    let rows = c.args.rows.now in
    let end = drop_all c.loop-row.row-index rows c.loop-row-test.false in
    all_heard rows (subst (λ more. IsPending (IsTold base s more rows) (g.K.Keeper.kept c.loop-row.keeper)) end
    (c.loop-row.invariant.rest base s own p))

pub returns-clause-raises : goal.returns-clause-raises
returns-clause-raises g c m is =
    let rows = c.args.rows.now in
    let end = drop_all c.loop-row.row-index rows c.loop-row-test.false in
    pending_as (λ n on. (subst (λ more. IsOn c.args.own more rows m n) end on).ends n refl)
    (c.loop-row.invariant.on m is)

pub returns-clause-form : goal.returns-clause-form
returns-clause-form g c m seen space handed =
    let rows = c.args.rows.now in
    let end = drop_all c.loop-row.row-index rows c.loop-row-test.false in
    let p = c.loop-row.invariant.on m
    (seen_pending (g.K.Keeper.kept c.args.keeper.now) m c.requires.opened seen) in
    (subst (λ more. IsOn c.args.own more rows m p.store) end p.has).left space handed
