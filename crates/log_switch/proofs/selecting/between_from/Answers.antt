use Rattle.std.proofs.Common.{◌≡◌, ◌∙◌, ◌<◌, ◌^◌, Result, Err, sym, ap, subst}
use Rattle.std.proofs.lemmas.Result.{err_from_is_err_and}
use Rattle.slon_base.specs.Codec.{AllAre}
use Rattle.store_rows.specs.Steps.{Gives, IsOutside}
use Rattle.store_rows.specs.declared.stop.Stop.{Stop}
use Rattle.change_capture.specs.Spellings.{CanLogRow}
use Rattle.txn_core.specs.Snapshots.{seen_as}
use Rattle.log_switch.specs.Between.{is_between, passed, ArePassed}
use Rattle.log_switch.proofs.Ranging.{selected, none_between, of_key, can_passed, small_of, small_passed}
use Rattle.log_switch.proofs.selecting.between_from.Goals as goal

-- a stop for the store, or for want of memory, that is passed on
gives_stop : {U : Type 0} (P : U → Type 0) {stop : Stop} (result : Result U Stop) →
    (y : Stop) × (result ≡ Err y) × (y ≡ stop) → IsOutside stop → Gives P result
gives_stop P {stop} result (y, is, same) outside =
    subst (λ r. Gives P r) (sym (is ∙ ap (λ e. Err e) same)) outside

pub returns-in_err-rows-clause-gives : goal.returns-in_err-rows-clause-gives
returns-in_err-rows-clause-gives g c m all seen are =
    let prefix = c.as_slice.ensures ∙ c.in_ok-prefix.ensures in
    let key = c.as_slice-2.ensures ∙ c.in_ok-start.ensures in
    gives_stop _ c.from_residual-in_err-rows.result
    (err_from_is_err_and c.from_residual-in_err-rows.result c.from_residual-in_err-rows.ensures.1)
    (c.in_err-rows.ensures.gives m all seen are.can
    (of_key c.args.origin c.args.first c.as_slice.result.now c.as_slice-2.result.now prefix key are))

pub returns-in_err-rows-clause-says : goal.returns-in_err-rows-clause-says
returns-in_err-rows-clause-says g c m items seen held past =
    let old = seen_as c.args.old.now in
    let new = seen_as c.args.new.now in
    let none = none_between c.args.tables.now old new c.args.origin c.args.first items past in
    let p = is_between c.args.tables.now old new in
    let s = selected p c.args.origin c.args.first items m (c.requires.id, c.requires.small) held none in
    let prefix = c.as_slice.ensures ∙ c.in_ok-prefix.ensures in
    let key = c.as_slice-2.ensures ∙ c.in_ok-start.ensures in
    gives_stop _ c.from_residual-in_err-rows.result
    (err_from_is_err_and c.from_residual-in_err-rows.result c.from_residual-in_err-rows.ensures.1)
    (c.in_err-rows.ensures.gives m s.all seen s.are_of.can
    (of_key c.args.origin c.args.first c.as_slice.result.now c.as_slice-2.result.now prefix key s.are_of))

pub returns-clause-can : goal.returns-clause-can
returns-clause-can g c =
    let p = is_between c.args.tables.now (seen_as c.args.old.now) (seen_as c.args.new.now) in
    subst (AllAre (λ r. CanLogRow r.1)) (sym c.keep_between.ensures)
    (can_passed p c.in_ok-rows.rows c.in_ok-rows.ensures.can)

pub returns-clause-numbers : goal.returns-clause-numbers
returns-clause-numbers g c =
    let p = is_between c.args.tables.now (seen_as c.args.old.now) (seen_as c.args.new.now) in
    subst (AllAre (λ r. r.0 < 2 ^ 63)) (sym c.keep_between.ensures)
    (small_passed p c.in_ok-rows.rows (small_of c.in_ok-rows.rows c.in_ok-rows.ensures.can))

pub returns-clause-gives : goal.returns-clause-gives
returns-clause-gives g c m all seen are =
    let p = is_between c.args.tables.now (seen_as c.args.old.now) (seen_as c.args.new.now) in
    let prefix = c.as_slice.ensures ∙ c.in_ok-prefix.ensures in
    let key = c.as_slice-2.ensures ∙ c.in_ok-start.ensures in
    c.keep_between.ensures
    ∙ ap (passed p) (c.in_ok-rows.ensures.gives m all seen are.can
    (of_key c.args.origin c.args.first c.as_slice.result.now c.as_slice-2.result.now prefix key are))

pub returns-clause-says : goal.returns-clause-says
returns-clause-says g c m items seen held past =
    let old = seen_as c.args.old.now in
    let new = seen_as c.args.new.now in
    let none = none_between c.args.tables.now old new c.args.origin c.args.first items past in
    let p = is_between c.args.tables.now old new in
    let s = selected p c.args.origin c.args.first items m (c.requires.id, c.requires.small) held none in
    let prefix = c.as_slice.ensures ∙ c.in_ok-prefix.ensures in
    let key = c.as_slice-2.ensures ∙ c.in_ok-start.ensures in
    let rows = c.keep_between.ensures
    ∙ ap (passed p) (c.in_ok-rows.ensures.gives m s.all seen s.are_of.can
    (of_key c.args.origin c.args.first c.as_slice.result.now c.as_slice-2.result.now prefix key s.are_of)) in
    subst (ArePassed p c.args.origin items) (sym rows) s.are_passed
