use Rattle.std.proofs.Common.{◌≡◌, ◌∙◌, List, ℕ, Some, arith, refl, rules, subst, sym}
use Rattle.std.proofs.lemmas.Result.{err_from_is_err_and}
use Rattle.std.proofs.lemmas.List.{nil_from_length}
use Rattle.slon_base.specs.Codec.{IsText}
use Rattle.slon_base.specs.Keeper.{Store}
use Rattle.store_rows.specs.Space.{IsPending}
use Rattle.store_rows.proofs.Spaces.{hands_stop, pending_as}
use Rattle.slon_model.specs.Names.{Named}
use Rattle.slon_model.specs.Rows.{Rows}
use Rattle.change_apply.specs.Applied.{HoldsRows, OthersStay}
use Rattle.change_apply.specs.Copied.{AreListed, CanCopy, CanCopyAll}
use Rattle.change_apply.proofs.Filling.{IsFilled, all_filled, all_last, none_filled, one_filled, stops_filling}
use Rattle.change_apply.proofs.several.replace_tables.Goals as goal

pub loop-table-init : goal.loop-table-init
loop-table-init g c =
    let old = g.K.Keeper.kept c.args.keeper.now in
    let items = c.into_vec-left.ensures in
    let can = subst CanCopyAll (sym items) c.requires.can in
    let plays : (tables : List ℕ → Rows) (given : Named Rows) → AreListed given c.args.tables →
    IsPending (HoldsRows tables) old → IsPending (IsFilled given c.into_vec-left.result.items tables) old =
    λ tables given are p. none_filled (subst (AreListed given) (sym items) are) p in
    let on : (m : Store) → old.pending ≡ Some (Some m) → IsPending (OthersStay m) old =
    λ m is. record { store = m; is = is; has = λ space other. refl } in
    search (rules, can, plays, on)

pub replace_table-requires-clause-table : goal.replace_table-requires-clause-table
replace_table-requires-clause-table g c =
    (all_last (λ t. IsText t.0 × CanCopy t.1) c.pop.new.self.items (c.in-Some.table, c.in-Some.rows)
    (subst CanCopyAll c.in-Some.ensures.items c.loop-table.invariant.can)).1.0

pub replace_table-requires-clause-can : goal.replace_table-requires-clause-can
replace_table-requires-clause-can g c =
    (all_last (λ t. IsText t.0 × CanCopy t.1) c.pop.new.self.items (c.in-Some.table, c.in-Some.rows)
    (subst CanCopyAll c.in-Some.ensures.items c.loop-table.invariant.can)).1.1

pub returns-in_err-replace_table-clause-replaces : goal.returns-in_err-replace_table-clause-replaces
returns-in_err-replace_table-clause-replaces g c tables given are p =
    let mid = g.K.Keeper.kept c.loop-table.keeper in
    let result = c.from_residual.result in
    hands_stop _ _ result (err_from_is_err_and result c.from_residual.ensures.1)
    (stops_filling c.pop.new.self.items _ (c.in-Some.table, c.in-Some.rows)
    (subst (λ left. IsPending (IsFilled given left tables) mid) c.in-Some.ensures.items
    (c.loop-table.invariant.plays tables given are p)) c.in_err-replace_table.ensures.replaces)

pub loop-table-preserved : goal.loop-table-preserved
loop-table-preserved g c =
    let old = g.K.Keeper.kept c.args.keeper.now in
    let mid = g.K.Keeper.kept c.loop-table.keeper in
    let new = g.K.Keeper.kept c.replace_table.new.keeper in
    let left = c.pop.new.self.items in
    let before = c.loop-table.invariant in
    let items = c.in-Some.ensures.items in
    let can = (all_last (λ t. IsText t.0 × CanCopy t.1) left (c.in-Some.table, c.in-Some.rows)
    (subst CanCopyAll items before.can)).0 in
    let plays : (tables : List ℕ → Rows) (given : Named Rows) → AreListed given c.args.tables →
    IsPending (HoldsRows tables) old → IsPending (IsFilled given left tables) new =
    λ tables given are p. one_filled (c.in-Some.table, c.in-Some.rows)
    (subst (λ ts. IsPending (IsFilled given ts tables) mid) items (before.plays tables given are p))
    c.in_ok-replace_table.ensures.replaces in
    let on : (m : Store) → old.pending ≡ Some (Some m) → IsPending (OthersStay m) new =
    λ m is. let was = before.on m is in
    pending_as (λ n stays space other. stays space other ∙ was.has space other)
    (c.in_ok-replace_table.ensures.others was.store was.is) in
    search (rules, can, plays, on)

pub returns-clause-replaces : goal.returns-clause-replaces
returns-clause-replaces g c tables given are p =
    let mid = g.K.Keeper.kept c.loop-table.keeper in
    let none = nil_from_length c.loop-table.left.items
    (omega (arith, c.loop-table.left.ok.0, c.in_default.ensures.cases.0)) in
    all_filled (subst (λ left. IsPending (IsFilled given left tables) mid) none
    (c.loop-table.invariant.plays tables given are p))
