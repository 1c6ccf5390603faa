use Rattle.std.proofs.Common.{◌≡◌, Some, List, ℕ, refl, rules, subst, sym, ◌∙◌}
use Rattle.std.specs.Vec.Iter.{into_iter_items}
use Rattle.std.proofs.lemmas.List.{nil_from_length}
use Rattle.std.proofs.lemmas.Result.{err_from_is_err_and}
use Rattle.slon_base.specs.Keeper.{Store}
use Rattle.store_rows.specs.Space.{IsPending}
use Rattle.store_rows.proofs.Spaces.{hands_stop}
use Rattle.slon_model.specs.Rows.{Rows}
use Rattle.change_apply.specs.Applied.{HoldsRows, OthersStay, CanApply, changed_in}
use Rattle.change_apply.specs.Copied.{CanCopy, turned, turns}
use Rattle.change_apply.proofs.Replacing.{IsRest, all_rest, one_rest, none_rest, others_on, turned_can}
use Rattle.change_apply.proofs.copying.turn_rows.Goals as goal

pub loop-key-init : goal.loop-key-init
loop-key-init g c =
    let old = g.K.Keeper.kept c.args.keeper.now in
    let table = c.args.table.now in
    let all = turns c.args.turn c.args.rows in
    let items = c.into_iter-key-iterator.ensures.into_iter_gives.0 ∙ c.into_vec-key-items.ensures in
    let can = subst CanCopy (sym items) c.requires.can in
    let plays : (tables : List ℕ → Rows) → IsPending (HoldsRows tables) old →
    IsPending (IsRest table (turns c.args.turn (into_iter_items c.into_iter-key-iterator.result)) all tables) old =
    λ tables p. subst (λ rs. IsPending (IsRest table (turns c.args.turn rs) all tables) old) (sym items) (all_rest p) in
    let on : (m : Store) → old.pending ≡ Some (Some m) → IsPending (OthersStay m) old =
    λ m is. record { store = m; is = is; has = λ space other. refl } in
    search (rules, can, plays, on)

pub returns-in_err-apply_change-clause-turns : goal.returns-in_err-apply_change-clause-turns
returns-in_err-apply_change-clause-turns g c tables p =
    let rest = c.loop-key.invariant.plays tables p in
    let result = c.from_residual-in_err-apply_change.result in
    hands_stop _ _ result (err_from_is_err_and result c.from_residual-in_err-apply_change.ensures.1)
    (c.in_err-apply_change.ensures.applies rest.has.now
    (record { store = rest.store; is = rest.is; has = rest.has.held }))

pub apply_change-requires-clause-words : goal.apply_change-requires-clause-words
apply_change-requires-clause-words g c =
    let can = (subst CanCopy c.in-Some.ensures.steps.0 c.loop-key.invariant.can).0 in
    subst CanApply (sym c.change_of_row-change.ensures) (turned_can c.args.turn (c.in-Some.key, c.in-Some.values) can)

pub loop-key-preserved : goal.loop-key-preserved
loop-key-preserved g c =
    let old = g.K.Keeper.kept c.args.keeper.now in
    let mid = g.K.Keeper.kept c.loop-key.keeper in
    let new = g.K.Keeper.kept c.apply_change.new.keeper in
    let table = c.args.table.now in
    let all = turns c.args.turn c.args.rows in
    let before = c.loop-key.invariant in
    let step = c.in-Some.ensures.steps.0 in
    let can = (subst CanCopy step before.can).1 in
    let applies : (now : List ℕ → Rows) → IsPending (HoldsRows now) mid →
    IsPending (HoldsRows (changed_in table (turned c.args.turn (c.in-Some.key, c.in-Some.values)) now)) new =
    λ now q. subst (λ t. IsPending (HoldsRows (changed_in t (turned c.args.turn (c.in-Some.key, c.in-Some.values)) now))
    new) c.in_ok-copy.ensures
    (subst (λ f. IsPending (HoldsRows (changed_in c.in_ok-copy.field-0 f now)) new) c.change_of_row-change.ensures
    (c.in_ok-apply_change.ensures.applies now q)) in
    let plays : (tables : List ℕ → Rows) → IsPending (HoldsRows tables) old →
    IsPending (IsRest table (turns c.args.turn (into_iter_items c.next.new.self)) all tables) new =
    λ tables p. one_rest
    (subst (λ rs. IsPending (IsRest table (turns c.args.turn rs) all tables) mid) step (before.plays tables p))
    applies in
    let on : (m : Store) → old.pending ≡ Some (Some m) → IsPending (OthersStay m) new =
    λ m is. others_on (before.on m is) c.in_ok-apply_change.ensures.changed in
    search (rules, can, plays, on)

pub returns-clause-turns : goal.returns-clause-turns
returns-clause-turns g c tables p =
    let all = turns c.args.turn c.args.rows in
    let end = nil_from_length (into_iter_items c.loop-key.key-iterator)
    (sym c.loop-key.invariant.counted ∙ c.in-None.ensures.steps.0) in
    none_rest (subst (λ rs. IsPending (IsRest c.args.table.now (turns c.args.turn rs) all tables)
    (g.K.Keeper.kept c.loop-key.keeper)) end (c.loop-key.invariant.plays tables p))
