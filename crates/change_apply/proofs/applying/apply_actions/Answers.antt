use Rattle.std.proofs.Common.{◌≡◌, Some, List, ℕ, ap, arith, length, refl, rules, subst, sym, ◌∙◌}
use Rattle.std.specs.Vec.Iter.{into_iter_items}
use Rattle.std.proofs.lemmas.List.{nil_from_length}
use Rattle.std.proofs.lemmas.Result.{err_from_is_err_and}
use Rattle.slon_base.specs.Keeper.{Store}
use Rattle.store_rows.specs.Space.{IsPending}
use Rattle.store_rows.proofs.Putting.{LeavesRoom, none_more, room_end, room_first, room_on}
use Rattle.store_rows.proofs.Spaces.{hands_stop}
use Rattle.slon_model.specs.Rows.{Rows}
use Rattle.change_apply.specs.Applied.{CanApplyAll, HoldsRows, OthersStay}
use Rattle.change_apply.proofs.Logged.{IsToDo, all_to_do, one_done, none_to_do}
use Rattle.change_apply.proofs.Replacing.{others_on}
use Rattle.change_apply.proofs.applying.apply_actions.Goals as goal

pub loop-action-init : goal.loop-action-init
loop-action-init g c =
    let old = g.K.Keeper.kept c.args.keeper.now in
    let all = c.args.actions in
    let items = c.into_iter-action-iterator.ensures.into_iter_gives.0 ∙ c.into_vec-action-items.ensures in
    let can = subst CanApplyAll (sym items) c.requires.can in
    let plays : (tables : List ℕ → Rows) → IsPending (HoldsRows tables) old →
    IsPending (IsToDo (into_iter_items c.into_iter-action-iterator.result) all tables) old =
    λ tables p. subst (λ rs. IsPending (IsToDo rs all tables) old) (sym items) (all_to_do p) in
    let on : (m : Store) → old.pending ≡ Some (Some m) → IsPending (OthersStay m) old =
    λ m is. record { store = m; is = is; has = λ space other. refl } in
    let left = length (into_iter_items c.into_iter-action-iterator.result) in
    let puts : LeavesRoom left (length all) old.puts old.puts =
    room_first 0 left (length all) (none_more refl) (omega (arith, ap (λ xs. length xs) items)) in
    search (rules, can, plays, on, puts)

pub returns-in_err-apply_in-clause-applies : goal.returns-in_err-apply_in-clause-applies
returns-in_err-apply_in-clause-applies g c tables p =
    let rest = c.loop-action.invariant.plays tables p in
    let result = c.from_residual-in_err-apply_in.result in
    hands_stop _ _ result (err_from_is_err_and result c.from_residual-in_err-apply_in.ensures.1)
    (c.in_err-apply_in.ensures.applies rest.has.now
    (record { store = rest.store; is = rest.is; has = rest.has.held }))

pub apply_in-requires-clause-table : goal.apply_in-requires-clause-table
apply_in-requires-clause-table g c =
    (subst CanApplyAll c.in-Some.ensures.steps.0 c.loop-action.invariant.can).0.0

pub apply_in-requires-clause-words : goal.apply_in-requires-clause-words
apply_in-requires-clause-words g c =
    (subst CanApplyAll c.in-Some.ensures.steps.0 c.loop-action.invariant.can).0.1

pub loop-action-preserved : goal.loop-action-preserved
loop-action-preserved g c =
    let old = g.K.Keeper.kept c.args.keeper.now in
    let mid = g.K.Keeper.kept c.loop-action.keeper in
    let new = g.K.Keeper.kept c.apply_in.new.keeper in
    let all = c.args.actions in
    let before = c.loop-action.invariant in
    let step = c.in-Some.ensures.steps.0 in
    let can = (subst CanApplyAll step before.can).1 in
    let plays : (tables : List ℕ → Rows) → IsPending (HoldsRows tables) old →
    IsPending (IsToDo (into_iter_items c.next.new.self) all tables) new =
    λ tables p. one_done
    (subst (λ rs. IsPending (IsToDo rs all tables) mid) step (before.plays tables p))
    c.in_ok-apply_in.ensures.applies in
    let on : (m : Store) → old.pending ≡ Some (Some m) → IsPending (OthersStay m) new =
    λ m is. others_on (before.on m is) c.in_ok-apply_in.ensures.changed in
    let left = length (into_iter_items c.loop-action.action-iterator) in
    let more = length (into_iter_items c.next.new.self) in
    let puts : LeavesRoom more (length all) old.puts new.puts =
    room_on 1 left more (length all) before.puts c.in_ok-apply_in.ensures.puts
    (omega (arith, ap (λ xs. length xs) step)) in
    search (rules, can, plays, on, puts)

pub returns-in_err-apply_in-clause-puts : goal.returns-in_err-apply_in-clause-puts
returns-in_err-apply_in-clause-puts g c =
    let all = length c.args.actions in
    let left = length (into_iter_items c.loop-action.action-iterator) in
    let more = length (into_iter_items c.next.new.self) in
    room_end more all (room_on 1 left more all c.loop-action.invariant.puts c.in_err-apply_in.ensures.puts
    (omega (arith, ap (λ xs. length xs) c.in-Some.ensures.steps.0)))

pub returns-clause-puts : goal.returns-clause-puts
returns-clause-puts g c =
    room_end (length (into_iter_items c.loop-action.action-iterator)) (length c.args.actions)
    c.loop-action.invariant.puts

pub returns-clause-applies : goal.returns-clause-applies
returns-clause-applies g c tables p =
    let end = nil_from_length (into_iter_items c.loop-action.action-iterator)
    (sym c.loop-action.invariant.counted ∙ c.in-None.ensures.steps.0) in
    none_to_do (subst (λ rs. IsPending (IsToDo rs c.args.actions tables) (g.K.Keeper.kept c.loop-action.keeper)) end
    (c.loop-action.invariant.plays tables p))
