use Rattle.std.proofs.Common.{◌≡◌, ◌+◌, Some, option_map, arith, rules, sym, ◌∙◌, ap}
use Rattle.std.specs.FinMap.{len}
use Rattle.slon_base.specs.Keeper.{Store, del_at}
use Rattle.event_store.proofs.Clearing.{Clearing, none_cleared, sees_pending, sees_left, one_more, all_gone}
use Rattle.event_store.proofs.Clearing.{all_counted}
use Rattle.event_store.proofs.giving.clear_space.Goals as goal

pub loop-init : goal.loop-init
loop-init g c =
    let old = g.K.Keeper.kept c.args.keeper.now in
    let now = g.K.Keeper.kept c.count_pairs.new.keeper in
    let clearing : (m : Store) → old.pending ≡ Some (Some m) → Clearing c.args.space m now 0 =
    λ m is. none_cleared c.args.space m old now is c.in_ok-limit.ensures.same in
    let limited : (m : Store) → old.pending ≡ Some (Some m) → c.in_ok-limit.limit ≡ len (m c.args.space) =
    λ m is. c.in_ok-limit.ensures.gives m (sees_pending old m is) in
    search (rules, clearing, limited)

pub returns-in-None-clause-clears : goal.returns-in-None-clause-clears
returns-in-None-clause-clears g c m is =
    let left = c.loop.invariant.clearing m is in
    all_gone _ left c.in_ok-next_pair.ensures.same
    (sym c.in-None.is ∙ c.in_ok-next_pair.ensures.gives left.store (sees_left left))

pub loop-preserved : goal.loop-preserved
loop-preserved g c =
    let old = g.K.Keeper.kept c.args.keeper.now in
    let mid = g.K.Keeper.kept c.next_pair.new.keeper in
    let now = g.K.Keeper.kept c.del_pair.new.keeper in
    let clearing : (m : Store) → old.pending ≡ Some (Some m) → Clearing c.args.space m now (c.loop.counter + 1) =
    λ m is.
    let left = c.loop.invariant.clearing m is in
    one_more mid now left (c.in-Some.key, c.in-Some.field-0-1)
    (omega (arith, c.loop-test.true, c.loop.invariant.limited m is)) c.in_ok-next_pair.ensures.same
    (sym c.in-Some.is ∙ c.in_ok-next_pair.ensures.gives left.store (sees_left left))
    (c.in_ok-del_pair-in-Some.ensures.put
    ∙ ap (λ key. option_map (option_map (del_at c.args.space key)) mid.pending) c.as_slice.ensures) in
    search (rules, clearing)

pub returns-clause-clears : goal.returns-clause-clears
returns-clause-clears g c m is =
    all_counted (c.loop.invariant.clearing m is)
    (omega (arith, c.loop-test.false, c.loop.invariant.limited m is))
