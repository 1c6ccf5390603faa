use Rattle.std.proofs.Common.{◌≡◌, ◌∙◌, Some, ap, arith, refl, rules, subst, sym}
use Rattle.std.specs.List.{AllByRecursion}
use Rattle.std.specs.Vec.Iter.{into_iter_items}
use Rattle.std.proofs.lemmas.List.{nil_from_length}
use Rattle.std.proofs.lemmas.Result.{err_from_is_err_and}
use Rattle.slon_base.specs.Keeper.{Store}
use Rattle.store_rows.specs.Space.{IsPending}
use Rattle.store_rows.proofs.Putting.{puts_within, room_end, room_first}
use Rattle.store_rows.proofs.Spaces.{hands_stop}
use Rattle.slon_model.specs.Deeds.{Brought, Node}
use Rattle.slon_model.specs.Place.{Place}
use Rattle.event_store.specs.Seen.{seen_event}
use Rattle.node_store.specs.Bringing.{CanSync, CanTake, HasAll, puts_taken}
use Rattle.node_store.proofs.Allowing.{one_taken, puts_left}
use Rattle.node_store.proofs.Following.{IsTaking, all_taking, first_taking, none_taking, one_taking}
use Rattle.node_store.proofs.bringing.take_syncs.Goals as goal

pub loop-sync-init : goal.loop-sync-init
loop-sync-init g c =
    let old = g.K.Keeper.kept c.args.keeper.now in
    let now = g.K.Keeper.kept c.apply.new.keeper in
    let e = seen_event c.args.event.now in
    let items = c.into_iter-sync-iterator.ensures.into_iter_gives.0 ∙ c.into_vec-sync-items.ensures in
    let can = subst (AllByRecursion CanSync) (sym items) c.requires.can in
    let takes : (n : Node) (m : Store) (p : Place) (b : Brought) → n.id ≡ c.args.own → old.pending ≡ Some (Some m) →
    CanTake n e p m → HasAll e.origin p b c.args.syncs →
    IsPending (IsTaking n e p m b (into_iter_items c.into_iter-sync-iterator.result)) now =
    λ n m p b own is can all. all_taking (into_iter_items c.into_iter-sync-iterator.result)
    (subst (HasAll e.origin p b) (sym items) all) can
    (c.in_ok-apply.ensures.turns n m own is can.held can.takes can.home) in
    let left = puts_left (into_iter_items c.into_iter-sync-iterator.result) in
    let total = puts_taken c.args.syncs in
    let safe = c.in_ok-apply.ensures.safe in
    record {
      still = λ n most. safe.still n most;
      puts = λ sync. room_first 3 left total (c.in_ok-apply.ensures.puts sync) (omega (arith, ap puts_left items));
      rests = λ n up. safe.quiet refl n up;
      told = λ told from. safe.told told from;
      later = safe.later;
      held = safe.held;
      doubts = safe.doubts;
      opened = safe.opened ∙ c.requires.opened;
      counted = search (rules);
      can = can;
      takes = takes;
    }

pub take_sync-requires-clause-can : goal.take_sync-requires-clause-can
take_sync-requires-clause-can g c =
    (subst (AllByRecursion CanSync) c.in-Some.ensures.steps.0 c.loop-sync.invariant.can).0

pub returns-in_err-take_sync-clause-takes : goal.returns-in_err-take_sync-clause-takes
returns-in_err-take_sync-clause-takes g c n m p b own is can all =
    let e = seen_event c.args.event.now in
    let result = c.from_residual-in_err-take_sync.result in
    let left = subst (λ rs. IsPending (IsTaking n e p m b rs) (g.K.Keeper.kept c.loop-sync.keeper))
    c.in-Some.ensures.steps.0 (c.loop-sync.invariant.takes n m p b own is can all) in
    let first = first_taking left.has in
    hands_stop _ _ result (err_from_is_err_and result c.from_residual-in_err-take_sync.ensures.1)
    (c.in_err-take_sync.ensures.takes n e p m left.has.now first.t
    (record { store = left.store; is = left.is; has = left.has.synced }) first.sync)

pub loop-sync-preserved : goal.loop-sync-preserved
loop-sync-preserved g c =
    let old = g.K.Keeper.kept c.args.keeper.now in
    let mid = g.K.Keeper.kept c.loop-sync.keeper in
    let new = g.K.Keeper.kept c.take_sync.new.keeper in
    let e = seen_event c.args.event.now in
    let before = c.loop-sync.invariant in
    let step = c.in-Some.ensures.steps.0 in
    let can = (subst (AllByRecursion CanSync) step before.can).1 in
    let takes : (n : Node) (m : Store) (p : Place) (b : Brought) → n.id ≡ c.args.own → old.pending ≡ Some (Some m) →
    CanTake n e p m → HasAll e.origin p b c.args.syncs →
    IsPending (IsTaking n e p m b (into_iter_items c.next.new.self)) new =
    λ n m p b own is can all. one_taking
    (subst (λ rs. IsPending (IsTaking n e p m b rs) mid) step (before.takes n m p b own is can all))
    (λ now t q sync. c.in_ok-take_sync.ensures.takes n e p m now t q sync) in
    let safe = c.in_ok-take_sync.ensures.safe in
    record {
      still = λ n most. safe.still n (before.still n most);
      puts = λ sync. one_taken (puts_taken c.args.syncs) step (before.puts sync) c.in_ok-take_sync.ensures.puts;
      rests = λ n up. safe.quiet refl n (before.rests n up);
      told = λ told from. safe.told told (before.told told from);
      later = omega (arith, before.later, safe.later);
      held = safe.held ∙ before.held;
      doubts = safe.doubts ∙ before.doubts;
      opened = safe.opened ∙ before.opened;
      counted = search (rules);
      can = can;
      takes = takes;
    }

pub returns-in_err-apply-clause-puts : goal.returns-in_err-apply-clause-puts
returns-in_err-apply-clause-puts g c sync =
    puts_within 3 (puts_taken c.args.syncs) (c.in_err-apply.ensures.puts sync) (omega arith)

pub returns-in_err-take_sync-clause-puts : goal.returns-in_err-take_sync-clause-puts
returns-in_err-take_sync-clause-puts g c sync =
    let more = puts_left (into_iter_items c.next.new.self) in
    let total = puts_taken c.args.syncs in
    room_end more total (one_taken total c.in-Some.ensures.steps.0 (c.loop-sync.invariant.puts sync)
    c.in_err-take_sync.ensures.puts)

pub returns-clause-puts : goal.returns-clause-puts
returns-clause-puts g c sync =
    room_end (puts_left (into_iter_items c.loop-sync.sync-iterator)) (puts_taken c.args.syncs)
    (c.loop-sync.invariant.puts sync)

pub returns-clause-takes : goal.returns-clause-takes
returns-clause-takes g c n m p b own is can all =
    let e = seen_event c.args.event.now in
    let end = nil_from_length (into_iter_items c.loop-sync.sync-iterator)
    (sym c.loop-sync.invariant.counted ∙ c.in-None.ensures.steps.0) in
    none_taking (subst (λ rs. IsPending (IsTaking n e p m b rs) (g.K.Keeper.kept c.loop-sync.keeper)) end
    (c.loop-sync.invariant.takes n m p b own is can all))
