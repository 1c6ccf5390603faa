use Rattle.std.proofs.Common.{◌≡◌, ◌-◌, false, length, drop, rules, sym, subst, arith}
use Rattle.std.proofs.Math.Seq.{drop-length}
use Rattle.std.proofs.lemmas.Result.{err_from_is_err_and}
use Rattle.slon_base.specs.Keeper.{Store}
use Rattle.store_rows.specs.Space.{IsPending}
use Rattle.store_rows.proofs.Spaces.{hands_stop}
use Rattle.node_rows.specs.Spellings.{CanFeed}
use Rattle.slon_model.specs.Config.{Config}
use Rattle.set_config.specs.Holds.{Shows}
use Rattle.set_config.specs.Rows.{with_feeds}
use Rattle.set_config.proofs.Backward.{one_back, at_index}
use Rattle.set_config.proofs.subscriptions.feed_receivers.Goals as goal

pub loop-index-init : goal.loop-index-init
loop-index-init g c =
    let feeds = c.args.feeds.now in
    let old = g.K.Keeper.kept c.args.keeper.now in
    let turns : (base : Store) (config : Config) → IsPending (Shows base config) old → IsPending (Shows base
    (record config { subscriptions = with_feeds c.args.set (drop (length feeds) feeds) config.subscriptions })) old =
    λ base config p. subst (λ fs. IsPending (Shows base
    (record config { subscriptions = with_feeds c.args.set fs config.subscriptions })) old) (sym (drop-length feeds)) p
    in
    search (rules, turns)

pub put_subscription-requires-clause-can : goal.put_subscription-requires-clause-can
put_subscription-requires-clause-can g c =
    let f = at_index CanFeed c.args.feeds.now (c.loop-index.index - 1) (0, (0, false)) c.requires.can.1 (omega arith) in
    (c.requires.can.0, f.0, (f.1.0, omega arith))

pub loop-index-preserved : goal.loop-index-preserved
loop-index-preserved g c =
    let feeds = c.args.feeds.now in
    let index = c.loop-index.index in
    let old = g.K.Keeper.kept c.args.keeper.now in
    let now = g.K.Keeper.kept c.put_subscription.new.keeper in
    let turns : (base : Store) (config : Config) → IsPending (Shows base config) old → IsPending (Shows base
    (record config { subscriptions = with_feeds c.args.set (drop (index - 1) feeds) config.subscriptions })) now =
    λ base config p. subst (λ fs. IsPending (Shows base
    (record config { subscriptions = with_feeds c.args.set fs config.subscriptions })) now)
    (sym (one_back feeds index (0, (0, false)) (omega arith) (omega arith)))
    (c.in_ok-put_subscription.ensures.turns base _ (c.loop-index.invariant.turns base config p)) in
    search (rules, turns)

pub returns-in_err-put_subscription-clause-turns : goal.returns-in_err-put_subscription-clause-turns
returns-in_err-put_subscription-clause-turns g c base config p =
    hands_stop _ _ c.from_residual.result (err_from_is_err_and c.from_residual.result c.from_residual.ensures.1)
    (c.in_err-put_subscription.ensures.turns base _ (c.loop-index.invariant.turns base config p))

pub returns-clause-turns : goal.returns-clause-turns
returns-clause-turns g c base config p =
    let none : c.loop-index.index ≡ 0 = omega arith in
    subst (λ i. IsPending (Shows base
    (record config { subscriptions = with_feeds c.args.set (drop i c.args.feeds.now) config.subscriptions }))
    (g.K.Keeper.kept c.loop-index.keeper)) none (c.loop-index.invariant.turns base config p)
