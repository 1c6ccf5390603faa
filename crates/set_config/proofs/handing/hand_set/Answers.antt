use Rattle.std.proofs.lemmas.Result.{err_from_is_err_and}
use Rattle.store_rows.proofs.Spaces.{hands_stop}
use Rattle.slon_model.specs.Config.{changed_set, handed}
use Rattle.slon_model.specs.Maps.{without_entry}
use Rattle.set_config.specs.Holds.{Shows}
use Rattle.set_config.specs.Rows.{with_feeds}
use Rattle.set_config.proofs.Holding.{becomes_as}
use Rattle.set_config.proofs.Receiving.{shows_fed}
use Rattle.set_config.proofs.handing.hand_set.Goals as goal

pub returns-in_err-give_origin-clause-turns : goal.returns-in_err-give_origin-clause-turns
returns-in_err-give_origin-clause-turns g c base config p =
    hands_stop _ _ c.from_residual.result
    (err_from_is_err_and c.from_residual.result c.from_residual.ensures.1)
    (c.in_err-give_origin.ensures.turns base config p)

pub returns-in_err-clear_receivers-clause-turns : goal.returns-in_err-clear_receivers-clause-turns
returns-in_err-clear_receivers-clause-turns g c base config p =
    hands_stop _ _ c.from_residual-in_err-clear_receivers.result
    (err_from_is_err_and c.from_residual-in_err-clear_receivers.result c.from_residual-in_err-clear_receivers.ensures.1)
    (c.in_err-clear_receivers.ensures.turns base _ (c.in_ok-give_origin.ensures.turns base config p))

pub returns-clause-turns : goal.returns-clause-turns
returns-clause-turns g c base config p =
    let set = c.args.set in
    let feeds = c.args.feeds.now in
    let given = changed_set set (λ row. record row { origin = c.args.origin; era = c.args.era }) config in
    becomes_as
    (Shows base (record given { subscriptions = with_feeds set feeds (without_entry set config.subscriptions) }))
    (Shows base (handed set c.args.origin c.args.era feeds config)) _ c.feed_receivers.result
    (λ m s. shows_fed given set feeds s)
    (c.feed_receivers.ensures.turns base _ (c.in_ok-clear_receivers.ensures.turns base _
    (c.in_ok-give_origin.ensures.turns base config p)))
