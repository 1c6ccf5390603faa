use Rattle.std.proofs.Common.{ℕ}
use Rattle.slon_base.specs.Keeper.{put_at}
use Rattle.node_rows.specs.Spellings.{subscription_bytes}
use Rattle.store_rows.proofs.Spaces.{becomes}
use Rattle.set_config.specs.Holds.{pair_key}
use Rattle.set_config.proofs.Holding.{puts_pair, with_subscriptions}
use Rattle.set_config.proofs.subscriptions.put_subscription.Goals as goal

pub returns-clause-turns : goal.returns-clause-turns
returns-clause-turns g c base config p =
    let i : ℕ × ℕ = (c.args.set, c.args.receiver) in
    let can = c.requires.can in
    becomes _ (put_at 8 (pair_key i) (subscription_bytes c.args.row.now)) _ c.put_row.result c.put_row.ensures.put
    c.put_row.ensures.only p
    (λ m. with_subscriptions m (puts_pair i c.args.row.now config.subscriptions (can.0, can.1) can.2))
