use Rattle.std.proofs.Common.{arith, length, refl}
use Rattle.store_rows.proofs.Putting.{none_more, puts_within}
use Rattle.node_store.proofs.Following.{forwarded_none, forwarded_some}
use Rattle.node_store.proofs.bringing.log_forwarded.Goals as goal

pub returns-then-forwards-clause-logs : goal.returns-then-forwards-clause-logs
returns-then-forwards-clause-logs g c n e b m logs is holds from are =
    forwarded_some (record { node = n; event = e; store = m; brought = b; logs = logs }) c.args.forwards
    c.log_rows.result (g.K.Keeper.kept c.log_rows.new.keeper) c.if-forwards.true
    (c.log_rows.ensures.turns n e b m logs is holds from are)

pub returns-else-forwards-clause-logs : goal.returns-else-forwards-clause-logs
returns-else-forwards-clause-logs g c n e b m logs is holds from are =
    forwarded_none (record { node = n; event = e; store = m; brought = b; logs = logs }) c.args.forwards
    (g.K.Keeper.kept c.args.keeper.now) c.if-forwards.false is holds

pub returns-else-forwards-clause-puts : goal.returns-else-forwards-clause-puts
returns-else-forwards-clause-puts g c = puts_within 0 (length c.args.rows.now) (none_more refl) (omega arith)
