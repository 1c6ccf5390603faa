use Rattle.std.proofs.Common.{ap, is_some}
use Rattle.store_rows.proofs.Causes.{stays}
use Rattle.node_store.proofs.finishing.give_up.Goals as goal

pub returns : goal.returns
returns g c =
    let rolls = c.rollback.ensures.rolls_back in record {
      later = rolls.cause.later;
      still = stays rolls.cause;
      told = rolls.cause.told;
      closed = ap is_some rolls.closed;
      held = rolls.held;
      doubts = rolls.doubts;
    }
