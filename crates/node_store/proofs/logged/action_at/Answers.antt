use Rattle.node_state.specs.Held.{action_as}
use Rattle.node_store.proofs.Sifting.{is_log_of, stop_outside}
use Rattle.node_store.proofs.logged.action_at.Goals as goal

pub returns-in-Ok-clause-says : goal.returns-in-Ok-clause-says
returns-in-Ok-clause-says c l written is = c.in-Ok.ensures.again (action_as l.action) (is_log_of l written is)

pub returns-in-Err-clause-says : goal.returns-in-Err-clause-says
returns-in-Err-clause-says c l written is =
    stop_outside c.row_stop.result
    (c.row_stop.ensures.memory (c.in-Err.ensures.again (action_as l.action) (is_log_of l written is)))
