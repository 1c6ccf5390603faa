use Rattle.app_store.proofs.Written.{nobody_written}
use Rattle.app_store.proofs.state.State.take_down.Goals as goal

pub invariant_of-self-clause-written : goal.invariant_of-self-clause-written
invariant_of-self-clause-written c = nobody_written _ c.new.ensures
