use Rattle.app_store.proofs.Written.{nobody_written}
use Rattle.app_store.proofs.state.State.fresh.Goals as goal

pub invariant_of-result-clause-written : goal.invariant_of-result-clause-written
invariant_of-result-clause-written c = nobody_written _ c.new.ensures
