use Rattle.event_store.proofs.Least.{least_is_least}
use Rattle.event_store.proofs.lagging.least_is_least.Goals as goal

pub returns : goal.returns
returns c = least_is_least
