use Rattle.event_store.proofs.Backward.{after_is_all}
use Rattle.event_store.proofs.reading.after_is_all.Goals as goal

pub returns : goal.returns
returns c = after_is_all
