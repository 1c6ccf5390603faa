use Rattle.stream_laws.proofs.Laws.{events_are_applied_once}
use Rattle.stream_laws.proofs.events_are_applied_once.Goals as goal

pub returns : goal.returns
returns c = events_are_applied_once
