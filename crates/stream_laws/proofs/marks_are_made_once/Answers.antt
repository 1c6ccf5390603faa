use Rattle.stream_laws.proofs.Laws.{marks_are_made_once}
use Rattle.stream_laws.proofs.marks_are_made_once.Goals as goal

pub returns : goal.returns
returns c = marks_are_made_once
