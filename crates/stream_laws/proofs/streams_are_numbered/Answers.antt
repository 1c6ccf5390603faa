use Rattle.stream_laws.proofs.Laws.{streams_are_numbered}
use Rattle.stream_laws.proofs.streams_are_numbered.Goals as goal

pub returns : goal.returns
returns c = streams_are_numbered
