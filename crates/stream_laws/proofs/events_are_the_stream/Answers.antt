use Rattle.stream_laws.proofs.Laws.{events_are_the_stream}
use Rattle.stream_laws.proofs.events_are_the_stream.Goals as goal

pub returns : goal.returns
returns c = events_are_the_stream
