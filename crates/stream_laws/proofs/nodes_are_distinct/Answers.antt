use Rattle.stream_laws.proofs.Laws.{nodes_are_distinct}
use Rattle.stream_laws.proofs.nodes_are_distinct.Goals as goal

pub returns : goal.returns
returns c = nodes_are_distinct
