use Rattle.stream_laws.proofs.Laws.{confirmations_are_behind}
use Rattle.stream_laws.proofs.confirmations_are_behind.Goals as goal

pub returns : goal.returns
returns c = confirmations_are_behind
