use Rattle.net_laws.proofs.Confirmations.{told_is_behind}
use Rattle.net_laws.proofs.told_is_behind.Goals as goal

pub returns : goal.returns
returns c = told_is_behind
