use Rattle.net_laws.proofs.Fences.{fences_hold}
use Rattle.net_laws.proofs.fences_hold.Goals as goal

pub returns : goal.returns
returns c = fences_hold
