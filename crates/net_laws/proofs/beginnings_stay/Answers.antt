use Rattle.net_laws.proofs.Beginnings.{beginning_stays}
use Rattle.net_laws.proofs.beginnings_stay.Goals as goal

pub returns : goal.returns
returns c = beginning_stays
