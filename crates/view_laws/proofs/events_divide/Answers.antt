use Rattle.view_laws.proofs.Divided.{events_divide}
use Rattle.view_laws.proofs.events_divide.Goals as goal

pub returns : goal.returns
returns c = events_divide
