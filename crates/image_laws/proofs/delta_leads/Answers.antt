use Rattle.image_laws.proofs.Deltas.{delta_leads}
use Rattle.image_laws.proofs.delta_leads.Goals as goal

pub returns : goal.returns
returns c = delta_leads
