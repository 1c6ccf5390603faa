use Rattle.follow_laws.proofs.Earlier.{sets_were_so}
use Rattle.follow_laws.proofs.sets_were_so.Goals as goal

pub returns : goal.returns
returns c = sets_were_so
