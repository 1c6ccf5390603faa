use Rattle.view_laws.proofs.Reaching.{views_reach}
use Rattle.view_laws.proofs.views_reach.Goals as goal

pub returns : goal.returns
returns c = views_reach
