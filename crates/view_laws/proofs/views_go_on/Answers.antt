use Rattle.view_laws.proofs.Going.{views_go_on}
use Rattle.view_laws.proofs.views_go_on.Goals as goal

pub returns : goal.returns
returns c = views_go_on
