use Rattle.follow_laws.proofs.Resting.{tables_stay}
use Rattle.follow_laws.proofs.tables_stay.Goals as goal

pub returns : goal.returns
returns c = tables_stay
