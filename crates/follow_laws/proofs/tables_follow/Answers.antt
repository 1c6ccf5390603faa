use Rattle.follow_laws.proofs.Holding.{tables_follow}
use Rattle.follow_laws.proofs.tables_follow.Goals as goal

pub returns : goal.returns
returns c = tables_follow
