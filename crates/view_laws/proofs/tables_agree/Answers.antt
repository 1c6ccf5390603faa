use Rattle.view_laws.proofs.Agreeing.{tables_agree}
use Rattle.view_laws.proofs.tables_agree.Goals as goal

pub returns : goal.returns
returns c = tables_agree
