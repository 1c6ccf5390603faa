use Rattle.slonik_expand.proofs.Uses.{none_comes_out}
use Rattle.slonik_expand.proofs.laws.no_use_comes_out.Goals as goal

pub returns : goal.returns
returns c = none_comes_out
