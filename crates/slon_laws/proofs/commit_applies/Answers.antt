use Rattle.slon_laws.proofs.Laws.{numbers_rise, commit_applies}
use Rattle.slon_laws.proofs.commit_applies.Goals as goal

pub returns : goal.returns
returns c = record { in_order = numbers_rise; applies = commit_applies }
