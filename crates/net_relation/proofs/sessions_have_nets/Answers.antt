use Rattle.net_relation.proofs.Consequences.{laws_apply}
use Rattle.net_relation.proofs.Sessions.{sessions_have_nets}
use Rattle.net_relation.proofs.sessions_have_nets.Goals as goal

pub returns-clause-nets : goal.returns-clause-nets
returns-clause-nets c = sessions_have_nets

pub returns-clause-laws : goal.returns-clause-laws
returns-clause-laws c = laws_apply
