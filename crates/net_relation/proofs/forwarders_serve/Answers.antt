use Rattle.net_relation.proofs.Consequences.{forwarders_serve}
use Rattle.net_relation.proofs.Serving.{forwarders_give_the_same}
use Rattle.net_relation.proofs.forwarders_serve.Goals as goal

pub returns-clause-entries : goal.returns-clause-entries
returns-clause-entries c = forwarders_serve

pub returns-clause-same : goal.returns-clause-same
returns-clause-same c = forwarders_give_the_same
