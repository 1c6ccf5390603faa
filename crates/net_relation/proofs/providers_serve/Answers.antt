use Rattle.net_relation.proofs.Serving.{providers_give_the_same, providers_serve}
use Rattle.net_relation.proofs.providers_serve.Goals as goal

pub returns-clause-entries : goal.returns-clause-entries
returns-clause-entries c = providers_serve

pub returns-clause-same : goal.returns-clause-same
returns-clause-same c = providers_give_the_same
