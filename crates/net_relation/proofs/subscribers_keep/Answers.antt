use Rattle.net_relation.proofs.Consequences.{keepers_see, keepers_subscribe}
use Rattle.net_relation.proofs.Enabled.{subscribers_keep}
use Rattle.net_relation.proofs.subscribers_keep.Goals as goal

pub returns-clause-rows : goal.returns-clause-rows
returns-clause-rows c = keepers_subscribe

pub returns-clause-keep : goal.returns-clause-keep
returns-clause-keep c = subscribers_keep

pub returns-clause-see : goal.returns-clause-see
returns-clause-see c = keepers_see
