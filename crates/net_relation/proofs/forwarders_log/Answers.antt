use Rattle.net_relation.proofs.Actions.{forwarders_have_the_actions}
use Rattle.net_relation.proofs.Consequences.{forwarders_log}
use Rattle.net_relation.proofs.Origins.{logs_have_origins}
use Rattle.net_relation.proofs.forwarders_log.Goals as goal

pub returns-clause-entries : goal.returns-clause-entries
returns-clause-entries c = forwarders_log

pub returns-clause-actions : goal.returns-clause-actions
returns-clause-actions c = forwarders_have_the_actions

pub returns-clause-only : goal.returns-clause-only
returns-clause-only c = logs_have_origins
