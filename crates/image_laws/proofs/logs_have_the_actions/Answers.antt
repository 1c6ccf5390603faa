use Rattle.image_laws.proofs.Images.{logs_had_the_actions, logs_have_the_actions}
use Rattle.image_laws.proofs.logs_have_the_actions.Goals as goal

pub returns-clause-had : goal.returns-clause-had
returns-clause-had c = logs_had_the_actions

pub returns-clause-have : goal.returns-clause-have
returns-clause-have c = logs_have_the_actions
