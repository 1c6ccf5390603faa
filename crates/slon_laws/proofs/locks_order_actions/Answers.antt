use Rattle.slon_laws.proofs.Laws.{locks_order_actions}
use Rattle.slon_laws.proofs.locks_order_actions.Goals as goal

pub returns : goal.returns
returns c = locks_order_actions
