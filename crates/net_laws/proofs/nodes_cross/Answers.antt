use Rattle.net_laws.specs.Crossing.{CrossesByFailover}
use Rattle.net_laws.proofs.Laws.{always}
use Rattle.net_laws.proofs.Crossing.{crosses_by_move, crosses_by_failover}
use Rattle.net_laws.proofs.nodes_cross.Goals as goal

pub returns : goal.returns
returns c = record { moved = crosses_by_move; failed = always CrossesByFailover crosses_by_failover }
