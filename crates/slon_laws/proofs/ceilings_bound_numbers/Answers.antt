use Rattle.slon_laws.proofs.Laws.{ceilings_bound}
use Rattle.slon_laws.proofs.Drawing.{replies_stay_below, snapshots_stay_below}
use Rattle.slon_laws.proofs.ceilings_bound_numbers.Goals as goal

pub returns : goal.returns
returns c = record { bound = ceilings_bound; replies = replies_stay_below; snapshots = snapshots_stay_below }
