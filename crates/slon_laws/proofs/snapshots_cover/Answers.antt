use Rattle.slon_laws.proofs.Covering.{snapshots_cover}
use Rattle.slon_laws.proofs.snapshots_cover.Goals as goal

pub returns : goal.returns
returns c = snapshots_cover
