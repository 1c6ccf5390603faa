use Rattle.image_laws.proofs.Images.{snapshots_are_moments}
use Rattle.image_laws.proofs.Ticking.{counts_tell}
use Rattle.image_laws.proofs.snapshots_are_moments.Goals as goal

pub returns-clause-moments : goal.returns-clause-moments
returns-clause-moments c = snapshots_are_moments

pub returns-clause-tells : goal.returns-clause-tells
returns-clause-tells c = counts_tell
