use Rattle.image_laws.proofs.Older.{older_stay, snapshots_divide}
use Rattle.image_laws.proofs.snapshots_divide.Goals as goal

pub returns-clause-divide : goal.returns-clause-divide
returns-clause-divide c = snapshots_divide

pub returns-clause-stay : goal.returns-clause-stay
returns-clause-stay c = older_stay
