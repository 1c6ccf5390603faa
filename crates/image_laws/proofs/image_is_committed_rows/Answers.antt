use Rattle.image_laws.proofs.Images.{image_is_committed_rows}
use Rattle.image_laws.proofs.image_is_committed_rows.Goals as goal

pub returns : goal.returns
returns c = image_is_committed_rows
