use Rattle.view_laws.proofs.Viewed.{views_begin}
use Rattle.view_laws.proofs.views_begin.Goals as goal

pub returns : goal.returns
returns c = views_begin
