use Rattle.net_laws.specs.Laws.{ViewCovers, CopyCovers, ViewHasRow, ViewsRise}
use Rattle.net_laws.proofs.Laws.{always, view_covers, copy_covers, view_has_row, views_rise}
use Rattle.net_laws.proofs.views_cover.Goals as goal

pub returns : goal.returns
returns c = record {
  covers = always ViewCovers view_covers;
  copies = always CopyCovers copy_covers;
  rows = always ViewHasRow view_has_row;
  rise = always ViewsRise views_rise;
}
