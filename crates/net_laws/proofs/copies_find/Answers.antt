use Rattle.net_laws.specs.Laws.{CopyFinds, ActiveHasView}
use Rattle.net_laws.proofs.Laws.{always, copy_finds, active_has_view, gone_stays}
use Rattle.net_laws.proofs.copies_find.Goals as goal

pub returns : goal.returns
returns c = record {
  finds = always CopyFinds copy_finds;
  active = always ActiveHasView active_has_view;
  gone = gone_stays;
}
