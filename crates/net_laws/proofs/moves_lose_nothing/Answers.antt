use Rattle.net_laws.specs.Laws.{MoveLosesNothing, MoveIsWhole, MoveKeepsRow, MoveBegins}
use Rattle.net_laws.proofs.Laws.{always, move_loses_nothing, move_is_whole, move_keeps_row, move_begins}
use Rattle.net_laws.proofs.moves_lose_nothing.Goals as goal

pub returns : goal.returns
returns c = record {
  nothing_lost = always MoveLosesNothing move_loses_nothing;
  whole = always MoveIsWhole move_is_whole;
  keeps_row = always MoveKeepsRow move_keeps_row;
  begins = always MoveBegins move_begins;
}
