use Rattle.net_laws.specs.Eras.{ErasInOrder, StandsInLast, OpensRise, ReadsOwnEra}
use Rattle.net_laws.proofs.Eras.{of_eras, eras_in_order, stands_in_last, opens_rise, reads_own_era}
use Rattle.net_laws.proofs.eras_pass_in_order.Goals as goal

pub returns : goal.returns
returns c = record {
  in_order = of_eras ErasInOrder eras_in_order;
  stands = of_eras StandsInLast stands_in_last;
  opens = of_eras OpensRise opens_rise;
  own = of_eras ReadsOwnEra reads_own_era;
}
