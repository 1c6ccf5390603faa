use Rattle.event_store.proofs.Rising.{confirming_hears, confirming_raises, confirming_stays}
use Rattle.event_store.proofs.hearing.confirmations_rise.Goals as goal

pub returns-clause-hears : goal.returns-clause-hears
returns-clause-hears c = confirming_hears

pub returns-clause-raises : goal.returns-clause-raises
returns-clause-raises c = confirming_raises

pub returns-clause-stays : goal.returns-clause-stays
returns-clause-stays c = confirming_stays
