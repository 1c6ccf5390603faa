use Rattle.event_store.proofs.Deeds.{adds, keeping_adds, applying_adds, stays, hearing_adds}
use Rattle.event_store.proofs.Regular.{regular_stays}
use Rattle.event_store.proofs.following.streams_follow_deeds.Goals as goal

pub returns-clause-adds : goal.returns-clause-adds
returns-clause-adds c = adds

pub returns-clause-keeps : goal.returns-clause-keeps
returns-clause-keeps c = keeping_adds

pub returns-clause-applies : goal.returns-clause-applies
returns-clause-applies c = applying_adds

pub returns-clause-stays : goal.returns-clause-stays
returns-clause-stays c = stays

pub returns-clause-regular : goal.returns-clause-regular
returns-clause-regular c = regular_stays

pub returns-clause-confirms : goal.returns-clause-confirms
returns-clause-confirms c = hearing_adds
