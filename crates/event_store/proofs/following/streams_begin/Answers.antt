use Rattle.event_store.proofs.Deeds.{first_has_none, joining_gives}
use Rattle.event_store.proofs.Regular.{first_regular, given_regular}
use Rattle.event_store.proofs.following.streams_begin.Goals as goal

pub returns-clause-none : goal.returns-clause-none
returns-clause-none c = first_has_none

pub returns-clause-first : goal.returns-clause-first
returns-clause-first c = first_regular

pub returns-clause-joining : goal.returns-clause-joining
returns-clause-joining c = joining_gives

pub returns-clause-given : goal.returns-clause-given
returns-clause-given c = given_regular
