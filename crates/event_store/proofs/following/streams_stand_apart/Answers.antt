use Rattle.event_store.proofs.Apart.{config_stays, streams_stay}
use Rattle.event_store.proofs.following.streams_stand_apart.Goals as goal

pub returns-clause-config : goal.returns-clause-config
returns-clause-config c = config_stays

pub returns-clause-streams : goal.returns-clause-streams
returns-clause-streams c = streams_stay
