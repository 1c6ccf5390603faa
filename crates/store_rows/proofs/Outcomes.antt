-- What a call of a store comes to, for the functions that wrap one.
use Rattle.store_rows.proofs.Causes.{stays, quiet, quiet_short}
use Rattle.store_rows.proofs.Putting.{none_more, one_more, one_at_most}

pub ruleset call_laws = (stays, quiet, quiet_short, none_more, one_more, one_at_most)
