use Rattle.node_store.proofs.Acting.{acts_part}
use Rattle.node_store.proofs.looking.width.Goals as goal

pub returns-clause-acts : goal.returns-clause-acts
returns-clause-acts g c = acts_part _ _ c.width.result c.width.ensures.part c.width.ensures.sure
