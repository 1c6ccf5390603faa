use Rattle.std.proofs.Common.{◌∙◌}
use Rattle.txn_core.proofs.Covering.{found_by_search}
use Rattle.txn_core.proofs.cover.has.Goals as goal

pub returns-then-rises : goal.returns-then-rises
returns-then-rises c = c.is_ok.ensures.value ∙ found_by_search c.args.running.now c.args.xid c.binary_search.result
    (c.requires c.if-rises.true) c.binary_search.ensures.position
