use Rattle.std.proofs.Common.{ap, sym}
use Rattle.txn_core.specs.LockMaps.{writes_in, xid_in}
use Rattle.txn_core.proofs.TableWriters.{first_is_least}
use Rattle.txn_core.proofs.writers.Writers.first.Goals as goal

pub returns-in-Some : goal.returns-in-Some
returns-in-Some c =
    first_is_least c.args.table.now c.in-Some.xids.now c.args.self.now.tables c.least.result c.in-Some.ensures.value
    c.least.ensures.some c.least.ensures.member c.least.ensures.least

pub returns-in-None : goal.returns-in-None
unfolding writes_in
returns-in-None c = λ x. sym (ap (xid_in x) c.in-None.ensures.value)
