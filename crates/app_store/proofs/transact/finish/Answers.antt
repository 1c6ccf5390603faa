use Rattle.app_store.proofs.Pending.{doubted}
use Rattle.app_store.proofs.transact.finish.Goals as goal

pub returns-in-Err-Failed-clause-ends : goal.returns-in-Err-Failed-clause-ends
returns-in-Err-Failed-clause-ends g c = doubted (rw c.in-Err-Failed.field-0-is at c.in-Err-Failed.ensures)
