use Rattle.app_store.proofs.Pending.{start_failed}
use Rattle.app_store.proofs.transact.begin.Goals as goal

pub returns-in-Err-Failed : goal.returns-in-Err-Failed
returns-in-Err-Failed g c = start_failed (rw c.in-Err-Failed.field-0-is at c.in-Err-Failed.ensures)
