use Rattle.store_rows.proofs.Causes.{read_failed}
use Rattle.store_rows.proofs.calls.next_pair.Goals as goal

pub returns-in-Err-Failed-clause-safe : goal.returns-in-Err-Failed-clause-safe
returns-in-Err-Failed-clause-safe g c = read_failed (rw c.in-Err-Failed.field-0-is at c.in-Err-Failed.ensures)
