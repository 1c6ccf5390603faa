use Rattle.store_rows.proofs.Causes.{change_failed}
use Rattle.store_rows.proofs.calls.put_pair.Goals as goal

pub returns-in-Err-Failed-clause-safe : goal.returns-in-Err-Failed-clause-safe
returns-in-Err-Failed-clause-safe g c = change_failed c.requires
    (rw c.in-Err-Failed.field-0-is at c.in-Err-Failed.ensures)
