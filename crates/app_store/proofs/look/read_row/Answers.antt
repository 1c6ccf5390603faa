use Rattle.app_store.proofs.Pending.{looks, says_within, says_read}
use Rattle.app_store.proofs.look.read_row.Goals as goal

pub returns : goal.returns
returns g c =
    let read = c.get_pair.ensures in
    looks c.get_pair.result read.safe (says_within c.get_pair.result read.only)
    (λ m seen. says_read _ c.get_pair.result read.only (read.gives m seen))
