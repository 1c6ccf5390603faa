use Rattle.std.proofs.Common.{ap}
use Rattle.std.specs.Map.{lookup}
use Rattle.std.specs.Ordering.{is_eq, nat_cmp}
use Rattle.txn_core.specs.LockMaps.{owned_by, rows_of}
use Rattle.txn_core.proofs.owned.Owned.new.Goals as goal

pub returns : goal.returns
unfolding owned_by
returns c x = ap (λ es. rows_of (lookup (λ y. is_eq (nat_cmp x y)) es)) c.new.ensures.empty
