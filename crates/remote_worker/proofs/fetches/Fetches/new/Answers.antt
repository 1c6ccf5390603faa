use Rattle.std.proofs.Common.{ap}
use Rattle.std.specs.Ordering.{is_eq, nat_cmp}
use Rattle.std.specs.Map.{lookup}
use Rattle.remote_worker.specs.Kept.{kept_at}
use Rattle.remote_worker.proofs.fetches.Fetches.new.Goals as goal

pub returns : goal.returns
unfolding kept_at
returns c = λ origin. ap (lookup (λ o. is_eq (nat_cmp origin o))) c.new.ensures.empty
