use Rattle.std.proofs.Common.{◌∙◌, cond, Some, ap}
use Rattle.std.specs.BTreeMap.{get}
use Rattle.std.specs.Ordering.{nat_cmp}
use Rattle.remote_worker.specs.Kept.{kept_at}
use Rattle.remote_worker.proofs.Keys.{key_is}
use Rattle.remote_worker.proofs.fetches.Fetches.put.Goals as goal

pub returns : goal.returns
unfolding kept_at
returns c = λ other.
    c.in_ok-insert.ensures.updates.0 other
    ∙ ap (λ b. cond b (Some c.args.kept) (get nat_cmp c.args.self.now.kept other)) (key_is c.args.origin other)
