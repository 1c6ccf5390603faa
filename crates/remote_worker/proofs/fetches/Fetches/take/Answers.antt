use Rattle.std.proofs.Common.{◌∙◌, cond, None, ap}
use Rattle.std.specs.BTreeMap.{get}
use Rattle.std.specs.Ordering.{nat_cmp}
use Rattle.remote_worker.specs.Kept.{kept_at}
use Rattle.remote_worker.proofs.Keys.{key_is}
use Rattle.remote_worker.proofs.fetches.Fetches.take.Goals as goal

pub returns-clause-value : goal.returns-clause-value
unfolding kept_at
returns-clause-value c = c.remove.ensures.value

pub returns-clause-rest : goal.returns-clause-rest
unfolding kept_at
returns-clause-rest c = λ other.
    c.remove.ensures.updates.0 other
    ∙ ap (λ b. cond b None (get nat_cmp c.args.self.now.kept other)) (key_is c.args.origin other)
