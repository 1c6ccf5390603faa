use Rattle.std.proofs.Common.{◌∙◌, cond, Some, ap}
use Rattle.set_config.proofs.Entries.{self_eq}
use Rattle.remote_worker.specs.Kept.{kept_at}
use Rattle.slon_turns.proofs.working.keep_at.Goals as goal

pub returns-clause-fetches : goal.returns-clause-fetches
returns-clause-fetches c =
    let origin = c.args.fetched.origin in
    let old = c.args.held.now.fetches in
    record {
      kept = c.of.result;
      is = c.of.ensures;
      here = c.in_ok-put.ensures origin
          ∙ ap (λ b. cond b (Some c.of.result) (kept_at origin old)) (self_eq origin);
      others = λ other apart.
          c.in_ok-put.ensures other ∙ ap (λ b. cond b (Some c.of.result) (kept_at other old)) apart;
    }
