use Rattle.std.proofs.Common.{◌∙◌, ap, rules}
use Rattle.std.proofs.lemmas.Fn.{filter_same}
use Rattle.txn_core.specs.Snapshots.{seen_as}
use Rattle.log_switch.specs.Between.{is_between, passed}
use Rattle.log_switch.proofs.selecting.keep_between.Goals as goal

pub returns : goal.returns
returns c =
    let test = is_between c.args.tables.now (seen_as c.args.old.now) (seen_as c.args.new.now) in
    c.from_vec.ensures
    ∙ filter_same _ (λ r. test r.1) _ (λ x b f' k. search rules) _ _ c.retain.ensures.filtered
    ∙ ap (passed test) c.into_vec-kept.ensures
