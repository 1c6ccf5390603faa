use Rattle.std.proofs.Common.{◌∙◌}
use Rattle.std.proofs.lemmas.Result.{err_from_is_err_and}
use Rattle.store_rows.proofs.Spaces.{handed_safe, looked_none, looked_on, safe_on, sight_same}
use Rattle.set_config.proofs.Holding.{gives_stop}
use Rattle.set_config.proofs.loading.read_rows.Goals as goal

pub returns-in_err-nodes-clause-gives : goal.returns-in_err-nodes-clause-gives
returns-in_err-nodes-clause-gives g c m rows seen are =
    gives_stop _ c.from_residual.result
    (err_from_is_err_and c.from_residual.result c.from_residual.ensures.1)
    (c.in_err-nodes.ensures.gives m rows.nodes seen are.nodes.can are.nodes.spelled)

pub returns-in_err-paths-clause-gives : goal.returns-in_err-paths-clause-gives
returns-in_err-paths-clause-gives g c m rows seen are =
    let l = looked_on looked_none c.in_ok-nodes.ensures.safe c.in_ok-nodes.ensures.same in
    gives_stop _ c.from_residual-in_err-paths.result
    (err_from_is_err_and c.from_residual-in_err-paths.result c.from_residual-in_err-paths.ensures.1)
    (c.in_err-paths.ensures.gives m rows.paths (sight_same l ∙ seen) are.paths.can are.paths.spelled)

pub returns-in_err-sets-clause-gives : goal.returns-in_err-sets-clause-gives
returns-in_err-sets-clause-gives g c m rows seen are =
    let l = looked_on looked_none c.in_ok-nodes.ensures.safe c.in_ok-nodes.ensures.same in
    let l = looked_on l c.in_ok-paths.ensures.safe c.in_ok-paths.ensures.same in
    gives_stop _ c.from_residual-in_err-sets.result
    (err_from_is_err_and c.from_residual-in_err-sets.result c.from_residual-in_err-sets.ensures.1)
    (c.in_err-sets.ensures.gives m rows.sets (sight_same l ∙ seen) are.sets.can are.sets.spelled)

pub returns-in_err-tables-clause-gives : goal.returns-in_err-tables-clause-gives
returns-in_err-tables-clause-gives g c m rows seen are =
    let l = looked_on looked_none c.in_ok-nodes.ensures.safe c.in_ok-nodes.ensures.same in
    let l = looked_on l c.in_ok-paths.ensures.safe c.in_ok-paths.ensures.same in
    let l = looked_on l c.in_ok-sets.ensures.safe c.in_ok-sets.ensures.same in
    gives_stop _ c.from_residual-in_err-tables.result
    (err_from_is_err_and c.from_residual-in_err-tables.result c.from_residual-in_err-tables.ensures.1)
    (c.in_err-tables.ensures.gives m rows.tables (sight_same l ∙ seen) are.tables.can are.tables.spelled)

pub returns-in_err-subscriptions-clause-gives : goal.returns-in_err-subscriptions-clause-gives
returns-in_err-subscriptions-clause-gives g c m rows seen are =
    let l = looked_on looked_none c.in_ok-nodes.ensures.safe c.in_ok-nodes.ensures.same in
    let l = looked_on l c.in_ok-paths.ensures.safe c.in_ok-paths.ensures.same in
    let l = looked_on l c.in_ok-sets.ensures.safe c.in_ok-sets.ensures.same in
    let l = looked_on l c.in_ok-tables.ensures.safe c.in_ok-tables.ensures.same in
    gives_stop _ c.from_residual-in_err-subscriptions.result
    (err_from_is_err_and c.from_residual-in_err-subscriptions.result c.from_residual-in_err-subscriptions.ensures.1)
    (c.in_err-subscriptions.ensures.gives m rows.subscriptions (sight_same l ∙ seen) are.subscriptions.can
    are.subscriptions.spelled)

pub returns-in_err-fences-clause-gives : goal.returns-in_err-fences-clause-gives
returns-in_err-fences-clause-gives g c m rows seen are =
    let l = looked_on looked_none c.in_ok-nodes.ensures.safe c.in_ok-nodes.ensures.same in
    let l = looked_on l c.in_ok-paths.ensures.safe c.in_ok-paths.ensures.same in
    let l = looked_on l c.in_ok-sets.ensures.safe c.in_ok-sets.ensures.same in
    let l = looked_on l c.in_ok-tables.ensures.safe c.in_ok-tables.ensures.same in
    let l = looked_on l c.in_ok-subscriptions.ensures.safe c.in_ok-subscriptions.ensures.same in
    gives_stop _ c.from_residual-in_err-fences.result
    (err_from_is_err_and c.from_residual-in_err-fences.result c.from_residual-in_err-fences.ensures.1)
    (c.in_err-fences.ensures.gives m rows.fences (sight_same l ∙ seen) are.fences.can are.fences.spelled)

pub returns-clause-gives : goal.returns-clause-gives
returns-clause-gives g c m rows seen are =
    let nodes = c.in_ok-nodes.ensures.gives m rows.nodes seen are.nodes.can are.nodes.spelled in
    let l = looked_on looked_none c.in_ok-nodes.ensures.safe c.in_ok-nodes.ensures.same in
    let paths = c.in_ok-paths.ensures.gives m rows.paths (sight_same l ∙ seen) are.paths.can are.paths.spelled in
    let l = looked_on l c.in_ok-paths.ensures.safe c.in_ok-paths.ensures.same in
    let sets = c.in_ok-sets.ensures.gives m rows.sets (sight_same l ∙ seen) are.sets.can are.sets.spelled in
    let l = looked_on l c.in_ok-sets.ensures.safe c.in_ok-sets.ensures.same in
    let tables = c.in_ok-tables.ensures.gives m rows.tables (sight_same l ∙ seen) are.tables.can are.tables.spelled in
    let l = looked_on l c.in_ok-tables.ensures.safe c.in_ok-tables.ensures.same in
    let subscriptions = c.in_ok-subscriptions.ensures.gives m rows.subscriptions (sight_same l ∙ seen)
    are.subscriptions.can are.subscriptions.spelled in
    let l = looked_on l c.in_ok-subscriptions.ensures.safe c.in_ok-subscriptions.ensures.same in
    let fences = c.in_ok-fences.ensures.gives m rows.fences (sight_same l ∙ seen) are.fences.can are.fences.spelled in
    λ k. record {
      nodes = nodes k;
      paths = paths k;
      sets = sets k;
      tables = tables k;
      subscriptions = subscriptions k;
      fences = fences k;
    }

pub returns-in_err-fences-clause-safe : goal.returns-in_err-fences-clause-safe
returns-in_err-fences-clause-safe g c =
    let l = looked_on looked_none c.in_ok-nodes.ensures.safe c.in_ok-nodes.ensures.same in
    let l = looked_on l c.in_ok-paths.ensures.safe c.in_ok-paths.ensures.same in
    let l = looked_on l c.in_ok-sets.ensures.safe c.in_ok-sets.ensures.same in
    let l = looked_on l c.in_ok-tables.ensures.safe c.in_ok-tables.ensures.same in
    let l = looked_on l c.in_ok-subscriptions.ensures.safe c.in_ok-subscriptions.ensures.same in
    handed_safe _ _ c.from_residual-in_err-fences.result
    (err_from_is_err_and c.from_residual-in_err-fences.result c.from_residual-in_err-fences.ensures.1)
    (safe_on l c.in_err-fences.ensures.safe)
