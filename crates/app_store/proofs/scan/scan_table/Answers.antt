use Rattle.std.proofs.Common.{subst}
use Rattle.std.specs.FinMap.{entries}
use Rattle.std.proofs.lemmas.Result.{err_from_is_err_and}
use Rattle.app_store.specs.Scan.{AreArranged}
use Rattle.app_store.specs.Steps.{Says}
use Rattle.app_store.proofs.Pending.{exit_as}
use Rattle.app_store.proofs.Arranging.{Listed}
use Rattle.app_store.proofs.Formed.{passes_on, stops_at, none_lacks}
use Rattle.app_store.proofs.Scanning.{rest_after, all_arranged}
use Rattle.app_store.specs.Formed.{AreListed}
use Rattle.app_store.specs.Spelled.{rows}
use Rattle.app_store.proofs.scan.scan_table.Goals as goal

pub returns-in_err-rows-clause-finds : goal.returns-in_err-rows-clause-finds
returns-in_err-rows-clause-finds g c m seen table is =
    let rest = rest_after c.args.prefix.now table (m 3) is in
    exit_as (Says (entries table)) c.from_residual.result
    (err_from_is_err_and c.from_residual.result c.from_residual.ensures.1)
    (c.in_err-rows.ensures.gives m rest.rows seen rest.can rest.spelled)

pub returns-clause-finds : goal.returns-clause-finds
returns-clause-finds g c m seen table is =
    let rest = rest_after c.args.prefix.now table (m 3) is in
    all_arranged c.args.prefix.now table (m 3) is c.in_ok-by_keys.field-0
    (subst (λ (rows : Listed). AreArranged rows c.in_ok-by_keys.field-0)
    (c.in_ok-rows.ensures.gives m rest.rows seen rest.can rest.spelled) c.in_ok-by_keys.ensures)

pub returns-in_err-rows-clause-form : goal.returns-in_err-rows-clause-form
returns-in_err-rows-clause-form g c m seen =
    passes_on _ _ c.from_residual.result
    (err_from_is_err_and c.from_residual.result c.from_residual.ensures.1)
    (λ space lacks. lacks)
    (stops_at rows (AreListed c.args.prefix.now m) c.in_err-rows.field-0.0 c.in_err-rows.ensures.space
    (λ are. c.in_err-rows.ensures.gives m are.found seen are.texts are.spelled))

pub returns-clause-form : goal.returns-clause-form
returns-clause-form g c m seen =
    let read = c.in_ok-rows.ensures.found m seen in
    none_lacks (record { found = c.in_ok-rows.rows; texts = read.0; spelled = read.1 })
