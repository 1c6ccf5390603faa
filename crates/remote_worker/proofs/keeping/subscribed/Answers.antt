use Rattle.std.proofs.Common.{◌∙◌, false, ap}
use Rattle.std.specs.Prelude.{option_map, unwrap_or}
use Rattle.node_rows.specs.declared.rows.Subscription.{Subscription}
use Rattle.remote_worker.proofs.Taking.{forwards_same, provider_same}
use Rattle.remote_worker.proofs.keeping.subscribed.Goals as goal

pub returns-clause-says : goal.returns-clause-says
returns-clause-says g c m config seen held =
    let row = c.in_ok-row.ensures.says m config seen held in (
      c.provider_in.ensures.is ∙ provider_same c.in_ok-row.row c.args.origin
          ∙ ap (λ o. unwrap_or (option_map (λ (r : Subscription). r.provider) o) c.args.origin) row,
      c.forwards.ensures ∙ forwards_same c.in_ok-row.row
          ∙ ap (λ o. unwrap_or (option_map (λ (r : Subscription). r.forward) o) false) row,
    )
