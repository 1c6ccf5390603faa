use Rattle.std.proofs.Common.{◌≡◌, sym, subst, ◌∙◌}
use Rattle.std.specs.FinMap.{entries}
use Rattle.slon_base.specs.Codec.{number_bytes}
use Rattle.slon_base.specs.Keeper.{after}
use Rattle.store_rows.specs.Scan.{ranged, spelled_rows}
use Rattle.node_rows.specs.Spellings.{subscription_bytes}
use Rattle.slon_model.specs.Maps.{row_at}
use Rattle.node_change.proofs.Feeds.{feeds_scanned, feeds_can}
use Rattle.node_change.proofs.ReceiverRows.{HoldsSubscriptions}
use Rattle.node_change.proofs.lookup.receivers.Goals as goal

pub returns-clause-says : goal.returns-clause-says
returns-clause-says g c m config seen held orderly =
    let set = c.args.set in
    let rows = row_at set config.subscriptions in
    let here : HoldsSubscriptions config.subscriptions (m 8)
    = record { holds = held.subscriptions; ordered = orderly.subscriptions } in
    let key = c.as_slice-key.ensures ∙ c.in_ok-prefix.ensures in
    c.scan_rows.ensures.gives m rows seen (feeds_can set here c.requires.id)
    (subst (λ k. ranged k (after k (entries (m 8))) ≡ spelled_rows k number_bytes subscription_bytes rows) (sym key)
    (feeds_scanned set here c.requires.id))
