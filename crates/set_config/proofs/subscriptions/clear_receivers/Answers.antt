use Rattle.std.proofs.Common.{◌≡◌, sym, subst, ◌∙◌}
use Rattle.std.proofs.lemmas.Result.{err_from_is_err_and}
use Rattle.std.specs.FinMap.{entries}
use Rattle.slon_base.specs.Codec.{number_bytes}
use Rattle.slon_base.specs.Keeper.{after}
use Rattle.store_rows.specs.Scan.{ranged, spelled_rows}
use Rattle.store_rows.proofs.Spaces.{becomes, hands_stop, pending_same, sees}
use Rattle.node_rows.specs.Spellings.{subscription_bytes}
use Rattle.slon_model.specs.Maps.{without_entry}
use Rattle.set_config.specs.Holds.{Shows}
use Rattle.set_config.specs.Rows.{each, take_receiver}
use Rattle.set_config.proofs.Keyed.{id_test, receiver_range}
use Rattle.set_config.proofs.Ranges.{are_map, scanned_rows, row_found}
use Rattle.set_config.proofs.Receiving.{shows_cleared}
use Rattle.set_config.proofs.subscriptions.clear_receivers.Goals as goal

pub returns-in_err-rows-clause-turns : goal.returns-in_err-rows-clause-turns
returns-in_err-rows-clause-turns g c base config p =
    let list = scanned_rows (p.store 8) (receiver_range c.args.set c.requires.can) p.has.config.subscriptions in
    let key = c.as_slice-key.ensures ∙ c.in_ok-prefix.ensures in
    hands_stop _ _ c.from_residual-in_err-rows.result
    (err_from_is_err_and c.from_residual-in_err-rows.result c.from_residual-in_err-rows.ensures.1)
    (c.in_err-rows.ensures.gives p.store list.rows (sees p) list.can
    (subst (λ k. ranged k (after k (entries (p.store 8))) ≡ spelled_rows k number_bytes subscription_bytes list.rows)
    (sym key) list.spelled))

pub returns-clause-turns : goal.returns-clause-turns
returns-clause-turns g c base config p =
    let set = c.args.set in
    let held = p.has.config.subscriptions in
    let range = receiver_range set c.requires.can in
    let list = scanned_rows (p.store 8) range held in
    let key = c.as_slice-key.ensures ∙ c.in_ok-prefix.ensures in
    let is = c.as_slice.ensures.value ∙ c.in_ok-rows.ensures.gives p.store list.rows (sees p) list.can
    (subst (λ k. ranged k (after k (entries (p.store 8))) ≡ spelled_rows k number_bytes subscription_bytes list.rows)
    (sym key) list.spelled) in
    becomes (Shows base (record config { subscriptions = without_entry set config.subscriptions }))
    (each (take_receiver set) c.as_slice.result.now) {old = g.K.Keeper.kept c.scan_rows.new.keeper} _
    c.drop_receivers.result c.drop_receivers.ensures.put c.drop_receivers.ensures.only
    (pending_same p c.in_ok-rows.ensures.same)
    (λ m s. subst (λ rows. Shows base (record config { subscriptions = without_entry set config.subscriptions })
    (each (take_receiver set) rows m)) (sym is)
    (shows_cleared set list.rows m c.requires.can (are_map list.rows (λ e can. can.0) list.can)
    (λ q one. row_found (p.store 8) q id_test range held list one) s))
