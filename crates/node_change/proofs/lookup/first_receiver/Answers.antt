use Rattle.std.proofs.Common.{◌≡◌, [], Some, sym, ap, subst, ◌∙◌}
use Rattle.std.specs.FinMap.{entries}
use Rattle.std.specs.Option.{option_map}
use Rattle.slon_base.specs.Codec.{number_bytes}
use Rattle.slon_base.specs.Keeper.{after, first}
use Rattle.store_rows.specs.Steps.{Gives}
use Rattle.store_rows.proofs.Scanning.{comes, none_comes}
use Rattle.node_state.proofs.Listing.{ranged_all}
use Rattle.node_change.proofs.ReceiverRows.{no_receiver, next_is, receiver_is, keys_read}
use Rattle.node_change.proofs.lookup.first_receiver.Goals as goal

pub returns-in-None-clause-says : goal.returns-in-None-clause-says
returns-in-None-clause-says g c m config seen held orderly =
    let key = c.as_slice.ensures ∙ c.in_ok-from.ensures in
    let none = none_comes [] (entries (m 8)) c.as_slice.result.now c.in_ok-next_pair.field-0 key c.in-None.is
    (c.in_ok-next_pair.ensures.gives m seen) in
    sym (no_receiver c.args.set (record { holds = held.subscriptions; ordered = orderly.subscriptions }) c.requires.id
    (sym (ranged_all (after (number_bytes c.args.set) (entries (m 8)))) ∙ none))

pub returns-clause-says : goal.returns-clause-says
returns-clause-says g c m config seen held orderly =
    let set = c.args.set in
    let key = c.as_slice.ensures ∙ c.in_ok-from.ensures in
    let found = comes c.as_slice.result.now c.in_ok-next_pair.field-0 (c.in-Some.key, c.in-Some.field-0-1) key
    c.in-Some.is (c.in_ok-next_pair.ensures.gives m seen) in
    let next =
    next_is set (record { holds = held.subscriptions; ordered = orderly.subscriptions }) c.requires.id found in
    subst (λ o. Gives (λ found. found ≡ o) c.receiver_in.result)
    (receiver_is set next.0 c.requires.id orderly.subscriptions next.1)
    (c.receiver_in.ensures.gives next.0 next.1.can (c.as_slice-in-Some.ensures ∙ next.2))

pub returns-clause-form : goal.returns-clause-form
returns-clause-form g c m seen =
    let key = c.as_slice.ensures ∙ c.in_ok-from.ensures in
    let gives = c.in_ok-next_pair.ensures.gives m seen in
    let found = first (after (number_bytes c.args.set) (entries (m 8))) in
    let same : option_map (λ e. e.0) found ≡ Some c.as_slice-in-Some.result.now =
    ap (option_map (λ e. e.0)) (ap (λ k. first (after k (entries (m 8)))) (sym key) ∙ sym gives ∙ c.in-Some.is)
    ∙ ap (λ k. Some k) (sym c.as_slice-in-Some.ensures) in
    keys_read (Some (c.as_slice-in-Some.result.now, [])) found c.receiver_in.result same c.receiver_in.ensures.form
