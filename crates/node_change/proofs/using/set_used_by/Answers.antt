use Rattle.std.proofs.Common.{◌≡◌, ◌∙◌, ℕ, List, sym, ap, subst}
use Rattle.std.specs.Prelude.{find}
use Rattle.std.specs.Option.{option_map}
use Rattle.std.proofs.lemmas.Result.{err_from_is_err_and}
use Rattle.slon_base.specs.Codec.{AllAre}
use Rattle.slon_base.specs.Keeper.{Store}
use Rattle.store_rows.specs.Rows.{IsId}
use Rattle.store_rows.specs.Steps.{Gives}
use Rattle.store_rows.proofs.Spaces.{sight_safe}
use Rattle.node_rows.specs.declared.rows.SetRow.{SetRow}
use Rattle.node_rows.specs.Spellings.{CanSet, set_bytes}
use Rattle.slon_model.specs.Config.{Config}
use Rattle.slon_model.specs.Membership.{uses}
use Rattle.set_config.specs.Holds.{HoldsConfig}
use Rattle.node_state.specs.Held.{IsOrderly}
use Rattle.node_state.proofs.Formed.{gives_stop}
use Rattle.node_state.proofs.Listing.{HoldsMap, held_rows, ids_only}
use Rattle.node_change.proofs.using.set_used_by.Goals as goal

sets_held : {c : Config} {m : Store} → HoldsConfig c m → IsOrderly c → HoldsMap set_bytes CanSet c.sets (m 6)
sets_held held orderly = record { ordered = orderly.sets; holds = held.sets }

pub returns-in_err-sets-clause-says : goal.returns-in_err-sets-clause-says
returns-in_err-sets-clause-says g c m config seen held orderly =
    let rows = held_rows config.sets (m 6) (sets_held held orderly) in
    gives_stop _ c.from_residual.result (err_from_is_err_and c.from_residual.result c.from_residual.ensures.1)
    (c.in_err-sets.ensures.gives m config.sets seen rows.0 rows.1)

pub first_used-requires : goal.first_used-requires
first_used-requires g c = record {
  sets = subst (λ es. AllAre (λ (e : ℕ × SetRow). IsId e.0) es) (sym c.as_slice.ensures.value)
      (ids_only CanSet c.in_ok-sets.sets c.in_ok-sets.ensures.can);
}

pub returns-clause-says : goal.returns-clause-says
returns-clause-says g c m config seen held orderly =
    let rows = held_rows config.sets (m 6) (sets_held held orderly) in
    let sets_are = c.as_slice.ensures.value ∙ c.in_ok-sets.ensures.gives m config.sets seen rows.0 rows.1 in
    let later = sight_safe c.in_ok-sets.ensures.safe c.in_ok-sets.ensures.same ∙ seen in
    subst (λ l. Gives (λ found. found ≡ l) c.first_used.result)
    (ap (λ (es : List (ℕ × SetRow)). option_map (λ e. e.0) (find (uses c.args.node config) es)) sets_are)
    (c.first_used.ensures.says m config later held orderly)
