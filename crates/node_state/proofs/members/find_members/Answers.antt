use Rattle.std.proofs.Common.{ℕ, ◌∙◌, sym, subst}
use Rattle.std.proofs.lemmas.Result.{err_from_is_err_and}
use Rattle.slon_base.specs.Codec.{AllAre}
use Rattle.slon_base.specs.Keeper.{Store}
use Rattle.store_rows.specs.Rows.{IsId}
use Rattle.store_rows.proofs.Spaces.{sight_safe}
use Rattle.node_rows.specs.declared.rows.SetRow.{SetRow}
use Rattle.node_rows.specs.declared.rows.TableRow.{TableRow}
use Rattle.node_rows.specs.Spellings.{set_bytes, CanSet, table_bytes, CanTable}
use Rattle.set_config.specs.Holds.{HoldsConfig}
use Rattle.slon_model.specs.Config.{Config}
use Rattle.slon_model.specs.Maps.{Map}
use Rattle.node_state.specs.Held.{IsOrderly}
use Rattle.node_state.specs.Members.{config_of, AreThose}
use Rattle.node_state.proofs.Formed.{gives_stop}
use Rattle.node_state.proofs.Joining.{members_are, those_of}
use Rattle.node_state.proofs.Listing.{HoldsMap, held_rows}
use Rattle.node_state.proofs.members.find_members.Goals as goal

sets_held : {config : Config} {m : Store} → HoldsConfig config m → IsOrderly config →
    HoldsMap set_bytes CanSet config.sets (m 6)
sets_held held orderly = record { ordered = orderly.sets; holds = held.sets }

tables_held : {config : Config} {m : Store} → HoldsConfig config m → IsOrderly config →
    HoldsMap table_bytes CanTable config.tables (m 7)
tables_held held orderly = record { ordered = orderly.tables; holds = held.tables }

pub returns-in_err-sets-clause-says : goal.returns-in_err-sets-clause-says
returns-in_err-sets-clause-says g c m config seen held orderly =
    let rows = held_rows config.sets (m 6) (sets_held held orderly) in
    gives_stop _ c.from_residual.result (err_from_is_err_and c.from_residual.result c.from_residual.ensures.1)
    (c.in_err-sets.ensures.gives m config.sets seen rows.0 rows.1)

pub returns-in_err-tables-clause-says : goal.returns-in_err-tables-clause-says
returns-in_err-tables-clause-says g c m config seen held orderly =
    let rows = held_rows config.tables (m 7) (tables_held held orderly) in
    let later = sight_safe c.in_ok-sets.ensures.safe c.in_ok-sets.ensures.same ∙ seen in
    gives_stop _ c.from_residual-in_err-tables.result
    (err_from_is_err_and c.from_residual-in_err-tables.result c.from_residual-in_err-tables.ensures.1)
    (c.in_err-tables.ensures.gives m config.tables later rows.0 rows.1)

pub returns-clause-ids : goal.returns-clause-ids
returns-clause-ids g c =
    members_are c.args.own c.as_slice.result.now c.as_slice-2.result.now c.in_ok-members_of.field-0
    (subst (λ es. AllAre (λ (e : ℕ × TableRow). IsId e.0 × CanTable e.1) es) (sym c.as_slice-2.ensures.value)
    c.in_ok-tables.ensures.can) c.in_ok-members_of.ensures

pub returns-clause-says : goal.returns-clause-says
returns-clause-says g c m config seen held orderly =
    let sets = held_rows config.sets (m 6) (sets_held held orderly) in
    let tables = held_rows config.tables (m 7) (tables_held held orderly) in
    let later = sight_safe c.in_ok-sets.ensures.safe c.in_ok-sets.ensures.same ∙ seen in
    let sets_are = c.as_slice.ensures.value ∙ c.in_ok-sets.ensures.gives m config.sets seen sets.0 sets.1 in
    let tables_are =
    c.as_slice-2.ensures.value ∙ c.in_ok-tables.ensures.gives m config.tables later tables.0 tables.1 in
    those_of {c = config}
    (subst (λ (p : Map SetRow × Map TableRow). AreThose c.args.own (config_of p.0 p.1) c.in_ok-members_of.field-0)
    (λ i. (sets_are i, tables_are i)) c.in_ok-members_of.ensures)
