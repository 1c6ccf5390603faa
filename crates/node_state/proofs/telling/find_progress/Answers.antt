use Rattle.std.proofs.Common.{◌≡◌, ◌∙◌, ℕ, sym, ap, subst}
use Rattle.std.proofs.lemmas.Result.{err_from_is_err_and}
use Rattle.slon_base.specs.Codec.{AllAre}
use Rattle.slon_base.specs.Keeper.{Store}
use Rattle.store_rows.specs.Rows.{IsId}
use Rattle.store_rows.specs.Steps.{Gives}
use Rattle.store_rows.proofs.Spaces.{sight_safe}
use Rattle.node_rows.specs.declared.rows.NodeRow.{NodeRow}
use Rattle.node_rows.specs.Spellings.{node_bytes, CanNode}
use Rattle.slon_model.specs.Deeds.{Node, knowledge}
use Rattle.node_state.specs.Held.{NodeHeld}
use Rattle.node_state.specs.Progress.{counted}
use Rattle.node_state.proofs.Counting.{counts_of, counted_is, counts_held, progress_formed}
use Rattle.node_state.proofs.Formed.{gives_stop}
use Rattle.node_state.proofs.Listing.{HoldsMap, held_rows, ids_only, rows_as}
use Rattle.node_state.proofs.telling.find_progress.Goals as goal

nodes_held : {n : Node} {m : Store} → NodeHeld n m → HoldsMap node_bytes CanNode (knowledge n).config.nodes (m 4)
nodes_held held = record { ordered = held.orderly.nodes; holds = held.config.nodes }

pub returns-in_err-nodes-clause-says : goal.returns-in_err-nodes-clause-says
returns-in_err-nodes-clause-says g c m n seen is held =
    let rows = held_rows (knowledge n).config.nodes (m 4) (nodes_held held) in
    gives_stop _ c.from_residual.result (err_from_is_err_and c.from_residual.result c.from_residual.ensures.1)
    (c.in_err-nodes.ensures.gives m (knowledge n).config.nodes seen rows.0 rows.1)

pub read_progress-requires-clause-nodes : goal.read_progress-requires-clause-nodes
read_progress-requires-clause-nodes g c =
    subst (λ es. AllAre (λ (e : ℕ × NodeRow). IsId e.0) es) (sym c.as_slice.ensures.value)
    (ids_only CanNode c.in_ok-nodes.nodes c.in_ok-nodes.ensures.can)

pub returns-clause-says : goal.returns-clause-says
returns-clause-says g c m n seen is held =
    let rows = held_rows (knowledge n).config.nodes (m 4) (nodes_held held) in
    let nodes_are =
    c.as_slice.ensures.value ∙ c.in_ok-nodes.ensures.gives m (knowledge n).config.nodes seen rows.0 rows.1 in
    let later = sight_safe c.in_ok-nodes.ensures.safe c.in_ok-nodes.ensures.same ∙ seen in
    subst (λ l. Gives (λ progress. progress ≡ l) c.read_progress.result)
    (ap (counted (counts_of n)) nodes_are ∙ counted_is n m held)
    (c.read_progress.ensures.says m (counts_of n) later (counts_held c.args.own n m is c.requires held))

pub returns-clause-form : goal.returns-clause-form
returns-clause-form g c m seen =
    let later = sight_safe c.in_ok-nodes.ensures.safe c.in_ok-nodes.ensures.same ∙ seen in
    progress_formed c.args.own m c.as_slice.result.now c.read_progress.result
    (rows_as node_bytes CanNode 4 m c.as_slice.result.now (sym c.as_slice.ensures.value) c.in_ok-nodes.ensures.can
    (c.in_ok-nodes.ensures.found m seen))
    (λ are. sym (c.in_ok-nodes.ensures.gives m are.found seen are.can are.spelled) ∙ sym c.as_slice.ensures.value)
    (c.read_progress.ensures.form m later)
