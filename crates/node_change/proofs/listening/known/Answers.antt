use Rattle.std.proofs.Common.{◌≡◌, ◌∙◌, ℕ, sym, ap, subst}
use Rattle.std.proofs.lemmas.Result.{err_from_is_err_and}
use Rattle.slon_base.specs.Codec.{AllAre}
use Rattle.store_rows.specs.Rows.{IsId}
use Rattle.store_rows.specs.Steps.{Gives}
use Rattle.store_rows.proofs.Spaces.{sight_safe}
use Rattle.node_rows.specs.declared.rows.NodeRow.{NodeRow}
use Rattle.node_rows.specs.Spellings.{CanNode}
use Rattle.node_state.proofs.Formed.{gives_stop}
use Rattle.node_state.proofs.Listing.{held_rows, ids_only}
use Rattle.node_change.proofs.Hearing.{nodes_held, known_is}
use Rattle.node_change.specs.Listening.{known_among}
use Rattle.node_change.proofs.listening.known.Goals as goal

pub returns-in_err-nodes-clause-says : goal.returns-in_err-nodes-clause-says
returns-in_err-nodes-clause-says g c m config seen held orderly =
    let rows = held_rows config.nodes (m 4) (nodes_held held orderly) in
    gives_stop _ c.from_residual.result (err_from_is_err_and c.from_residual.result c.from_residual.ensures.1)
    (c.in_err-nodes.ensures.gives m config.nodes seen rows.0 rows.1)

pub known_among-requires : goal.known_among-requires
known_among-requires g c = record {
  nodes = subst (λ es. AllAre (λ (e : ℕ × NodeRow). IsId e.0) es) (sym c.as_slice.ensures.value)
      (ids_only CanNode c.in_ok-nodes.nodes c.in_ok-nodes.ensures.can);
}

pub returns-clause-says : goal.returns-clause-says
returns-clause-says g c m config seen held orderly =
    let rows = held_rows config.nodes (m 4) (nodes_held held orderly) in
    let nodes_are =
    c.as_slice.ensures.value ∙ c.in_ok-nodes.ensures.gives m config.nodes seen rows.0 rows.1 in
    let later = sight_safe c.in_ok-nodes.ensures.safe c.in_ok-nodes.ensures.same ∙ seen in
    subst (λ l. Gives (λ nodes. nodes ≡ l) c.known_among.result)
    (ap (known_among config) nodes_are
    ∙ known_is config orderly)
    (c.known_among.ensures.says m config later held)
