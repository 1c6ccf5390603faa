-- How far a node is in the streams of other nodes, as rows of nodes and counts tell it.
use Rattle.std.specs.Prelude.{◌≡◌, ℕ, ◌<◌, ◌^◌, if◌then◌else◌, List, [], ◌∷◌, Option, unwrap_or}
use Rattle.std.specs.Option.{option_map}
use Rattle.std.specs.FinMap.{get}
use Rattle.slon_base.specs.Codec.{number_bytes}
use Rattle.slon_base.specs.Keeper.{Store}
use Rattle.store_rows.specs.Rows.{IsId}
use Rattle.store_rows.specs.Space.{AllOf}
use Rattle.node_rows.specs.declared.rows.NodeRow.{NodeRow}
use Rattle.set_config.specs.Holds.{pair_key}

-- of each live node of these the count, or 0
abbrev pub counted : (ℕ → Option ℕ) → List (ℕ × NodeRow) → List (ℕ × ℕ)
counted count [] = []
counted count (e ∷ es) = if e.1.live then (e.0, unwrap_or (count e.0) 0) ∷ counted count es else counted count es

-- a store holds these counts, by which it tells how far the node of this id is in the stream of each
pub record AreCounts (own : ℕ) (count : ℕ → Option ℕ) (m : Store) : Type 0 where
  pub small : (node : ℕ) → IsId node → AllOf (λ n. n < 2 ^ 63) (count node)
  pub counts : (node : ℕ) → IsId node → get (m 11) (pair_key (node, own)) ≡ option_map number_bytes (count node)
