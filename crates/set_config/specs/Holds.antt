-- How a store holds what its node knows of the cluster.
use Rattle.std.specs.Prelude.{◌≡◌, ℕ, Bool, false, ◌==◌, ◌||◌, List, ◌++◌}
use Rattle.slon_base.specs.Codec.{number_bytes, text_bytes, IsText}
use Rattle.slon_base.specs.Keeper.{Store}
use Rattle.store_rows.specs.Rows.{IsId}
use Rattle.store_rows.specs.Space.{IsSpace}
use Rattle.node_rows.specs.Spellings.{node_bytes, CanNode, set_bytes, CanSet, table_bytes, CanTable}
use Rattle.node_rows.specs.Spellings.{subscription_bytes, CanSubscription, fence_bytes, CanFence}
use Rattle.slon_model.specs.Maps.{entry_at, pair_at}
use Rattle.slon_model.specs.Config.{Config}

abbrev pub AreIds : ℕ × ℕ → Type 0
AreIds i = IsId i.0 × IsId i.1

-- the key of a row by two ids
abbrev pub pair_key : ℕ × ℕ → List ℕ
pair_key i = number_bytes i.0 ++ number_bytes i.1

-- each map has a space of its own
pub record HoldsConfig (c : Config) (m : Store) : Type 0 where
  pub nodes : IsSpace number_bytes IsId node_bytes CanNode (λ n. entry_at n c.nodes) (m 4)
  pub paths : IsSpace pair_key AreIds text_bytes IsText (λ i. pair_at i.0 i.1 c.paths) (m 5)
  pub sets : IsSpace number_bytes IsId set_bytes CanSet (λ s. entry_at s c.sets) (m 6)
  pub tables : IsSpace number_bytes IsId table_bytes CanTable (λ t. entry_at t c.tables) (m 7)
  pub subscriptions : IsSpace pair_key AreIds subscription_bytes CanSubscription
      (λ i. pair_at i.0 i.1 c.subscriptions) (m 8)
  pub fences : IsSpace number_bytes IsId fence_bytes CanFence (λ n. entry_at n c.fences) (m 14)

-- the spaces of what is known of the cluster
abbrev pub is_config : ℕ → Bool
is_config space = space == 4 || space == 5 || space == 6 || space == 7 || space == 8 || space == 14

-- a store holds this of the cluster, and in all other spaces what the base holds
pub record Shows (base : Store) (c : Config) (m : Store) : Type 0 where
  pub config : HoldsConfig c m
  pub others : (space : ℕ) → is_config space ≡ false → m space ≡ base space
