-- A configuration that is read as a whole.
use Rattle.std.specs.Prelude.{◌≡◌, ◌<◌, ◌⊎◌, ℕ, ◌==◌, ◌&&◌, Bool, true, List, [], ◌∷◌, Option}
use Rattle.std.specs.FinMap.{entries}
use Rattle.slon_base.specs.Codec.{number_bytes, text_bytes, IsText, AllAre}
use Rattle.slon_base.specs.Keeper.{Space, Store, after}
use Rattle.store_rows.specs.Rows.{IsId}
use Rattle.store_rows.specs.Scan.{ranged, spelled_rows}
use Rattle.store_rows.specs.declared.stop.Stop.{Stop}
use Rattle.store_rows.specs.declared.stop.Stop.TheVariants.{Failed, NoMemory, BadRow, TooBig}
use Rattle.node_rows.specs.Spellings.{node_bytes, CanNode, set_bytes, CanSet, table_bytes, CanTable}
use Rattle.node_rows.specs.Spellings.{subscription_bytes, CanSubscription, fence_bytes, CanFence}
use Rattle.slon_model.specs.Maps.{entry_at, pair_at}
use Rattle.slon_model.specs.Config.{Config}
use Rattle.set_config.specs.Holds.{AreIds, pair_key, is_config}
use Rattle.set_config.specs.Rows.{row_of}
use Rattle.set_config.specs.declared.loading.Config.{Config as Loaded}

-- ---- rows that list what a map has

abbrev pub same_id : ℕ → ℕ → Bool
same_id a b = a == b

abbrev pub same_pair : ℕ × ℕ → ℕ × ℕ → Bool
same_pair i j = i.0 == j.0 && i.1 == j.1

-- the first ids decide, and the second ones where the first are the same
abbrev pub IsPairBefore : ℕ × ℕ → ℕ × ℕ → Type 0
IsPairBefore i j = (i.0 < j.0) ⊎ ((i.0 ≡ j.0) × (i.1 < j.1))

-- each comes before all that follow it, so none comes twice
abbrev pub Ascend : {I X : Type 0} → (I → I → Type 0) → List (I × X) → Type 0
Ascend IsBefore [] = Unit {0}
Ascend IsBefore (e ∷ es) = AllAre (λ f. IsBefore e.0 f.0) es × Ascend IsBefore es

-- at each id stands what the rows have there, and they have no others
pub record Lists {I X : Type 0} (same : I → I → Bool) (IsBefore : I → I → Type 0) (IsOne : I → Type 0)
    (entry : I → Option X) (rows : List (I × X)) : Type 0 where
  pub looks : (i : I) → IsOne i → row_of same i rows ≡ entry i
  pub ones : AllAre (λ e. IsOne e.0) rows
  pub ascend : Ascend IsBefore rows

abbrev pub ListsIds : {X : Type 0} → (ℕ → Option X) → List (ℕ × X) → Type 0
ListsIds entry rows = Lists same_id (λ a b. a < b) IsId entry rows

abbrev pub ListsPairs : {X : Type 0} → (ℕ × ℕ → Option X) → List ((ℕ × ℕ) × X) → Type 0
ListsPairs entry rows = Lists same_pair IsPairBefore AreIds entry rows

-- this was read where a store holds this configuration
pub record IsLoaded (c : Config) (l : Loaded) : Type 0 where
  pub nodes : ListsIds (λ n. entry_at n c.nodes) l.nodes
  pub paths : ListsPairs (λ i. pair_at i.0 i.1 c.paths) l.paths
  pub sets : ListsIds (λ s. entry_at s c.sets) l.sets
  pub tables : ListsIds (λ t. entry_at t c.tables) l.tables
  pub subscriptions : ListsPairs (λ i. pair_at i.0 i.1 c.subscriptions) l.subscriptions
  pub fences : ListsIds (λ n. entry_at n c.fences) l.fences

-- ---- what stands in any store

-- the pairs of the space are these rows, but for one whose key has no byte
pub record AreRows {I X : Type 0} (key : I → List ℕ) (IsOne : I → Type 0) (value : X → List ℕ) (Can : X → Type 0)
    (space : Space) (rows : List (I × X)) : Type 0 where
  pub can : AllAre (λ e. IsOne e.0 × Can e.1) rows
  pub spelled : ranged [] (after [] (entries space)) ≡ spelled_rows [] key value rows

-- all six spaces
pub record AreAllRows (m : Store) (l : Loaded) : Type 0 where
  pub nodes : AreRows number_bytes IsId node_bytes CanNode (m 4) l.nodes
  pub paths : AreRows pair_key AreIds text_bytes IsText (m 5) l.paths
  pub sets : AreRows number_bytes IsId set_bytes CanSet (m 6) l.sets
  pub tables : AreRows number_bytes IsId table_bytes CanTable (m 7) l.tables
  pub subscriptions : AreRows pair_key AreIds subscription_bytes CanSubscription (m 8) l.subscriptions
  pub fences : AreRows number_bytes IsId fence_bytes CanFence (m 14) l.fences

-- it stopped at no row but of these spaces, and at no number above the limit
abbrev pub IsOfConfig : Stop → Type 0
IsOfConfig Failed = Unit {0}
IsOfConfig NoMemory = Unit {0}
IsOfConfig (BadRow space) = is_config space ≡ true
IsOfConfig (TooBig space) = ⊥
