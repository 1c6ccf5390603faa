-- What a store holds of a database that becomes a node.
use Rattle.std.specs.Prelude.{◌≡◌, ℕ, ◌==◌, true, false, List, [], ◌∷◌, Some}
use Rattle.std.specs.FinMap.{get}
use Rattle.slon_base.specs.Codec.{number_bytes, text_bytes}
use Rattle.slon_base.specs.Keeper.{Store, put_at}
use Rattle.slon_model.specs.Deeds.{Node}
use Rattle.node_state.specs.Held.{HoldsNode, HasMeta, is_own}

-- the meta entries of the id and the cluster of a node are put
abbrev pub named : ℕ → List ℕ → Store → Store
named id cluster m = put_at 1 (5 ∷ []) (text_bytes cluster) (put_at 1 (4 ∷ []) (number_bytes id) m)

-- the store holds the node, its id and its cluster, and all else of the spaces of the database is as before
pub record IsNode (n : Node) (m new : Store) : Type 0 where
  pub held : HoldsNode (Some n) new
  pub identity : HasMeta (Some n) (new 1)
  pub entries : (key : List ℕ) → (key ≡ 4 ∷ [] → ⊥) → (key ≡ 5 ∷ [] → ⊥) → get (new 1) key ≡ get (m 1) key
  pub own : (space : ℕ) → is_own space ≡ true → (space == 1) ≡ false → new space ≡ m space
