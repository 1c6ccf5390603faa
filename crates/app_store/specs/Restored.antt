-- What a database that comes up finds in its store.
use Rattle.std.specs.Prelude.{◌≡◌, ◌⊎◌, ◌<◌, ◌^◌, ℕ, Option, Some, Result, Ok, Err}
use Rattle.slon_base.specs.Keeper.{Store, Kept}
use Rattle.slon_base.specs.Codec.{number_bytes}
use Rattle.slon_model.specs.Deeds.{Node}
use Rattle.store_rows.specs.declared.stop.Stop.{Stop}
use Rattle.store_rows.specs.Steps.{IsOutside}
use Rattle.node_state.specs.Held.{HoldsNode, HasMeta}
use Rattle.node_state.specs.Known.{IsKnown}
use Rattle.app_store.specs.declared.restoring.Restored.{Restored}
use Rattle.app_store.specs.Spelled.{meta, HasNumbers, first_rows}
use Rattle.app_store.specs.Works.{Recovered}

-- a store has these numbers, which can be stored, and this node
pub record AreOf (node : Option Node) (stamp xids numbers : ℕ) (m : Store) : Type 0 where
  pub stamp_small : stamp < 2 ^ 63
  pub xids_small : xids < 2 ^ 63
  pub numbers_small : numbers < 2 ^ 63
  pub numbers_are : HasNumbers stamp xids numbers (m meta)
  pub node_held : HoldsNode node m
  pub node_named : HasMeta node (m meta)

-- the node and the numbers were found, or the store failed, and the first rows may stand where there were none
abbrev pub RestoresTo : Store → Option Node → ℕ → ℕ → ℕ → Result Restored Stop → Kept → Type 0
RestoresTo m known stamp xids numbers (Ok r) new =
    Recovered m stamp xids numbers r.stamp r.numbers new.held × IsKnown known r.node.identity r.node.members
RestoresTo m known stamp xids numbers (Err stop) new =
    ((new.held ≡ Some m) ⊎ ((stamp ≡ 0) × (new.held ≡ Some (first_rows (number_bytes 1) (number_bytes 65) m))))
    × IsOutside stop
