use Rattle.std.proofs.Common.{◌≡◌, ◌++◌, Some, drop}
use Rattle.slon_base.specs.Codec.{AllAre}
use Rattle.slon_base.specs.Keeper.{Store, sight}
use Rattle.store_rows.specs.Rows.{IsId}
use Rattle.store_rows.proofs.Spaces.{Looked}
use Rattle.slon_model.specs.Config.{Config}
use Rattle.set_config.specs.Holds.{HoldsConfig}
use Rattle.node_change.specs.Listening.{known_among}
use Rattle.node_change.proofs.listening.known_among.Given as goal

abbrev pub invariant-loop-node : goal.invariant-loop-node
invariant-loop-node g l =
    record {
      looked : Looked (g.K.Keeper.kept l.fn.keeper) (g.K.Keeper.kept l.keeper);
      ids : AllAre (λ e. IsId e.0) (drop l.node-index l.nodes);
      found : AllAre IsId l.known;
      says : (m : Store) (c : Config) → sight (g.K.Keeper.kept l.fn.keeper) ≡ Some m → HoldsConfig c m →
          l.known ++ known_among c (drop l.node-index l.nodes)
          ≡ known_among c l.nodes;
    }
