use Rattle.std.proofs.Common.{◌≡◌, ◌++◌, ℕ, Option, Some, drop}
use Rattle.slon_base.specs.Codec.{AllAre}
use Rattle.slon_base.specs.Keeper.{Store, sight}
use Rattle.store_rows.specs.Rows.{IsId}
use Rattle.store_rows.proofs.Spaces.{Looked}
use Rattle.node_state.specs.Handed.{HandedCounts}
use Rattle.node_state.specs.Progress.{counted, AreCounts}
use Rattle.node_state.proofs.telling.read_progress.Given as goal

abbrev pub invariant-loop-node : goal.invariant-loop-node
invariant-loop-node g l =
    record {
      looked : Looked (g.K.Keeper.kept l.fn.keeper) (g.K.Keeper.kept l.keeper);
      ids : AllAre (λ e. IsId e.0) (drop l.node-index l.nodes);
      says : (m : Store) (count : ℕ → Option ℕ) → sight (g.K.Keeper.kept l.fn.keeper) ≡ Some m →
          AreCounts l.own count m →
          l.progress ++ counted count (drop l.node-index l.nodes) ≡ counted count l.nodes;
      form : (m : Store) → sight (g.K.Keeper.kept l.fn.keeper) ≡ Some m → (space : ℕ) →
          HandedCounts l.own l.nodes m space → HandedCounts l.own (drop l.node-index l.nodes) m space;
    }
