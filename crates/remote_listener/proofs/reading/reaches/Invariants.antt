use Rattle.std.proofs.Common.{◌≡◌, ◌++◌, Some, drop, map}
use Rattle.slon_base.specs.Codec.{AllAre}
use Rattle.slon_base.specs.Keeper.{Store, sight}
use Rattle.store_rows.specs.Rows.{IsId}
use Rattle.store_rows.proofs.Spaces.{Looked}
use Rattle.slon_model.specs.Deeds.{Node}
use Rattle.node_state.specs.Held.{NodeHeld}
use Rattle.remote_listener.specs.Asking.{want_of}
use Rattle.remote_listener.proofs.reading.reaches.Given as goal

abbrev pub invariant-loop-origin : goal.invariant-loop-origin
invariant-loop-origin g l =
    record {
      looked : Looked (g.K.Keeper.kept l.fn.keeper) (g.K.Keeper.kept l.keeper);
      ids : AllAre IsId (drop l.origin-index l.origins);
      found : AllAre (λ w. IsId w.0) l.wants;
      says : (m : Store) (n : Node) → sight (g.K.Keeper.kept l.fn.keeper) ≡ Some m → n.id ≡ l.own → NodeHeld n m →
          l.wants ++ map (want_of n l.queue) (drop l.origin-index l.origins) ≡ map (want_of n l.queue) l.origins;
    }
