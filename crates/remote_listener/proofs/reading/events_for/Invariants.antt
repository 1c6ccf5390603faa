use Rattle.std.proofs.Common.{◌≡◌, ◌++◌, Some, drop, map}
use Rattle.slon_base.specs.Codec.{AllAre}
use Rattle.slon_base.specs.Keeper.{Store, sight}
use Rattle.store_rows.specs.Rows.{IsId}
use Rattle.store_rows.proofs.Spaces.{Looked}
use Rattle.slon_model.specs.Deeds.{Node}
use Rattle.event_store.specs.Seen.{seen_event}
use Rattle.node_state.specs.Held.{NodeHeld}
use Rattle.remote_listener.specs.Asking.{all_behind}
use Rattle.remote_listener.proofs.reading.events_for.Given as goal

abbrev pub invariant-loop-want : goal.invariant-loop-want
invariant-loop-want g l =
    record {
      looked : Looked (g.K.Keeper.kept l.fn.keeper) (g.K.Keeper.kept l.keeper);
      ids : AllAre (λ w. IsId w.0) (drop l.want-index l.wants);
      says : (m : Store) (n : Node) → sight (g.K.Keeper.kept l.fn.keeper) ≡ Some m → NodeHeld n m →
          map seen_event l.events ++ all_behind n (drop l.want-index l.wants) ≡ all_behind n l.wants;
    }
