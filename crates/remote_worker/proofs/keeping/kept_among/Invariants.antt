use Rattle.std.proofs.Common.{◌≡◌, ◌++◌, Some, drop, map}
use Rattle.slon_base.specs.Codec.{AllAre}
use Rattle.slon_base.specs.Keeper.{Store, sight}
use Rattle.store_rows.specs.Rows.{IsId}
use Rattle.store_rows.proofs.Spaces.{Looked}
use Rattle.slon_model.specs.Config.{Config}
use Rattle.set_config.specs.Holds.{HoldsConfig}
use Rattle.event_store.specs.Kept.{seen_view}
use Rattle.event_store.specs.Seen.{seen_event}
use Rattle.event_store.specs.Spellings.{CanView}
use Rattle.node_state.specs.Held.{seen_views}
use Rattle.remote_worker.specs.Keeping.{CanFollow, kept_among, seen_kept}
use Rattle.remote_worker.proofs.keeping.kept_among.Given as goal

abbrev pub invariant-loop-kept : goal.invariant-loop-kept
invariant-loop-kept g l =
    record {
      looked : Looked (g.K.Keeper.kept l.fn.keeper) (g.K.Keeper.kept l.keeper);
      views : AllAre (λ e. IsId e.0 × CanView (seen_view e.1)) (drop l.kept-index l.views);
      can : AllAre CanFollow l.sets;
      says : (m : Store) (c : Config) → sight (g.K.Keeper.kept l.fn.keeper) ≡ Some m → HoldsConfig c m →
          l.rows ≡ c.tables →
          map seen_kept l.sets
          ++ kept_among l.own c (seen_event l.event) (seen_views (drop l.kept-index l.views))
          ≡ kept_among l.own c (seen_event l.event) (seen_views l.views);
    }
