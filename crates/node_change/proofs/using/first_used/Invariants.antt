use Rattle.std.proofs.Common.{◌≡◌, Some, drop}
use Rattle.std.specs.Prelude.{find}
use Rattle.slon_base.specs.Codec.{AllAre}
use Rattle.slon_base.specs.Keeper.{Store, sight}
use Rattle.store_rows.specs.Rows.{IsId}
use Rattle.store_rows.proofs.Spaces.{Looked}
use Rattle.slon_model.specs.Config.{Config}
use Rattle.slon_model.specs.Membership.{uses}
use Rattle.set_config.specs.Holds.{HoldsConfig}
use Rattle.node_state.specs.Held.{IsOrderly}
use Rattle.node_change.proofs.using.first_used.Given as goal

abbrev pub invariant-loop-set : goal.invariant-loop-set
invariant-loop-set g l =
    record {
      looked : Looked (g.K.Keeper.kept l.fn.keeper) (g.K.Keeper.kept l.keeper);
      ids : AllAre (λ e. IsId e.0) (drop l.set-index l.sets);
      says : (m : Store) (c : Config) → sight (g.K.Keeper.kept l.fn.keeper) ≡ Some m → HoldsConfig c m →
          IsOrderly c → find (uses l.node c) (drop l.set-index l.sets) ≡ find (uses l.node c) l.sets;
    }
