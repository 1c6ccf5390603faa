use Rattle.std.proofs.Common.{◌≡◌, true, Ok, drop}
use Rattle.slon_base.specs.Codec.{AllAre, IsText}
use Rattle.app_store.specs.Base.{base_of}
use Rattle.remote_worker.specs.Looking.{Looking}
use Rattle.remote_worker.proofs.Finding.{LeavesOf}
use Rattle.remote_worker.proofs.fetching.check_tables.Given as goal

abbrev pub invariant-loop-name : goal.invariant-loop-name
invariant-loop-name g l =
    record {
      up : (l.own.state.up ≡ true) × (l.provider.state.up ≡ true);
      texts : AllAre IsText (drop l.name-index l.names);
      looks : Looking (λ p q (u : Unit {0}). LeavesOf l.names (drop l.name-index l.names) p q)
          (record { from = base_of g.K.Keeper.kept l.fn.own; to = base_of g.K.Keeper.kept l.fn.provider }) (Ok tt)
          (record { from = base_of g.K.Keeper.kept l.own; to = base_of g.K.Keeper.kept l.provider });
    }
