use Rattle.std.proofs.Common.{◌≡◌, ℕ, ◌<◌, Some}
use Rattle.std.specs.FinMap.{empty}
use Rattle.slon_base.specs.Keeper.{Store, sight}
use Rattle.store_rows.proofs.Spaces.{Looked}
use Rattle.app_store.proofs.work.is_empty.Given as goal

abbrev pub invariant-loop-space : goal.invariant-loop-space
invariant-loop-space g l =
    record {
      looked : Looked (g.K.Keeper.kept l.fn.keeper) (g.K.Keeper.kept l.keeper);
      none : (m : Store) → sight (g.K.Keeper.kept l.fn.keeper) ≡ Some m → (space : ℕ) → space < l.space →
          m space ≡ empty;
    }
