use Rattle.std.proofs.Common.{ℕ, List, drop}
use Rattle.slon_model.specs.Deeds.{Logged}
use Rattle.slon_model.specs.Following.{is_on_one}
use Rattle.node_store.specs.Bringing.{CanLogAll, HasLogged}
use Rattle.remote_worker.specs.Running.{CanLogFound}
use Rattle.remote_worker.proofs.Together.{IsParted}
use Rattle.remote_worker.proofs.sharing.rows_on.Given as goal

abbrev pub invariant-loop-number : goal.invariant-loop-number
invariant-loop-number l =
    let rows = drop l.number-index l.number-items in
    record {
      left : CanLogAll rows l.actions;
      can : CanLogFound l.part;
      has : (origin : ℕ) (logs : List Logged) → HasLogged origin logs l.found.rows l.found.actions →
          IsParted (is_on_one l.tables) logs l.part (record { rows = rows; actions = l.actions });
    }
