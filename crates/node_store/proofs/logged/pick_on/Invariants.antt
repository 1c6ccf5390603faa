use Rattle.std.proofs.Common.{◌≡◌, List, length, map}
use Rattle.std.specs.List.{AllByRecursion}
use Rattle.std.specs.Vec.Iter.{into_iter_items, into_iter_len}
use Rattle.slon_model.specs.Deeds.{Logged}
use Rattle.slon_model.specs.Following.{is_on_one}
use Rattle.slon_laws.specs.Spelled.{AreWritten}
use Rattle.log_switch.specs.Between.{CanBeLogged}
use Rattle.node_change.specs.Done.{row_of}
use Rattle.node_store.specs.Bringing.{CanLogAll}
use Rattle.node_store.proofs.Sifting.{IsSifted}
use Rattle.node_store.proofs.logged.pick_on.Given as goal

abbrev pub invariant-loop-number : goal.invariant-loop-number
invariant-loop-number l =
    record {
      counted : into_iter_len l.number-iterator ≡ length (into_iter_items l.number-iterator);
      left : AllByRecursion CanBeLogged (into_iter_items l.number-iterator);
      can : CanLogAll l.found.rows l.found.actions;
      says : (logs : List Logged) → AreWritten logs → l.fn.rows ≡ map row_of logs →
          IsSifted (is_on_one l.tables) logs l.found (into_iter_items l.number-iterator);
    }
