use Rattle.std.proofs.Common.{◌≡◌, ◌++◌, drop}
use Rattle.slon_base.specs.Codec.{AllAre, IsText}
use Rattle.store_rows.specs.Rows.{IsId}
use Rattle.node_rows.specs.Spellings.{CanTable}
use Rattle.remote_worker.proofs.Naming.{names_in}
use Rattle.remote_worker.proofs.reading.names_among.Given as goal

abbrev pub invariant-loop-row : goal.invariant-loop-row
invariant-loop-row l =
    record {
      rows : AllAre (λ e. IsId e.0 × CanTable e.1) (drop l.row-index l.rows);
      texts : AllAre IsText l.names;
      says : l.names ++ names_in l.set (drop l.row-index l.rows) ≡ names_in l.set l.rows;
    }
