use Rattle.std.proofs.Common.{◌≡◌, ◌++◌, drop}
use Rattle.slon_base.specs.Codec.{AllAre, IsText}
use Rattle.store_rows.specs.Rows.{IsId}
use Rattle.node_rows.specs.Spellings.{CanTable}
use Rattle.remote_worker.specs.Keeping.{tables_among}
use Rattle.remote_worker.proofs.keeping.tables_among.Given as goal

abbrev pub invariant-loop-id : goal.invariant-loop-id
invariant-loop-id l =
    record {
      rows : AllAre (λ e. IsId e.0 × CanTable e.1) (drop l.id-index l.rows);
      texts : AllAre (λ t. IsText t.1) l.tables;
      says : l.tables ++ tables_among l.set (drop l.id-index l.rows) ≡ tables_among l.set l.rows;
    }
