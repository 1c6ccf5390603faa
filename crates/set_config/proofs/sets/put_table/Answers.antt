use Rattle.slon_base.specs.Codec.{number_bytes}
use Rattle.slon_base.specs.Keeper.{put_at}
use Rattle.node_rows.specs.Spellings.{table_bytes}
use Rattle.store_rows.proofs.Spaces.{becomes}
use Rattle.set_config.proofs.Holding.{puts, with_tables}
use Rattle.set_config.proofs.sets.put_table.Goals as goal

pub returns-clause-turns : goal.returns-clause-turns
returns-clause-turns g c base config p =
    let row = c.args.row.now in
    becomes _ (put_at 7 (number_bytes c.args.table) (table_bytes row)) _ c.put_row.result c.put_row.ensures.put
    c.put_row.ensures.only p
    (λ m. with_tables m (puts c.args.table row config.tables c.requires.can.0 c.requires.can.1))
