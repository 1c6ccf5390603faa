use Rattle.slon_base.specs.Codec.{number_bytes}
use Rattle.slon_base.specs.Keeper.{del_at}
use Rattle.store_rows.proofs.Spaces.{becomes}
use Rattle.event_store.proofs.Holding.{without_view}
use Rattle.event_store.proofs.view.drop_view.Goals as goal

pub returns-clause-turns : goal.returns-clause-turns
returns-clause-turns g c base s p =
    becomes _ (del_at 9 (number_bytes c.args.set)) _ c.del_row.result c.del_row.ensures.put c.del_row.ensures.only p
    (λ m. without_view c.args.set m c.requires.set)
