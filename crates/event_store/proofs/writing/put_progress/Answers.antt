use Rattle.slon_base.specs.Codec.{number_bytes}
use Rattle.slon_base.specs.Keeper.{put_at}
use Rattle.store_rows.proofs.Spaces.{becomes}
use Rattle.set_config.specs.Holds.{pair_key}
use Rattle.event_store.proofs.Holding.{with_progress}
use Rattle.event_store.proofs.writing.put_progress.Goals as goal

pub returns-clause-turns : goal.returns-clause-turns
returns-clause-turns g c base s own p =
    becomes _ (put_at 11 (pair_key (c.args.origin, c.args.own)) (number_bytes c.args.number)) _ c.put_row.result
    c.put_row.ensures.put c.put_row.ensures.only p
    (λ m. with_progress c.args.own c.args.origin c.args.number m own c.requires.can)
