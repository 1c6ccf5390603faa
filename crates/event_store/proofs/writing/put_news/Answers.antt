use Rattle.std.proofs.Common.{refl, sym}
use Rattle.slon_base.specs.Codec.{number_bytes}
use Rattle.slon_base.specs.Keeper.{put_at}
use Rattle.store_rows.proofs.Putting.{one_at_most}
use Rattle.store_rows.proofs.Spaces.{becomes}
use Rattle.event_store.proofs.Holding.{with_news}
use Rattle.event_store.proofs.writing.put_news.Goals as goal

pub returns-then-is_sync-clause-turns : goal.returns-then-is_sync-clause-turns
returns-then-is_sync-clause-turns g c base s p = rw (sym c.if-is_sync.ensures) p

pub returns-clause-turns : goal.returns-clause-turns
returns-clause-turns g c base s p =
    rw (sym c.if-is_sync.ensures)
    (becomes _ (put_at 13 (number_bytes c.args.origin) (number_bytes c.args.number)) _ c.put_row.result
    c.put_row.ensures.put c.put_row.ensures.only p
    (λ m. with_news c.args.origin c.args.number m c.requires.can.0 c.requires.can.1))

pub returns-then-is_sync-clause-puts : goal.returns-then-is_sync-clause-puts
returns-then-is_sync-clause-puts g c = one_at_most refl
