use Rattle.slon_base.specs.Codec.{number_bytes}
use Rattle.slon_base.specs.Keeper.{put_at}
use Rattle.store_rows.proofs.Spaces.{becomes}
use Rattle.event_store.specs.Kept.{seen_view}
use Rattle.event_store.specs.Spellings.{view_bytes}
use Rattle.event_store.proofs.Holding.{with_view}
use Rattle.event_store.proofs.view.keep_view.Goals as goal

pub returns-clause-turns : goal.returns-clause-turns
returns-clause-turns g c base s p =
    becomes _ (put_at 9 (number_bytes c.args.set) (view_bytes (seen_view c.args.view.now))) _ c.put_row.result
    c.put_row.ensures.put c.put_row.ensures.only p
    (λ m. with_view c.args.set (seen_view c.args.view.now) m c.requires.set c.requires.can)
