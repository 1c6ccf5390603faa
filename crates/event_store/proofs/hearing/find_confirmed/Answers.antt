use Rattle.std.proofs.Common.{ℕ}
use Rattle.event_store.specs.Streams.{confirmed_at}
use Rattle.event_store.proofs.hearing.find_confirmed.Goals as goal

pub returns-clause-says : goal.returns-clause-says
returns-clause-says g c m s seen held =
    let i : ℕ × ℕ = (c.args.origin, c.args.node) in
    c.get_row.ensures.gives m (confirmed_at s i) seen (held.confirmations.spelled i c.requires.can)
    (held.confirmations.lookups i c.requires.can)
