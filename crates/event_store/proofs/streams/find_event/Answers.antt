use Rattle.std.proofs.Common.{ℕ, sym, ◌∙◌}
use Rattle.std.specs.Option.{option_map}
use Rattle.std.proofs.lemmas.Result.{err_from_is_err_and}
use Rattle.event_store.specs.Streams.{event_at}
use Rattle.event_store.specs.Formed.{HasEvent}
use Rattle.event_store.specs.Seen.{row_of}
use Rattle.event_store.proofs.Formed.{none_lacks, stops_at, passes_on, gives_stop}
use Rattle.event_store.proofs.Events.{row_spelled, row_can, row_found, row_formed}
use Rattle.event_store.proofs.streams.find_event.Goals as goal

pub returns-in_err-get_row-clause-says : goal.returns-in_err-get_row-clause-says
returns-in_err-get_row-clause-says g c m s seen held =
    let i : ℕ × ℕ = (c.args.origin, c.args.number) in
    let there = event_at s.events i in
    gives_stop _ c.from_residual.result (err_from_is_err_and c.from_residual.result c.from_residual.ensures.1)
    (c.in_err-get_row.ensures.gives m (option_map row_of there) seen
    (row_can there (held.events.spelled i c.requires.can)) (held.events.lookups i c.requires.can ∙ row_spelled there))

pub returns-in_err-get_row-clause-form : goal.returns-in_err-get_row-clause-form
returns-in_err-get_row-clause-form g c m seen =
    passes_on _ _ c.from_residual.result (err_from_is_err_and c.from_residual.result c.from_residual.ensures.1)
    (λ space handed. handed)
    (stops_at 10 (HasEvent c.args.origin c.args.number m) _ c.in_err-get_row.ensures.space
    (λ formed. c.in_err-get_row.ensures.gives m (option_map row_of formed.row) seen (row_can formed.row formed.can)
    (formed.spelled ∙ row_spelled formed.row)))

pub returns-in-Some-clause-says : goal.returns-in-Some-clause-says
returns-in-Some-clause-says g c m s seen held =
    let i : ℕ × ℕ = (c.args.origin, c.args.number) in
    let there = event_at s.events i in
    let found = c.in_ok-get_row.ensures.gives m (option_map row_of there) seen
    (row_can there (held.events.spelled i c.requires.can)) (held.events.lookups i c.requires.can ∙ row_spelled there) in
    row_found s.events i c.in-Some.row (sym c.in-Some.is ∙ found)

pub returns-in-Some-clause-form : goal.returns-in-Some-clause-form
returns-in-Some-clause-form g c m seen =
    none_lacks (row_formed (c.args.origin, c.args.number) _ c.in-Some.row _ c.requires.can c.in-Some.is
    c.in_ok-get_row.ensures.can (c.in_ok-get_row.ensures.found m seen))
