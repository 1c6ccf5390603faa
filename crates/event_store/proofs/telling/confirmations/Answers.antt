use Rattle.event_store.specs.Telling.{confirmations_of}
use Rattle.event_store.proofs.Flattened.{Knows, known_rows, rows_found, rows_formed}
use Rattle.event_store.proofs.telling.confirmations.Goals as goal

pub returns-clause-found : goal.returns-clause-found
returns-clause-found g c m seen = rows_found m c.scan_rows.result (c.scan_rows.ensures.found m seen)

pub returns-clause-says : goal.returns-clause-says
returns-clause-says g c m s seen held id others progress told =
    let holds = held.confirmations in
    let knows : Knows s (m 11) =
    record { id = id; others = others; progress = progress; told = told; holds = holds } in
    let rows = known_rows (m 11) knows in
    c.scan_rows.ensures.gives m (confirmations_of s) seen rows.0 rows.1

pub returns-clause-form : goal.returns-clause-form
returns-clause-form g c m seen =
    rows_formed m c.scan_rows.result c.scan_rows.ensures.space (c.scan_rows.ensures.found m seen)
    (λ rows can spelled. c.scan_rows.ensures.gives m rows seen can spelled)
