use Rattle.std.proofs.Common.{map, sym, subst, ◌∙◌}
use Rattle.std.proofs.lemmas.Result.{err_from_is_err_and}
use Rattle.event_store.specs.Behind.{row_as, HasBehind, AreAfter}
use Rattle.event_store.proofs.Behind.{AreKeys, rows_can, of_keys}
use Rattle.event_store.proofs.Behind.{same_events, made_behind, read_after, gives_as}
use Rattle.event_store.proofs.Formed.{none_lacks, stops_at, passes_on, gives_stop}
use Rattle.event_store.proofs.reading.after.Goals as goal

pub returns-in_err-rows-clause-gives : goal.returns-in_err-rows-clause-gives
returns-in_err-rows-clause-gives g c m events seen are =
    let result = c.from_residual-in_err-rows.result in
    let keys : AreKeys c.args.origin c.args.number c.as_slice.result.now c.as_slice-2.result.now =
    (c.as_slice.ensures ∙ c.in_ok-prefix.ensures, c.as_slice-2.ensures ∙ c.in_ok-from.ensures) in
    gives_stop _ result (err_from_is_err_and result c.from_residual-in_err-rows.ensures.1)
    (c.in_err-rows.ensures.gives m (map row_as events) seen (rows_can events)
    (of_keys c.as_slice.result.now c.as_slice-2.result.now keys are))

pub returns-in_err-rows-clause-says : goal.returns-in_err-rows-clause-says
returns-in_err-rows-clause-says g c m s seen held =
    let read = read_after c.args.origin c.args.number s m c.requires.can held in
    gives_as (AreAfter c.args.origin c.args.number s.events) read.events c.from_residual-in_err-rows.result
    read.are_after (returns-in_err-rows-clause-gives g c m read.events seen read.are_behind)

pub returns-clause-found : goal.returns-clause-found
returns-clause-found g c m seen =
    let keys : AreKeys c.args.origin c.args.number c.as_slice.result.now c.as_slice-2.result.now =
    (c.as_slice.ensures ∙ c.in_ok-prefix.ensures, c.as_slice-2.ensures ∙ c.in_ok-from.ensures) in
    made_behind c.args.origin c.args.number c.in_ok-events_of.field-0 c.as_slice.result.now c.as_slice-2.result.now
    keys (c.in_ok-events_of.ensures, (c.in_ok-rows.ensures.found m seen).1)

pub returns-clause-gives : goal.returns-clause-gives
returns-clause-gives g c m events seen are =
    let keys : AreKeys c.args.origin c.args.number c.as_slice.result.now c.as_slice-2.result.now =
    (c.as_slice.ensures ∙ c.in_ok-prefix.ensures, c.as_slice-2.ensures ∙ c.in_ok-from.ensures) in
    let made = c.in_ok-events_of.ensures in
    same_events c.args.origin c.in_ok-events_of.field-0 events made.origins are.origins (made.rows_are
    ∙ c.in_ok-rows.ensures.gives m (map row_as events) seen (rows_can events)
    (of_keys c.as_slice.result.now c.as_slice-2.result.now keys are))

pub returns-clause-says : goal.returns-clause-says
returns-clause-says g c m s seen held =
    let read = read_after c.args.origin c.args.number s m c.requires.can held in
    subst (AreAfter c.args.origin c.args.number s.events)
    (sym (returns-clause-gives g c m read.events seen read.are_behind)) read.are_after

pub returns-in_err-rows-clause-form : goal.returns-in_err-rows-clause-form
returns-in_err-rows-clause-form g c m seen =
    let result = c.from_residual-in_err-rows.result in
    let keys : AreKeys c.args.origin c.args.number c.as_slice.result.now c.as_slice-2.result.now =
    (c.as_slice.ensures ∙ c.in_ok-prefix.ensures, c.as_slice-2.ensures ∙ c.in_ok-from.ensures) in
    passes_on _ _ result (err_from_is_err_and result c.from_residual-in_err-rows.ensures.1) (λ space handed. handed)
    (stops_at 10 (HasBehind c.args.origin c.args.number m) _ c.in_err-rows.ensures.space
    (λ formed. c.in_err-rows.ensures.gives m (map row_as formed.0) seen
    (rows_can formed.0) (of_keys c.as_slice.result.now c.as_slice-2.result.now keys formed.1)))

pub returns-clause-form : goal.returns-clause-form
returns-clause-form g c m seen = none_lacks (c.in_ok-events_of.field-0, returns-clause-found g c m seen)
