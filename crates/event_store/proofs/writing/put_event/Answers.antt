use Rattle.std.proofs.Common.{◌∷◌, refl, sym, ◌∙◌, subst}
use Rattle.slon_base.specs.Keeper.{put_at}
use Rattle.store_rows.proofs.Putting.{one_at_most}
use Rattle.store_rows.proofs.Spaces.{becomes}
use Rattle.event_store.specs.Holds.{ShowsStreams}
use Rattle.event_store.specs.Seen.{event_by}
use Rattle.event_store.specs.Spellings.{CanEvent}
use Rattle.event_store.proofs.Holding.{with_event}
use Rattle.event_store.proofs.writing.put_event.Goals as goal

pub returns-clause-turns : goal.returns-clause-turns
returns-clause-turns g c base s p =
    let taken = c.args.taken.now in
    let body = c.args.body.now in
    let e = event_by c.args.name.0 c.args.name.1 taken body in
    let key = sym (c.as_slice.ensures ∙ c.in_ok-key.ensures) in
    let value = sym (c.as_slice-2.ensures ∙ c.in_ok-value.ensures) in
    let can : CanEvent e = record { numbered = c.requires.name; taken = c.requires.can.0; body = c.requires.can.1 } in
    becomes _ (put_at 10 c.as_slice.result.now c.as_slice-2.result.now) _ c.put_pair.result c.put_pair.ensures.put
    c.put_pair.ensures.only p
    (λ m shows. subst (ShowsStreams base (record s { events = e ∷ s.events }))
    (λ k. put_at 10 (key k) (value k) m) (with_event e m can shows))

pub returns-in_err-key-clause-puts : goal.returns-in_err-key-clause-puts
returns-in_err-key-clause-puts g c = one_at_most refl

pub returns-in_err-value-clause-puts : goal.returns-in_err-value-clause-puts
returns-in_err-value-clause-puts g c = one_at_most refl
