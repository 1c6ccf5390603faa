use Rattle.std.proofs.Common.{◌≡◌, ◌∷◌, ◌++◌, ◌∙◌, ◌<◌, length, Some, arith, ap, sym, refl}
use Rattle.std.specs.Option.{option_to_list}
use Rattle.event_store.proofs.Queues.{goes_on, ends_at}
use Rattle.event_store.proofs.queue.drop_first.Goals as goal

pub returns-then-event-number : goal.returns-then-event-number
returns-then-event-number c =
    let some : 0 < length c.loop-event.line.items = omega (
      arith,
      c.in-Some.ensures.variant.0 refl,
      c.loop-event.line.ok,
    ) in
    sym (ends_at c.args.number c.in-Some.event.now c.loop-event.line.items some
    c.in-Some.ensures.lookup c.if-event-number.true c.loop-event.invariant.0) ∙ c.loop-event.invariant.1

pub loop-event-preserved : goal.loop-event-preserved
loop-event-preserved c =
    let e = c.in-Some.event.now in
    let rest = c.pop_front.new.self.items in
    let first : c.pop_front.result ≡ Some e = c.pop_front.ensures.value e (c.in-Some.ensures.variant.0 refl)
    ∙ ap Some (sym c.in-Some.ensures.lookup) in
    let all : c.loop-event.line.items ≡ e ∷ rest = c.pop_front.ensures.items
    ∙ ap (λ o. option_to_list o ++ rest) first in
    let on = goes_on c.args.number e c.loop-event.line.items rest all c.if-event-number.false c.loop-event.invariant.0
    in
    (on.0, on.1 ∙ c.loop-event.invariant.1)
