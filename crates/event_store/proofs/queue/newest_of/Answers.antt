use Rattle.std.proofs.Common.{◌-◌, ◌<◌, ◌∙◌, length, get_or, ap, refl, arith}
use Rattle.event_store.proofs.Queues.{newest_last}
use Rattle.event_store.proofs.queue.newest_of.Goals as goal

pub returns-in-Some : goal.returns-in-Some
returns-in-Some c =
    let items = c.args.line.now.items in
    let long = c.args.line.now.ok.0 in
    let some : 0 < length items = omega (arith, c.in-Some.ensures.variant.0 refl, long) in
    newest_last items (length items - 1) c.in-Some.event.now (omega (arith, some)) (c.in-Some.ensures.lookup
    ∙ ap (λ n. get_or items (n - 1) c.in-Some.event.now) long)
