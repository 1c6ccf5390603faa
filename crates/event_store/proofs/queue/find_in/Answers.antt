use Rattle.std.proofs.Common.{◌∙◌, ◌<◌, length, sym, rules, arith}
use Rattle.std.proofs.lemmas.List.Sorted.{answers_always}
use Rattle.event_store.specs.declared.event.Event.{Event}
use Rattle.event_store.proofs.Queues.{found_at, found_none, got}
use Rattle.event_store.proofs.queue.find_in.Goals as goal

pub returns-in-Ok : goal.returns-in-Ok
returns-in-Ok c =
    let met = c.in-Ok.ensures.position (λ (e : Event). e.number) (answers_always _ _ _ (λ f a r g called.
    search rules)) in
    let items = c.args.line.now.items in
    let within : c.in-Ok.place < length items = omega (arith, c.in-Ok.ensures.bound, c.args.line.now.ok) in
    got items c.in-Ok.place c.get.result c.get.ensures.item
    ∙ found_at c.args.number 0 items c.in-Ok.place c.requires within met

pub returns-in-Err : goal.returns-in-Err
returns-in-Err c =
    let parted = c.in-Err.ensures.position (λ (e : Event). e.number) (answers_always _ _ _ (λ f a r g called.
    search rules)) in
    sym (found_none c.args.number c.args.line.now.items c.in-Err.field-0 c.requires parted)
