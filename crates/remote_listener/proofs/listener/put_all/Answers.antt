use Rattle.std.proofs.Common.{◌≡◌, ◌∙◌, map, sym, ap}
use Rattle.std.specs.Vec.Iter.{into_iter_items}
use Rattle.slon_model.specs.Polls.{queued, all_queued}
use Rattle.event_store.specs.Seen.{seen_event}
use Rattle.remote_listener.proofs.Lines.{put_fits}
use Rattle.remote_listener.proofs.listener.put_all.Goals as goal

pub loop-event-init : goal.loop-event-init
loop-event-init c lines fits =
    let items : into_iter_items c.into_iter-event-iterator.result ≡ c.into_vec-event-items.result.items
    = c.into_iter-event-iterator.ensures.into_iter_gives.0 in
    (lines, fits, ap (λ es. all_queued (map seen_event es) lines) (items ∙ c.into_vec-event-items.ensures))

pub loop-event-preserved : goal.loop-event-preserved
loop-event-preserved c lines fits =
    let before = c.loop-event.invariant lines fits in (
      queued (seen_event c.in-Some.event) before.0,
      put_fits c.in-Some.event before.0 c.loop-event.queue c.put.new.self before.1 c.in_ok-_is_new.ensures.ok,
      ap (λ es. all_queued (map seen_event es) before.0) (sym c.in-Some.ensures.steps.0) ∙ before.2,
    )
