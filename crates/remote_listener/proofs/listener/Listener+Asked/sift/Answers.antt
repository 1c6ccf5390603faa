use Rattle.std.proofs.Common.{◌∙◌, ap, filter}
use Rattle.event_store.specs.Streams.{streams_of}
use Rattle.event_store.specs.Telling.{is_news}
use Rattle.remote_listener.proofs.listener.Listener+Asked.sift.Goals as goal

pub returns-in-Ok-clause-looks : goal.returns-in-Ok-clause-looks
returns-in-Ok-clause-looks g c p ready memory =
    let look = c.in-Ok.ensures.looks p ready memory in
    (λ n is. look.0 n is ∙ ap (filter (is_news (streams_of n))) c.as_slice.ensures.value, look.1)
