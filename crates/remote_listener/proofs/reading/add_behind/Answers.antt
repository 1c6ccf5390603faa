use Rattle.std.proofs.Common.{◌∙◌, ◌++◌, map, reverse, sym, ap, arith}
use Rattle.std.proofs.lemmas.List.{map-append, append-nil}
use Rattle.slon_model.specs.Deeds.{held}
use Rattle.event_store.specs.Seen.{seen_event}
use Rattle.event_store.specs.Streams.{streams_of}
use Rattle.event_store.proofs.Backward.{after_is_all}
use Rattle.remote_listener.proofs.Behind.{none_behind}
use Rattle.remote_listener.proofs.reading.add_behind.Goals as goal

pub returns-then-want-gt-STORED_LIMIT-clause-says : goal.returns-then-want-gt-STORED_LIMIT-clause-says
returns-then-want-gt-STORED_LIMIT-clause-says g c m n seen node =
    sym (append-nil (map seen_event c.args.events.now))
    ∙ ap (λ l. map seen_event c.args.events.now ++ reverse l)
    (sym (none_behind c.args.want.now.0 c.args.want.now.1 (held n) (omega (arith, c.if-want-gt-STORED_LIMIT.true))
    node.regular.falling))

pub returns-clause-says : goal.returns-clause-says
returns-clause-says g c m n seen node =
    ap (map seen_event) c.in_ok-append.ensures ∙ map-append seen_event c.args.events.now c.in_ok-more.more
    ∙ ap (λ l. map seen_event c.args.events.now ++ l)
    (after_is_all c.args.want.now.0 c.args.want.now.1 (held n) c.in_ok-more.more node.regular.falling
    (c.in_ok-more.ensures.says m (streams_of n) seen node.streams))
