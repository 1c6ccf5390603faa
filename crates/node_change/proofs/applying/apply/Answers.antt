use Rattle.std.proofs.Common.{arith}
use Rattle.std.proofs.lemmas.Result.{err_from_is_err_and}
use Rattle.store_rows.proofs.Putting.{puts_on}
use Rattle.store_rows.proofs.Spaces.{hands_stop}
use Rattle.slon_model.specs.Deeds.{knowledge}
use Rattle.event_store.specs.Seen.{seen_event}
use Rattle.event_store.specs.Streams.{streams_of, emitted}
use Rattle.node_change.proofs.Confirmed.{becomes_as}
use Rattle.node_change.proofs.Meeting.{has_applied, shows_streams, shows_config, shows_both, shows_told}
use Rattle.node_change.proofs.applying.apply.Goals as goal

pub returns-clause-turns : goal.returns-clause-turns
returns-clause-turns g c n m own is held takes home =
    let stored = c.in_ok-store.ensures.turns m (streams_of n) own (shows_streams is held) in
    let told = c.in_ok-tell_views.ensures.turns m (knowledge n).config
    (emitted (seen_event c.args.event.now) (streams_of n)) (shows_both held stored) in
    let p = shows_config held told in
    becomes_as (g.K.Keeper.kept c.change.new.keeper) (λ new shows. has_applied (record {
      held = held;
      named = c.args.event.now.can.numbered;
      takes = takes;
      home = home;
      keeps = c.requires.keeps;
      can = c.args.event.now.can.body;
      streams = shows_told n (seen_event c.args.event.now) own told.has;
      config = shows;
    })) c.change.result (c.change.ensures.turns told.store (knowledge n).config p)

pub returns-clause-puts : goal.returns-clause-puts
returns-clause-puts g c sync =
    puts_on 3 0 3 (puts_on 3 0 3 c.in_ok-store.ensures.puts (c.in_ok-tell_views.ensures.puts sync) (omega arith))
    (c.change.ensures.puts sync) (omega arith)

pub returns-in_err-tell_views-clause-turns : goal.returns-in_err-tell_views-clause-turns
returns-in_err-tell_views-clause-turns g c n m own is held takes home =
    let stored = c.in_ok-store.ensures.turns m (streams_of n) own (shows_streams is held) in
    hands_stop _ _ c.from_residual-in_err-tell_views.result
    (err_from_is_err_and c.from_residual-in_err-tell_views.result c.from_residual-in_err-tell_views.ensures.1)
    (c.in_err-tell_views.ensures.turns m (knowledge n).config
    (emitted (seen_event c.args.event.now) (streams_of n)) (shows_both held stored))

pub returns-in_err-tell_views-clause-puts : goal.returns-in_err-tell_views-clause-puts
returns-in_err-tell_views-clause-puts g c sync =
    puts_on 3 0 3 c.in_ok-store.ensures.puts (c.in_err-tell_views.ensures.puts sync) (omega arith)
